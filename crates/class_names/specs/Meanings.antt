-- What a name of a class means where it stands (JLS 6.4.1, 6.5.5, 7.5).
use Rattle.std.specs.Prelude.{ℕ, Bool, false, not, ◌&&◌, ◌||◌, nat_eq, if◌then◌else◌, Option, Some, None, List, [], ◌∷◌, filter, codes}
use Rattle.std.specs.List.{list_any}
use Rattle.std.specs.Str.{bytes_eq}
use Rattle.program_model.specs.declared.kinds.ClassId.{ClassId}
use Rattle.java_syntax.specs.declared.declaration_trees.Import.{Import}
use Rattle.class_names.specs.declared.class_name.ClassName.{ClassName}
use Rattle.class_names.specs.declared.scope.Scope.{Scope}
use Rattle.class_names.specs.declared.levels.Level.{Level}
use Rattle.class_names.specs.declared.levels.Level.TheVariants.{OwnOrImported, OfPackage, OnDemand}
use Rattle.class_names.specs.declared.meaning.Meaning.{Meaning}
use Rattle.class_names.specs.declared.meaning.Meaning.TheVariants.{Named, NoClass, TwoClasses}
use Rattle.class_names.specs.ClassNames.{class_at, class_of_name, name_of_class, simply_named}

-- a compilation unit (JLS 7.3), as far as names of classes in it depend on it: its number, whether it is a section of a
-- stub, its package and its imports
pub record CompilationUnit : Type 0 where
  pub number : ℕ
  pub library : Bool
  pub package_name : List ℕ
  pub imports : List Import

abbrev pub unit_of : Scope → CompilationUnit
unit_of s = record { number = s.number; library = s.library; package_name = s.unit.now.package; imports = s.unit.now.imports.items }

-- the package whose classes each unit imports (JLS 7.5)
abbrev pub java_lang : List ℕ
java_lang = codes "java.lang"

-- a single-type import of the class (JLS 7.5.1)
abbrev pub is_import_of : List ℕ → Import → Bool
is_import_of name i = not i.star && bytes_eq name i.name

-- an import on demand of the package (JLS 7.5.2)
abbrev pub is_import_on_demand_of : List ℕ → Import → Bool
is_import_on_demand_of package_name i = i.star && bytes_eq package_name i.name

-- the class has a simple name on the level. The first level has what the unit declares or imports singly, the second what
-- its package has, and the third what it imports on demand, as each unit imports `java.lang`
abbrev pub is_on : CompilationUnit → Level → ClassName → Bool
is_on u OwnOrImported k = nat_eq k.unit u.number || list_any (is_import_of (name_of_class k)) u.imports
is_on u OfPackage k = bytes_eq k.package u.package_name
is_on u OnDemand k = bytes_eq k.package java_lang || list_any (is_import_on_demand_of k.package) u.imports

-- in a stub only the classes of stubs are seen
abbrev pub is_seen : CompilationUnit → ClassName → Bool
is_seen u k = not u.library || k.library

abbrev pub is_seen_on : CompilationUnit → Level → ClassName → Bool
is_seen_on u level k = is_seen u k && is_on u level k

abbrev pub has : (ClassName → Bool) → Option ClassName → Bool
has test None = false
has test (Some k) = test k

-- those of the classes that pass the test
abbrev pub those : List ClassName → (ClassName → Bool) → List ClassId → List ClassId
those classes test cs = filter (λ c. has test (class_at classes c)) cs

-- the one class of a level, if it has one alone
abbrev pub sole : List ClassId → Meaning
sole [] = NoClass
sole (c ∷ []) = Named c
sole (c ∷ d ∷ cs) = TwoClasses

-- what is meant, with one class more
abbrev pub joined : Meaning → ClassId → Meaning
joined NoClass c = Named c
joined (Named d) c = TwoClasses
joined TwoClasses c = TwoClasses

-- the first level that has a class decides
abbrev pub or_next : Meaning → Meaning → Meaning
or_next (Named c) next = Named c
or_next NoClass next = next
or_next TwoClasses next = TwoClasses

abbrev pub meaning_on : List ClassName → CompilationUnit → List ClassId → Level → Meaning
meaning_on classes u cs level = sole (those classes (is_seen_on u level) cs)

-- what a simple name means, where these are the classes of that name (JLS 6.4.1)
abbrev pub meaning_among : List ClassName → CompilationUnit → List ClassId → Meaning
meaning_among classes u cs = or_next (meaning_on classes u cs OwnOrImported) (or_next (meaning_on classes u cs OfPackage) (meaning_on classes u cs OnDemand))

abbrev pub simple_meaning : List ClassName → CompilationUnit → List ℕ → Meaning
simple_meaning classes u name = meaning_among classes u (simply_named classes name)

abbrev pub seen_class : List ClassName → CompilationUnit → Option ClassId → Meaning
seen_class classes u None = NoClass
seen_class classes u (Some c) = if has (is_seen u) (class_at classes c) then Named c else NoClass

-- a name with a dot is a qualified one (JLS 6.5.5.2)
abbrev pub qualified_meaning : List ClassName → CompilationUnit → List ℕ → Meaning
qualified_meaning classes u name = seen_class classes u (class_of_name classes name)

abbrev pub has_dot : List ℕ → Bool
has_dot name = list_any (λ b. nat_eq b 46) name

-- what a name means as that of a class
abbrev pub meaning_of : List ClassName → CompilationUnit → List ℕ → Meaning
meaning_of classes u name = if has_dot name then qualified_meaning classes u name else simple_meaning classes u name
