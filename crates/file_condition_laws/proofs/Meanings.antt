-- A name of a class that stands in a stub means a class of a stub.
use Rattle.std.proofs.Common.{◌≡◌, ◌∙◌, inl, inr, ap, refl, sym, subst, true≢false, Bool, true, false, not, ◌||◌, Option, Some, None, List, [], ◌∷◌, Contains, ℕ}
use Rattle.std.specs.Prelude.{◌⊎◌, if◌then◌else◌}
use Rattle.std.proofs.lemmas.Bool.{and_parts}
use Rattle.java_syntax.specs.declared.names.Name.{Name}
use Rattle.java_syntax.specs.declared.names.Typ.{Typ}
use Rattle.java_syntax.specs.declared.names.TypeName.{TypeName}
use Rattle.java_syntax.specs.declared.names.TypeName.TheVariants as written
use Rattle.program_model.specs.declared.kinds.ClassId.{ClassId}
use Rattle.program_model.specs.declared.kinds.ElementType.TheVariants as elements
use Rattle.program_model.specs.declared.kinds.Primitive.{Primitive}
use Rattle.program_model.specs.declared.kinds.VType.{VType}
use Rattle.program_model.specs.declared.kinds.VType.TheVariants as types
use Rattle.program_model.specs.Lookups.{optional}
use Rattle.class_names.specs.declared.class_name.ClassName.{ClassName}
use Rattle.class_names.specs.declared.levels.Level.{Level}
use Rattle.class_names.specs.declared.levels.Level.TheVariants.{OwnOrImported, OfPackage, OnDemand}
use Rattle.class_names.specs.declared.meaning.Meaning.{Meaning}
use Rattle.class_names.specs.declared.meaning.Meaning.TheVariants.{Named, NoClass, TwoClasses}
use Rattle.class_names.specs.ClassNames.{class_at, class_of_name, simply_named}
use Rattle.class_names.specs.Meanings.{CompilationUnit, has, has_dot, is_on, is_seen, is_seen_on, meaning_among, meaning_of, meaning_on, or_next, qualified_meaning, seen_class, simple_meaning, sole, those}
use Rattle.class_names.specs.WrittenTypes.{class_type, is_string, primitive_of, primitive_type, string_type, type_of_meaning, type_of_name, written_type}
use Rattle.acceptance_laws.specs.SuperTypes.{class_named, named_class}
use Rattle.class_members.proofs.Elements.{contains-first, contains-none, contains-one, filter-among}

-- the class with this number is one of a stub
abbrev pub IsOfStub : List ClassName → ClassId → Type 0
IsOfStub classes c = has (λ (k : ClassName). k.library) (class_at classes c) ≡ true

-- ---- the classes that are seen in a stub

seen_in_stub : (u : CompilationUnit) (k : ClassName) → u.library ≡ true → is_seen u k ≡ true → k.library ≡ true
seen_in_stub u k stub seen = sym (ap (λ b. not b || k.library) stub) ∙ seen

has_more : (test more : ClassName → Bool) (o : Option ClassName) → ((k : ClassName) → test k ≡ true → more k ≡ true) → has test o ≡ true → has more o ≡ true
has_more test more None step h = absurd (true≢false (sym h))
has_more test more (Some k) step h = step k h

-- ---- the meanings of one level

other_meaning : (c : ClassId) → NoClass ≡ Named c → ⊥
other_meaning c is = cc

two_meanings : (c : ClassId) → TwoClasses ≡ Named c → ⊥
two_meanings c is = cc

same_meaning : (d c : ClassId) → Named d ≡ Named c → d ≡ c
same_meaning d c is = cc

sole_contains : (xs : List ClassId) (c : ClassId) → sole xs ≡ Named c → Contains xs c
sole_contains [] c is = absurd (other_meaning c is)
sole_contains (d ∷ []) c is = let P : ClassId → Type 0 = λ e. Contains (d ∷ []) e in subst P (same_meaning d c is) (contains-first d [])
sole_contains (d ∷ e ∷ xs) c is = absurd (two_meanings c is)

on_level : (classes : List ClassName) (u : CompilationUnit) (cs : List ClassId) (level : Level) (c : ClassId) → u.library ≡ true → meaning_on classes u cs level ≡ Named c → IsOfStub classes c
on_level classes u cs level c stub is =
    let test : ClassId → Bool = λ d. has (is_seen_on u level) (class_at classes d) in
    let found = filter-among test cs c (sole_contains (those classes (is_seen_on u level) cs) c is) in
    has_more (is_seen_on u level) (λ (k : ClassName). k.library) (class_at classes c) (λ k h. seen_in_stub u k stub (and_parts (is_seen u k) (is_on u level k) h).0) found.1

-- ---- the meanings of a name

either_level : (m next : Meaning) (c : ClassId) → or_next m next ≡ Named c → (m ≡ Named c) ⊎ (next ≡ Named c)
either_level (Named d) next c is = inl is
either_level NoClass next c is = inr is
either_level TwoClasses next c is = inl is

among_in_stub : (classes : List ClassName) (u : CompilationUnit) (cs : List ClassId) (c : ClassId) → u.library ≡ true → meaning_among classes u cs ≡ Named c → IsOfStub classes c
among_in_stub classes u cs c stub is =
    let own : Meaning = meaning_on classes u cs OwnOrImported in
    let of_package : Meaning = meaning_on classes u cs OfPackage in
    let on_demand : Meaning = meaning_on classes u cs OnDemand in
    elim (either_level own (or_next of_package on_demand) c is) [
      | inl first ↦ on_level classes u cs OwnOrImported c stub first
      | inr later ↦ (
          elim (either_level of_package on_demand c later) [
            | inl second ↦ on_level classes u cs OfPackage c stub second
            | inr third ↦ on_level classes u cs OnDemand c stub third
          ]
          )
    ]

seen_if : (classes : List ClassName) (u : CompilationUnit) (d c : ClassId) (b : Bool) → u.library ≡ true → has (is_seen u) (class_at classes d) ≡ b → (if b then Named d else NoClass) ≡ Named c → IsOfStub classes c
seen_if classes u d c true stub seen is =
    subst (IsOfStub classes) (same_meaning d c is) (has_more (is_seen u) (λ (k : ClassName). k.library) (class_at classes d) (λ k h. seen_in_stub u k stub h) seen)
seen_if classes u d c false stub seen is = absurd (other_meaning c is)

qualified_in_stub : (classes : List ClassName) (u : CompilationUnit) (o : Option ClassId) (c : ClassId) → u.library ≡ true → seen_class classes u o ≡ Named c → IsOfStub classes c
qualified_in_stub classes u None c stub is = absurd (other_meaning c is)
qualified_in_stub classes u (Some d) c stub is = seen_if classes u d c (has (is_seen u) (class_at classes d)) stub refl is

by_form : (classes : List ClassName) (u : CompilationUnit) (name : List ℕ) (c : ClassId) (b : Bool) → u.library ≡ true → (if b then qualified_meaning classes u name else simple_meaning classes u name) ≡ Named c → IsOfStub classes c
by_form classes u name c true stub is = qualified_in_stub classes u (class_of_name classes name) c stub is
by_form classes u name c false stub is = among_in_stub classes u (simply_named classes name) c stub is

named_in_stub : (classes : List ClassName) (u : CompilationUnit) (name : List ℕ) (c : ClassId) → u.library ≡ true → meaning_of classes u name ≡ Named c → IsOfStub classes c
named_in_stub classes u name c stub is = by_form classes u name c (has_dot name) stub is

-- what a name in a stub means is a class of a stub
pub class_in_stub : (classes : List ClassName) (u : CompilationUnit) (n : Name) (e : ClassId) → u.library ≡ true → Contains (optional (class_named classes u n)) e → IsOfStub classes e
class_in_stub classes u n e stub has_it = by (meaning_of classes u n.text) refl has_it
  where
    by : (m : Meaning) → meaning_of classes u n.text ≡ m → Contains (optional (named_class m)) e → IsOfStub classes e
    by (Named c) is c_is = subst (IsOfStub classes) (contains-one c e c_is) (named_in_stub classes u n.text c stub is)
    by NoClass is c_is = absurd (contains-none e c_is)
    by TwoClasses is c_is = absurd (contains-none e c_is)

-- ---- types

no_type : (c : ClassId) → ◌≡◌ {A = Option VType} None (Some (types.Obj c)) → ⊥
no_type c is = cc

no_primitive : (k : Primitive) (is_array : Bool) (c : ClassId) → ◌≡◌ {A = Option VType} (Some (primitive_type k is_array)) (Some (types.Obj c)) → ⊥
no_primitive k true c is = let never : ◌≡◌ {A = Option VType} (Some (types.Arr (elements.Primitive k))) (Some (types.Obj c)) = is in cc
no_primitive k false c is = let never : ◌≡◌ {A = Option VType} (Some (types.Primitive k)) (Some (types.Obj c)) = is in cc

no_string : (is_array : Bool) (c : ClassId) → ◌≡◌ {A = Option VType} (Some (string_type is_array)) (Some (types.Obj c)) → ⊥
no_string true c is = let never : ◌≡◌ {A = Option VType} (Some (types.Arr elements.Str)) (Some (types.Obj c)) = is in cc
no_string false c is = let never : ◌≡◌ {A = Option VType} (Some types.Str) (Some (types.Obj c)) = is in cc

same_class : (d c : ClassId) → ◌≡◌ {A = Option VType} (Some (types.Obj d)) (Some (types.Obj c)) → d ≡ c
same_class d c is = cc

of_class : (d c : ClassId) (is_array : Bool) → class_type d is_array ≡ Some (types.Obj c) → d ≡ c
of_class d c true is = absurd (no_type c is)
of_class d c false is = same_class d c is

of_class_or_string : (d c : ClassId) (is_array string : Bool) → (if string then Some (string_type is_array) else class_type d is_array) ≡ Some (types.Obj c) → d ≡ c
of_class_or_string d c is_array true is = absurd (no_string is_array c is)
of_class_or_string d c is_array false is = of_class d c is_array is

-- the class of what a type in a stub means is one of a stub
pub type_in_stub : (classes : List ClassName) (u : CompilationUnit) (t : Typ) (c : ClassId) → u.library ≡ true → written_type classes u t ≡ Some (types.Obj c) → IsOfStub classes c
type_in_stub classes u t c stub is = by_name t.name is
  where
    by_meaning : (name : List ℕ) (m : Meaning) → meaning_of classes u name ≡ m → type_of_meaning classes m t.is_array ≡ Some (types.Obj c) → IsOfStub classes c
    by_meaning name (Named d) means gives =
        subst (IsOfStub classes) (of_class_or_string d c t.is_array (has is_string (class_at classes d)) gives) (named_in_stub classes u name d stub means)
    by_meaning name NoClass means gives = absurd (no_type c gives)
    by_meaning name TwoClasses means gives = absurd (no_type c gives)

    by_name : (n : TypeName) → type_of_name classes u n t.is_array ≡ Some (types.Obj c) → IsOfStub classes c
    by_name (written.Primitive k) gives = absurd (no_primitive (primitive_of k) t.is_array c gives)
    by_name (written.Named name) gives = by_meaning name (meaning_of classes u name) refl gives
