-- The classes of a program in class order: those of the stubs and then those of the source files, as the text has them.
use Rattle.std.specs.Prelude.{ℕ, ◌+◌, Bool, true, false, not, ◌&&◌, ◌||◌, nat_eq, List, [], ◌∷◌, ◌++◌, map, filter, length}
use Rattle.std.specs.List.{list_any}
use Rattle.std.specs.Str.{bytes_eq}
use Rattle.rlc_base.specs.declared.place.Pos.{Pos}
use Rattle.java_syntax.specs.declared.declaration_trees.ClassDecl.{ClassDecl}
use Rattle.java_syntax.specs.declared.declaration_trees.Unit.{Unit}
use Rattle.class_names.specs.declared.class_name.ClassName.{ClassName}
use Rattle.class_names.specs.ClassNames.{name_of_class}
use Rattle.class_names.specs.Meanings.{CompilationUnit, unit_of}
use Rattle.class_order.specs.declared.declared.Declared.{Declared}

-- a class with the compilation unit that declares it
pub record Declaration : Type 0 where
  pub class_tree : ClassDecl
  pub unit : CompilationUnit

abbrev pub declaration_of : Declared → Declaration
declaration_of d = record { class_tree = d.declaration.now; unit = unit_of d.scope }

abbrev pub compilation_unit : ℕ → Bool → Unit → CompilationUnit
compilation_unit number library u = record { number = number; library = library; package_name = u.package; imports = u.imports.items }

-- the classes of one unit
abbrev pub declared_in : ℕ → Bool → Unit → List Declaration
declared_in number library u = map (λ c. record { class_tree = c; unit = compilation_unit number library u }) u.types.items

-- the classes of units, where the first unit has the number `first`
abbrev pub declared_from : ℕ → Bool → List Unit → List Declaration
declared_from first library [] = []
declared_from first library (u ∷ us) = declared_in first library u ++ declared_from (first + 1) library us

-- the class by its name
abbrev pub class_name_of : Declaration → ClassName
class_name_of d = record { «package» = d.unit.package_name; simple = d.class_tree.name.text; unit = d.unit.number; library = d.unit.library }

abbrev pub name_of : Declaration → List ℕ
name_of d = name_of_class (class_name_of d)

-- where a class is declared: the place of its name
abbrev pub place_of : Declaration → Pos
place_of d = d.class_tree.name.pos

-- ---- which classes of the stubs count

-- a class of the core library, whose stub is file 0
abbrev pub is_core : Declaration → Bool
is_core d = nat_eq (place_of d).file 0

-- a class of another part of the core library than its first section, `java.lang`, which is always read
abbrev pub is_replaceable : Declaration → Bool
is_replaceable d = is_core d && not (nat_eq d.unit.number 0)

-- a class of a user's stub with this name
abbrev pub is_replacing : List ℕ → Declaration → Bool
is_replacing name d = not (is_core d) && bytes_eq name (name_of d)

abbrev pub is_replaced : List Declaration → List ℕ → Bool
is_replaced stubs name = list_any (is_replacing name) stubs

abbrev pub stays : Bool → Declaration → Bool → Bool
stays core d replaced = not (is_replaceable d) || (core && not replaced)

-- a class of those other parts counts where they are read and no class of a user's stub has its name
abbrev pub is_kept : Bool → List Declaration → Declaration → Bool
is_kept core stubs d = stays core d (is_replaced stubs (name_of d))

abbrev pub library_classes : Bool → List Declaration → List Declaration
library_classes core stubs = filter (is_kept core stubs) stubs

-- the classes of a program in class order: those of the stubs and then those of the source files. `core` says whether the
-- other parts of the core library are read
abbrev pub class_order : Bool → List Unit → List Unit → List Declaration
class_order core stubs units = library_classes core (declared_from 0 true stubs) ++ declared_from (length stubs) false units

abbrev pub class_names : List Declaration → List ClassName
class_names order = map class_name_of order
