-- The classes of the source files, and the names of all classes, by the table and the source files. In the table the classes of
-- the stubs come first.
use Rattle.std.specs.Prelude.{ℕ, ◌+◌, ◌-◌, true, false, cond, nat_eq, List, [], ◌∷◌, ◌++◌, map, filter, length, take}
use Rattle.java_syntax.specs.declared.declaration_trees.Unit.{Unit}
use Rattle.program_model.specs.declared.kinds.ClassId.{ClassId}
use Rattle.program_model.specs.declared.program.Class.{Class}
use Rattle.program_model.specs.declared.program.Program.{Program}
use Rattle.class_names.specs.declared.class_name.ClassName.{ClassName}
use Rattle.class_names.specs.ClassNames.{class_number}
use Rattle.class_order.specs.Declarations.{Declaration, class_names, declaration_of, declared_from}
use Rattle.source_classes.specs.declared.classes.DeclaredClass.{DeclaredClass}

-- a class of a source file with its number
pub record SourceClass : Type 0 where
  pub class' : ClassId
  pub declaration : Declaration

abbrev pub source_class_of : DeclaredClass → SourceClass
source_class_of c = record { class' = c.class; declaration = declaration_of c.declared }

abbrev pub library_classes : Program → List Class
library_classes p = filter (λ k. k.library) p.classes.items

abbrev pub numbered_from : ℕ → List Declaration → List SourceClass
numbered_from first [] = []
numbered_from first (d ∷ ds) = record { class' = class_number first; declaration = d } ∷ numbered_from (first + 1) ds

-- the declarations of the source files, whose units have the numbers from 0 on
abbrev pub declarations : List Unit → List Declaration
declarations units = declared_from 0 false units

-- the classes of the source files in class order
abbrev pub source_classes : Program → List Unit → List SourceClass
source_classes p units = numbered_from (length (library_classes p)) (declarations units)

-- ---- names

-- what stands behind the last dot of a text, and else what is found so far; the code of `.` is 46
abbrev pub behind_last_dot : List ℕ → List ℕ → List ℕ
behind_last_dot found [] = found
behind_last_dot found (b ∷ bs) = behind_last_dot (cond (nat_eq b 46) bs found) bs

-- the package of a qualified name (JLS 6.2): what stands in front of its last dot
abbrev pub package_name : List ℕ → List ℕ
package_name name = take (length name - (length (behind_last_dot name name) + 1)) name

-- the simple name in a package, which is the whole name where that is empty
abbrev pub simple_in : List ℕ → List ℕ → List ℕ
simple_in [] name = name
simple_in (b ∷ bs) name = behind_last_dot name name

abbrev pub simple_name : List ℕ → List ℕ
simple_name name = simple_in (package_name name) name

-- a class of a stub by its name; no source file has the unit's number
abbrev pub library_name : ℕ → Class → ClassName
library_name unit k = record { «package» = package_name k.name; simple = simple_name k.name; unit = unit; library = true }

-- the names of all classes in class order
abbrev pub all_names : Program → List Unit → List ClassName
all_names p units = map (library_name (length units)) (library_classes p) ++ class_names (declarations units)
