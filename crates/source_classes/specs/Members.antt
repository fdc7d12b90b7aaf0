-- The members of the classes of the source files: what the table has of them, beside what is written.
use Rattle.std.specs.Prelude.{ℤ, Bool, Option, List, map, zip}
use Rattle.program_model.specs.declared.kinds.ClassId.{ClassId}
use Rattle.program_model.specs.declared.kinds.FieldId.{FieldId}
use Rattle.program_model.specs.declared.kinds.MethodId.{MethodId}
use Rattle.program_model.specs.declared.program.Program.{Program}
use Rattle.program_model.specs.Lookups.{class_at}
use Rattle.program_model.specs.Overrides.{methods_of}
use Rattle.class_names.specs.declared.class_name.ClassName.{ClassName}
use Rattle.java_statement_rules.specs.Members.{fields_in}
use Rattle.class_declarations.specs.Members.{Written, WrittenField, fields_of, written_field_of, written_in, written_of}
use Rattle.class_declarations.specs.declared.fields.DeclaredField.{DeclaredField}
use Rattle.class_declarations.specs.declared.method_tree.MethodTree.{MethodTree}
use Rattle.java_typed_trees.specs.declared.scope.Local.{Local}
use Rattle.java_statement_rules.specs.Surroundings.{Surroundings}
use Rattle.source_classes.specs.declared.members.NumberedField.{NumberedField}
use Rattle.source_classes.specs.declared.members.NumberedMethod.{NumberedMethod}
use Rattle.source_classes.specs.declared.scope.ProgramScope.{ProgramScope}
use Rattle.source_classes.specs.SourceClasses.{SourceClass}

-- what the typing of all bodies reads
pub record Environment : Type 0 where
  -- the table
  pub program : Program
  -- the names of all classes, in class order
  pub classes : List ClassName
  -- the value of each field that is a constant variable of a primitive type (JLS 4.12.4), by the field's number
  pub constants : List (Option ℤ)

abbrev pub environment_in : ProgramScope → Environment
environment_in s = record { program = s.program.now; classes = s.names.now; constants = s.constants.now }

-- ---- fields

-- the fields of a class, each with its number, in the order of the text
abbrev pub numbered_fields : Program → SourceClass → List (FieldId × WrittenField)
numbered_fields p c = zip (fields_in (class_at p c.class')) (fields_of c.class' c.declaration)

abbrev pub numbered_field_of : NumberedField → FieldId × WrittenField
numbered_field_of f = (f.field, written_field_of f.declared)

abbrev pub field_beside : ClassId → FieldId → DeclaredField → NumberedField
field_beside c f d = record { field = f; declared = record d { class = c } }

-- fields of the class with this number, beside their own
abbrev pub fields_beside : ClassId → List FieldId → List DeclaredField → List NumberedField
fields_beside c fs ds = map (λ x. field_beside c x.0 x.1) (zip fs ds)

-- ---- methods

-- its methods and constructors, the implied constructor among them (JLS 8.8.9)
abbrev pub numbered_methods : Environment → SourceClass → List (MethodId × Written)
numbered_methods e c = zip (methods_of e.program c.class') (written_in e.classes c.declaration)

abbrev pub numbered_method_of : NumberedMethod → MethodId × Written
numbered_method_of m = (m.method, written_of m.tree)

abbrev pub method_beside : MethodId → MethodTree → NumberedMethod
method_beside m t = record { method = m; tree = t }

-- methods beside their numbers
abbrev pub methods_beside : List MethodId → List MethodTree → List NumberedMethod
methods_beside ms ts = map (λ x. method_beside x.0 x.1) (zip ms ts)

-- ---- expressions

-- where an expression of the class stands. `initialized` is the class, in its constructors and field initialisers
abbrev pub surroundings_in : Environment → SourceClass → Bool → Option ClassId → List Local → List ClassId → Surroundings
surroundings_in e c has_this initialized locals covered = record { context = record { program = e.program; class' = c.class'; has_this = has_this; locals = locals; covered = covered }; classes = e.classes; unit = c.declaration.unit; initialized = initialized; constants = e.constants }
