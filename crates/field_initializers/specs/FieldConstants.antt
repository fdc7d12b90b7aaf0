-- The fields that are constant variables of a primitive type (JLS 4.12.4): static final ones that begin with a literal, and final
-- instance fields whose initialiser is a constant expression. An initialiser sees the constants of the classes above its own and
-- of the fields before it, and of no other: it may not name a later field (JLS 8.3.3).
use Rattle.std.specs.Prelude.{ℕ, ℤ, zero, suc, max, pos, cond, ◌&&◌, nat_eq, Option, Some, None, List, [], map, filter, fold, length, slice_set}
use Rattle.program_model.specs.declared.kinds.FieldId.{FieldId}
use Rattle.program_model.specs.declared.kinds.Literal.{Literal}
use Rattle.program_model.specs.declared.kinds.Literal.TheVariants as literals
use Rattle.program_model.specs.declared.program.Class.{Class}
use Rattle.program_model.specs.declared.program.Field.{Field}
use Rattle.program_model.specs.declared.program.Program.{Program}
use Rattle.program_model.specs.Lookups.{class_at, field_at}
use Rattle.java_syntax.specs.ExpressionTrees.{ExprTree}
use Rattle.class_names.specs.declared.class_name.ClassName.{ClassName}
use Rattle.source_classes.specs.ClassDeclarationsMembers.{WrittenField}
use Rattle.java_typed_expressions.specs.Typings.{value_facts}
use Rattle.source_classes.specs.DeclaredVariables.{constant_value}
use Rattle.field_initializers.specs.FieldInitializers.{initializer_of, initializer_surroundings}
use Rattle.source_classes.specs.Members.{Environment, numbered_fields}
use Rattle.source_classes.specs.SourceClasses.{SourceClass}

-- ---- static fields

-- the value of a literal of a primitive type: of a truth value 1 and 0
abbrev pub literal_constant : Literal → Option ℤ
literal_constant (literals.Number n) = Some n
literal_constant (literals.Character c) = Some (pos c)
literal_constant (literals.Boolean b) = Some (cond b (pos 1) (pos 0))
literal_constant literals.Text = None
literal_constant literals.Null = None

abbrev pub initial_constant : Option Literal → Option ℤ
initial_constant None = None
initial_constant (Some l) = literal_constant l

abbrev pub static_constant : Field → Option ℤ
static_constant x = cond (x.is_static && x.is_final) (initial_constant x.initial) None

-- ---- final instance fields

abbrev pub initialized_constant : Environment → SourceClass → Field → Option ExprTree → Option ℤ
initialized_constant e c x None = None
initialized_constant e c x (Some v) = constant_value e.program x.is_final (Some x.vtype) (value_facts (initializer_surroundings e c []) (Some x.vtype) v)

-- the constants with that of one more field
abbrev pub with_field : Program → List ClassName → SourceClass → List (Option ℤ) → FieldId → Option Field → Option ExprTree → List (Option ℤ)
with_field p classes c constants f None v = constants
with_field p classes c constants f (Some x) v = cond x.is_static constants (slice_set constants f.0 (initialized_constant (record { program = p; classes = classes; constants = constants }) c x v))

abbrev pub with_field_of : Program → List ClassName → SourceClass → List (Option ℤ) → FieldId × WrittenField → List (Option ℤ)
with_field_of p classes c constants w = with_field p classes c constants w.0 (field_at p w.0) (initializer_of w.1)

-- with those of a class, in the order of the text
abbrev pub with_class : Program → List ClassName → List (Option ℤ) → SourceClass → List (Option ℤ)
with_class p classes constants c = fold (with_field_of p classes c) constants (numbered_fields p c)

-- ---- all fields

abbrev pub height_in : Option Class → ℕ
height_in None = 0
height_in (Some k) = length k.above.items

-- how many classes a class is under, itself among them: one that is under another is higher than that
abbrev pub height : Program → SourceClass → ℕ
height p c = height_in (class_at p c.class')

abbrev pub greatest_height : Program → List SourceClass → ℕ
greatest_height p all = fold (λ n c. max n (height p c)) 0 all

-- the constants with those of the classes of this height
abbrev pub with_height : Program → List ClassName → List SourceClass → List (Option ℤ) → ℕ → List (Option ℤ)
with_height p classes all constants n = fold (with_class p classes) constants (filter (λ c. nat_eq (height p c) n) all)

-- with those of all classes up to the height
abbrev pub up_to_height : Program → List ClassName → List SourceClass → ℕ → List (Option ℤ)
up_to_height p classes all zero = map static_constant p.fields.items
up_to_height p classes all (suc n) = with_height p classes all (up_to_height p classes all n) (suc n)

abbrev pub field_constants : Program → List ClassName → List SourceClass → List (Option ℤ)
field_constants p classes all = up_to_height p classes all (greatest_height p all)
