-- The rules of field access (JLS 15.11): `e.f`, and `C.f` by the class.
use Rattle.std.specs.Prelude.{cond, Option, Some, None, ℤ}
use Rattle.rlc_base.specs.declared.place.Pos.{Pos}
use Rattle.program_model.specs.declared.kinds.FieldId.{FieldId}
use Rattle.program_model.specs.declared.program.Program.{Program}
use Rattle.program_model.specs.declared.program.Field.{Field}
use Rattle.program_model.specs.Lookups.{field_at}
use Rattle.java_typed_trees.specs.declared.facts.Facts.{Facts}
use Rattle.java_typed_trees.specs.declared.facts.Answer.{Answer}
use Rattle.java_typed_trees.specs.declared.facts.Answer.TheVariants as answers
use Rattle.java_typed_trees.specs.declared.shapes.Shape.TheVariants as shapes
use Rattle.java_typed_trees.specs.declared.scope.NameMeaning.{NameMeaning}
use Rattle.java_typed_trees.specs.declared.scope.NameMeaning.TheVariants as meanings
use Rattle.java_typed_trees.specs.Answers.{constant_at, mismatch, of_one, type_of, value_at}
use Rattle.java_member_rules.specs.Names.{library_constant_by, no_such_name}

-- static members are not named through an expression
abbrev pub instance_field : Pos → FieldId → Option Field → Answer
instance_field place f None = no_such_name place
instance_field place f (Some x) = cond x.is_static (mismatch place) (answers.Is (shapes.Field f) (value_at place x.vtype))

abbrev pub member_access : Program → Pos → NameMeaning → Answer
member_access p place (meanings.Variable x) = no_such_name place
member_access p place (meanings.Field f) = instance_field place f (field_at p f)
member_access p place (meanings.LibraryConstant m) = mismatch place
member_access p place meanings.NoVariable = no_such_name place

-- `e.f`, where the name means this as a member of the class of e's type. It is no constant (JLS 15.29)
abbrev pub field_access_by : Program → Pos → NameMeaning → Facts → Answer
field_access_by p place member e = of_one place (type_of e) (λ t. member_access p place member)

abbrev pub static_field : Pos → Option ℤ → FieldId → Option Field → Answer
static_field place n f None = no_such_name place
static_field place n f (Some x) = cond x.is_static (answers.Is (shapes.StaticField f) (constant_at place x.vtype n)) (mismatch place)

-- `C.f`, where the name means this as a member of the class: a static field, with its value where it is a constant variable,
-- or a library constant
abbrev pub class_field_by : Program → Pos → Option ℤ → NameMeaning → Answer
class_field_by p place n (meanings.Variable x) = no_such_name place
class_field_by p place n (meanings.Field f) = static_field place n f (field_at p f)
class_field_by p place n (meanings.LibraryConstant m) = library_constant_by p place m
class_field_by p place n meanings.NoVariable = no_such_name place
