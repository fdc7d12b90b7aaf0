-- The rule of simple assignments (JLS 15.26.1), and what may be assigned (JLS 4.12.4, 8.3.1.2, 15.26).
use Rattle.std.specs.Prelude.{Bool, false, cond, not, ◌&&◌, ◌||◌, Option, Some, None}
use Rattle.rlc_base.specs.declared.place.Pos.{Pos}
use Rattle.program_model.specs.declared.kinds.ClassId.{ClassId}
use Rattle.program_model.specs.declared.kinds.VType.{VType}
use Rattle.program_model.specs.declared.program.Program.{Program}
use Rattle.program_model.specs.declared.program.Field.{Field}
use Rattle.program_model.specs.SuperTests.{is_class}
use Rattle.java_conversions.specs.Conversions.{is_assignable}
use Rattle.java_typed_trees.specs.declared.facts.Facts.{Facts}
use Rattle.java_typed_trees.specs.declared.facts.Answer.{Answer}
use Rattle.java_typed_trees.specs.declared.facts.Answer.TheVariants as answers
use Rattle.java_typed_trees.specs.declared.shapes.Shape.{Shape}
use Rattle.java_typed_trees.specs.declared.shapes.Shape.TheVariants as shapes
use Rattle.java_typed_trees.specs.declared.shapes.TargetShape.{TargetShape}
use Rattle.java_typed_trees.specs.declared.shapes.TargetShape.TheVariants as targets
use Rattle.java_typed_trees.specs.Answers.{mismatch, of_two, type_of, value_at}

-- a final field is assigned only in the constructors and initialisers of its class, through `this` (JLS 8.3.1.2): `class'` is
-- that of such a constructor or initialiser, if the assignment stands in one
abbrev pub is_initialized_in : Option ClassId → Bool → Field → Bool
is_initialized_in None through_this x = false
is_initialized_in (Some c) through_this x = through_this && is_class x.class c

abbrev pub may_assign_field : Option ClassId → Bool → Field → Bool
may_assign_field initialized through_this x = not x.is_final || is_initialized_in initialized through_this x

-- the left-hand side that an expression of the shape is: a variable, a field or an element (JLS 15.26)
abbrev pub target_in : Shape → Option TargetShape
target_in (shapes.Local x) = Some (targets.Local x)
target_in (shapes.Field f) = Some (targets.Field f)
target_in (shapes.StaticField f) = Some (targets.StaticField f)
target_in shapes.Element = Some targets.Element
target_in s = None

abbrev pub assignment_of : Program → Pos → Option TargetShape → Facts → VType → VType → Answer
assignment_of p place None value to from = mismatch place
assignment_of p place (Some target) value to from = cond (is_assignable p value.constant from to) (answers.Is (shapes.Assignment target) (value_at place to)) (mismatch place)

-- `x = e`, over a target that may be assigned, else None: the value is assignable to the target's type (JLS 5.2)
abbrev pub assignment_by : Program → Pos → Option TargetShape → Facts → Facts → Answer
assignment_by p place target x e = of_two place (type_of x) (type_of e) (assignment_of p place target e)
