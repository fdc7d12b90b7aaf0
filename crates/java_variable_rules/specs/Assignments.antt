-- Assignments, also those that use an operator, and steps (JLS 15.14, 15.15, 15.26), by the typings of their parts. An operator
-- assigns to a variable of the body, to a static field or to a field of `this` only.
use Rattle.std.specs.Prelude.{ℕ, pos, Bool, true, false, cond, not, ◌&&◌, nat_eq, Option, Some, None, List}
use Rattle.std.specs.List.{find}
use Rattle.rlc_base.specs.declared.place.Pos.{Pos}
use Rattle.program_model.specs.declared.kinds.BinaryOperator.{BinaryOperator}
use Rattle.program_model.specs.declared.kinds.Literal.TheVariants as literals
use Rattle.program_model.specs.declared.program.Field.{Field}
use Rattle.program_model.specs.declared.program.Program.{Program}
use Rattle.program_model.specs.Lookups.{field_at}
use Rattle.program_model.specs.Typing.{int}
use Rattle.java_syntax.specs.ExpressionTrees as syntax
use Rattle.java_typed_trees.specs.declared.facts.Answer.{Answer}
use Rattle.java_typed_trees.specs.declared.facts.Facts.{Facts}
use Rattle.java_typed_trees.specs.declared.scope.Local.{Local}
use Rattle.java_typed_trees.specs.declared.shapes.Shape.{Shape}
use Rattle.java_typed_trees.specs.declared.shapes.Shape.TheVariants as shapes
use Rattle.java_typed_trees.specs.declared.shapes.TargetShape.{TargetShape}
use Rattle.java_typed_trees.specs.Answers.{mismatch, of_one, of_two, type_of}
use Rattle.java_typed_trees.specs.ExpressionTrees.{ExprTree, Node, no_expression}
use Rattle.java_operator_rules.specs.Operators.{operator_assignment_by, postfix_step_by, prefix_step_by}
use Rattle.java_member_rules.specs.Assignments.{assignment_by, may_assign_field, target_in}
use Rattle.java_expression_parts.specs.Surroundings.{Surroundings}
use Rattle.java_expression_parts.specs.TypedParts.{Typing, with_last, operand, parts_of, typing_by, shape_of, two}

-- ---- what may be assigned

-- the target is written `this`
abbrev pub is_written_this : syntax.ExprTree → Bool
is_written_this (syntax.This place) = true
is_written_this e = false

-- a field that the left-hand side names is one of `this`: its simple name stands there, or `this.f`
abbrev pub is_through_this : syntax.ExprTree → Bool
is_through_this (syntax.Identifier name place) = true
is_through_this (syntax.FieldAccess target name place) = is_written_this target
is_through_this e = false

abbrev pub may_assign_local_by : Option Local → Bool
may_assign_local_by None = false
may_assign_local_by (Some x) = not x.variable.is_final

-- the variable with this number is not one that is never assigned again (JLS 4.12.4)
abbrev pub may_assign_local : List Local → ℕ → Bool
may_assign_local locals n = may_assign_local_by (find (λ x. nat_eq x.variable.number n) locals)

-- a final field is assigned in constructors and initialisers, and a static one never is
abbrev pub may_assign_member : Surroundings → Bool → Option Field → Bool
may_assign_member s through_this None = false
may_assign_member s through_this (Some x) = may_assign_field s.initialized (through_this && not x.is_static) x

-- a left-hand side of the shape may be assigned
abbrev pub may_assign : Surroundings → Bool → Shape → Bool
may_assign s through_this (shapes.Local n) = may_assign_local s.context.locals n
may_assign s through_this (shapes.Field f) = may_assign_member s through_this (field_at s.context.program f)
may_assign s through_this (shapes.StaticField f) = may_assign_member s through_this (field_at s.context.program f)
may_assign s through_this shapes.Element = true
may_assign s through_this shape = false

-- what an assignment to the left-hand side assigns, where it may be assigned
abbrev pub assigned_target : Surroundings → syntax.ExprTree → Shape → Option TargetShape
assigned_target s left shape = cond (may_assign s (is_through_this left) shape) (target_in shape) None

abbrev pub is_own_place : Bool → Shape → Bool
is_own_place through_this (shapes.Local n) = true
is_own_place through_this (shapes.StaticField f) = true
is_own_place through_this (shapes.Field f) = through_this
is_own_place through_this shape = false

-- an operator may assign to the left-hand side
abbrev pub may_update : Surroundings → syntax.ExprTree → Shape → Bool
may_update s left shape = is_own_place (is_through_this left) shape && may_assign s (is_through_this left) shape

-- ---- the rules

abbrev pub compound_by : Program → Bool → BinaryOperator → Pos → Facts → Facts → Answer
compound_by p is_allowed o place x b = of_two place (type_of x) (type_of b) (λ t u. cond is_allowed (operator_assignment_by p o place x b) (mismatch place))

abbrev pub prefix_by : Bool → BinaryOperator → Pos → Facts → Answer
prefix_by is_allowed o place x = of_one place (type_of x) (λ t. cond is_allowed (prefix_step_by o place x) (mismatch place))

abbrev pub postfix_by : Bool → BinaryOperator → Pos → Facts → Answer
postfix_by is_allowed o place x = of_one place (type_of x) (λ t. cond is_allowed (postfix_step_by o place x) (mismatch place))

-- ---- typings

-- the implied 1 of a step, at its place
abbrev pub implied_one : Pos → ExprTree
implied_one place = Node (shapes.Literal (literals.Number (pos 1))) (Some int) place no_expression

-- `x = e`: its parts are those of the left-hand side, and the value
abbrev pub assignment_typing : Surroundings → Pos → syntax.ExprTree → Typing → Typing → Typing
assignment_typing s place left x e = typing_by (assignment_by s.context.program place (assigned_target s left (shape_of x)) (operand x) (operand e)) (with_last (parts_of x.tree) e.tree)

-- `x o= e`
abbrev pub compound_typing : Surroundings → BinaryOperator → Pos → syntax.ExprTree → Typing → Typing → Typing
compound_typing s o place left x e = typing_by (compound_by s.context.program (may_update s left (shape_of x)) o place (operand x) (operand e)) (two x.tree e.tree)

-- `++x` and `--x`
abbrev pub prefix_step_typing : Surroundings → BinaryOperator → Pos → syntax.ExprTree → Typing → Typing
prefix_step_typing s o place left x = typing_by (prefix_by (may_update s left (shape_of x)) o place (operand x)) (two x.tree (implied_one place))

-- `x++` and `x--`
abbrev pub postfix_step_typing : Surroundings → BinaryOperator → Pos → syntax.ExprTree → Typing → Typing
postfix_step_typing s o place left x = typing_by (postfix_by (may_update s left (shape_of x)) o place (operand x)) (two x.tree (implied_one place))
