-- The rules of unary and binary expressions (JLS 15.15, 15.17 to 15.24), and of the assignments that use an operator
-- (JLS 15.14.2, 15.14.3, 15.15.1, 15.15.2, 15.26.2), by the facts of their parts.
use Rattle.std.specs.Prelude.{Option, Some, None, ℤ}
use Rattle.std.specs.Option.{option_map}
use Rattle.rlc_base.specs.declared.place.Pos.{Pos}
use Rattle.program_model.specs.declared.kinds.VType.{VType}
use Rattle.program_model.specs.declared.kinds.UnaryOperator.{UnaryOperator}
use Rattle.program_model.specs.declared.kinds.BinaryOperator.{BinaryOperator}
use Rattle.program_model.specs.declared.kinds.OperandType.{OperandType}
use Rattle.program_model.specs.declared.kinds.OperandType.TheVariants as operand_types
use Rattle.program_model.specs.declared.program.Program.{Program}
use Rattle.program_model.specs.Typing.{binary_result}
use Rattle.java_conversions.specs.Operators.{compound_operands, operands_of, promoted, step_operands, unary_result}
use Rattle.java_constants.specs.Folding.{folded, folded_unary}
use Rattle.java_typed_trees.specs.declared.facts.Facts.{Facts}
use Rattle.java_typed_trees.specs.declared.facts.Answer.{Answer}
use Rattle.java_typed_trees.specs.declared.facts.Answer.TheVariants as answers
use Rattle.java_typed_trees.specs.declared.shapes.Shape.{Shape}
use Rattle.java_typed_trees.specs.declared.shapes.Shape.TheVariants as shapes
use Rattle.java_typed_trees.specs.Answers.{constant_at, mismatch, of_one, of_two, type_of, value_at}

-- an expression of the type, where there is one, with its value where it is constant; else it has no type
abbrev pub constant_as : Shape → Pos → Option VType → Option ℤ → Answer
constant_as shape place None n = mismatch place
constant_as shape place (Some t) n = answers.Is shape (constant_at place t n)

-- the type to which an operand of this one is promoted; a truth value stays one
abbrev pub promoted_or_boolean : Option OperandType → OperandType
promoted_or_boolean None = operand_types.Boolean
promoted_or_boolean (Some t) = t

abbrev pub unary_of : UnaryOperator → Pos → Option ℤ → VType → Answer
unary_of o place n t = constant_as (shapes.Unary o) place (unary_result o t) (option_map (folded_unary o (promoted_or_boolean (promoted t))) n)

-- `+a`, `-a`, `~a` or `!a` (JLS 15.15.3 to 15.15.6): constant where the operand is (JLS 15.29)
abbrev pub unary_by : UnaryOperator → Pos → Facts → Answer
unary_by o place a = of_one place (type_of a) (unary_of o place a.constant)

-- the value where both operands are constant (JLS 15.29)
abbrev pub folded_both : BinaryOperator → OperandType → Option ℤ → Option ℤ → Option ℤ
folded_both o t (Some a) (Some b) = folded o t a b
folded_both o t m n = None

abbrev pub binary_of : BinaryOperator → Pos → Option ℤ → Option ℤ → Option OperandType → Answer
binary_of o place m n None = mismatch place
binary_of o place m n (Some t) = constant_as (shapes.Binary o t) place (binary_result o t) (folded_both o t m n)

-- `a o b` (JLS 15.17 to 15.24): of the type of the operator's result for its operands' types
abbrev pub binary_by : Program → BinaryOperator → Pos → Facts → Facts → Answer
binary_by p o place a b = of_two place (type_of a) (type_of b) (λ s t. binary_of o place a.constant b.constant (operands_of p o s t))

abbrev pub assigned_by : Pos → VType → Option OperandType → (OperandType → Shape) → Answer
assigned_by place variable None shape = mismatch place
assigned_by place variable (Some t) shape = answers.Is (shape t) (value_at place variable)

-- `x o= b`, over a variable `x` that may be assigned: of the variable's type, where the operator's result may be cast to it
-- (JLS 15.26.2)
abbrev pub operator_assignment_by : Program → BinaryOperator → Pos → Facts → Facts → Answer
operator_assignment_by p o place x b = of_two place (type_of x) (type_of b) (λ s t. assigned_by place s (compound_operands p o s t) (shapes.OperatorAssignment o))

-- `++x` and `--x`, over a number that may be assigned (JLS 15.15.1, 15.15.2): the operator is that which takes the step
abbrev pub prefix_step_by : BinaryOperator → Pos → Facts → Answer
prefix_step_by o place x = of_one place (type_of x) (λ s. assigned_by place s (step_operands s) (shapes.OperatorAssignment o))

-- `x++` and `x--`, over a number that may be assigned (JLS 15.14.2, 15.14.3)
abbrev pub postfix_step_by : BinaryOperator → Pos → Facts → Answer
postfix_step_by o place x = of_one place (type_of x) (λ s. assigned_by place s (step_operands s) (shapes.PostfixStep o))
