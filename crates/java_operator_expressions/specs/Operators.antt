-- The operators of expressions, as the typed program names them.
pub use Rattle.java_operator_rules.specs.Operators.{binary_by, unary_by}
use Rattle.java_syntax.specs.declared.operators.InfixOperator.{InfixOperator}
use Rattle.java_syntax.specs.declared.operators.InfixOperator.TheVariants as infixes
use Rattle.java_syntax.specs.declared.operators.PrefixOperator.{PrefixOperator}
use Rattle.java_syntax.specs.declared.operators.PrefixOperator.TheVariants as prefixes
use Rattle.java_syntax.specs.declared.operators.StepOperator.{StepOperator}
use Rattle.java_syntax.specs.declared.operators.StepOperator.TheVariants as steps
use Rattle.program_model.specs.declared.kinds.BinaryOperator.{BinaryOperator}
use Rattle.program_model.specs.declared.kinds.BinaryOperator.TheVariants as binaries
use Rattle.program_model.specs.declared.kinds.UnaryOperator.{UnaryOperator}
use Rattle.program_model.specs.declared.kinds.UnaryOperator.TheVariants as unaries

abbrev pub operator_of : InfixOperator → BinaryOperator
operator_of infixes.Multiply = binaries.Multiply
operator_of infixes.Divide = binaries.Divide
operator_of infixes.Remainder = binaries.Remainder
operator_of infixes.Add = binaries.Add
operator_of infixes.Subtract = binaries.Subtract
operator_of infixes.ShiftLeft = binaries.ShiftLeft
operator_of infixes.ShiftRight = binaries.ShiftRight
operator_of infixes.ShiftRightUnsigned = binaries.ShiftRightUnsigned
operator_of infixes.Less = binaries.Less
operator_of infixes.Greater = binaries.Greater
operator_of infixes.LessOrEqual = binaries.LessOrEqual
operator_of infixes.GreaterOrEqual = binaries.GreaterOrEqual
operator_of infixes.Equal = binaries.Equal
operator_of infixes.NotEqual = binaries.NotEqual
operator_of infixes.And = binaries.And
operator_of infixes.Xor = binaries.Xor
operator_of infixes.Or = binaries.Or
operator_of infixes.ConditionalAnd = binaries.ConditionalAnd
operator_of infixes.ConditionalOr = binaries.ConditionalOr

abbrev pub unary_operator_of : PrefixOperator → UnaryOperator
unary_operator_of prefixes.Plus = unaries.Plus
unary_operator_of prefixes.Minus = unaries.Minus
unary_operator_of prefixes.Not = unaries.Not
unary_operator_of prefixes.Complement = unaries.Complement

-- the operator that takes the step: `++` adds 1, and `--` subtracts it (JLS 15.14.2, 15.14.3)
abbrev pub step_operator_of : StepOperator → BinaryOperator
step_operator_of steps.Increment = binaries.Add
step_operator_of steps.Decrement = binaries.Subtract
