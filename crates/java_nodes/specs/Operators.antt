-- What the texts of operators and primitive types mean.
use Rattle.std.specs.Prelude.{ℕ, ◌-◌, List, length, take}
use Rattle.java_syntax.specs.declared.names.PrimitiveName.{PrimitiveName}
use Rattle.java_syntax.specs.declared.names.PrimitiveName.TheVariants as primitive
use Rattle.java_syntax.specs.declared.operators.InfixOperator.{InfixOperator}
use Rattle.java_syntax.specs.declared.operators.InfixOperator.TheVariants as operator
use Rattle.java_syntax.specs.declared.operators.PrefixOperator.{PrefixOperator}
use Rattle.java_syntax.specs.declared.operators.PrefixOperator.TheVariants as sign
use Rattle.java_syntax.specs.declared.operators.StepOperator.{StepOperator}
use Rattle.java_syntax.specs.declared.operators.StepOperator.TheVariants as step
use Rattle.java_lexer.specs.declared.meanings.Meaning.{Meaning}
use Rattle.java_lexer.specs.declared.meanings.Meaning.TheVariants as meaning
use Rattle.java_lexer.specs.Words.{operator_meanings, reserved_word_meanings, meaning_in}

-- the operator between two operands (JLS 15.17 to 15.24); `||` where the text means none
abbrev pub infix_of : Meaning → InfixOperator
infix_of (meaning.Infix o) = o
infix_of (meaning.Sign s o) = o
infix_of meaning.Plain = operator.ConditionalOr
infix_of (meaning.Primitive p) = operator.ConditionalOr
infix_of (meaning.Step o) = operator.ConditionalOr
infix_of (meaning.Prefix s) = operator.ConditionalOr

unfoldable pub infix_operator : List ℕ → InfixOperator
infix_operator text = infix_of (meaning_in operator_meanings text)

-- the operator of a compound assignment (JLS 15.26.2), which is written before `=`
unfoldable pub compound_operator : List ℕ → InfixOperator
compound_operator text = infix_operator (take (length text - 1) text)

-- the operator before an operand (JLS 15.15); `+` where the text means none
abbrev pub prefix_of : Meaning → PrefixOperator
prefix_of (meaning.Prefix s) = s
prefix_of (meaning.Sign s o) = s
prefix_of meaning.Plain = sign.Plus
prefix_of (meaning.Primitive p) = sign.Plus
prefix_of (meaning.Step o) = sign.Plus
prefix_of (meaning.Infix o) = sign.Plus

unfoldable pub prefix_operator : List ℕ → PrefixOperator
prefix_operator text = prefix_of (meaning_in operator_meanings text)

-- `++` or `--` (JLS 15.14, 15.15); `++` where the text means none of the two
abbrev pub step_of : Meaning → StepOperator
step_of (meaning.Step o) = o
step_of meaning.Plain = step.Increment
step_of (meaning.Primitive p) = step.Increment
step_of (meaning.Prefix s) = step.Increment
step_of (meaning.Infix o) = step.Increment
step_of (meaning.Sign s o) = step.Increment

unfoldable pub step_operator : List ℕ → StepOperator
step_operator text = step_of (meaning_in operator_meanings text)

-- the primitive type (JLS 4.2); `int` where the text means none
abbrev pub primitive_of : Meaning → PrimitiveName
primitive_of (meaning.Primitive p) = p
primitive_of meaning.Plain = primitive.Int
primitive_of (meaning.Step o) = primitive.Int
primitive_of (meaning.Prefix s) = primitive.Int
primitive_of (meaning.Infix o) = primitive.Int
primitive_of (meaning.Sign s o) = primitive.Int

unfoldable pub primitive_name : List ℕ → PrimitiveName
primitive_name text = primitive_of (meaning_in reserved_word_meanings text)
