-- The values of constant expressions (JLS 15.29) whose parts have values. Of truth values, true is 1 and false is 0.
use Rattle.std.specs.Prelude.{Bool, true, false, not, cond, Option, Some, None, ℤ, pos, int_lt, int_le}
use Rattle.std.specs.Ordering.{int_eq}
use Rattle.std.specs.Int.{w64, int_bit_and, int_bit_or, int_bit_xor}
use Rattle.program_model.specs.declared.kinds.OperandType.{OperandType}
use Rattle.program_model.specs.declared.kinds.OperandType.TheVariants as operand_types
use Rattle.program_model.specs.declared.kinds.UnaryOperator.{UnaryOperator}
use Rattle.program_model.specs.declared.kinds.UnaryOperator.TheVariants as unary
use Rattle.program_model.specs.declared.kinds.BinaryOperator.{BinaryOperator}
use Rattle.program_model.specs.declared.kinds.BinaryOperator.TheVariants as binary
use Rattle.java_constants.specs.Arithmetic.{add, complement, divide, multiply, negate, remainder, shift_left, shift_right, shift_right_unsigned, subtract}

abbrev pub truth : Bool → ℤ
truth true = pos 1
truth false = pos 0

-- a division by zero is no constant
abbrev pub quotient : OperandType → ℤ → ℤ → Option ℤ
quotient t a b = cond (int_eq b (pos 0)) None (Some (divide t a b))

abbrev pub rest : ℤ → ℤ → Option ℤ
rest a b = cond (int_eq b (pos 0)) None (Some (remainder a b))

-- of two numbers, in the type to which they are promoted (JLS 15.17 to 15.22)
abbrev pub folded_number : BinaryOperator → OperandType → ℤ → ℤ → Option ℤ
folded_number binary.Multiply t a b = Some (multiply t a b)
folded_number binary.Divide t a b = quotient t a b
folded_number binary.Remainder t a b = rest a b
folded_number binary.Add t a b = Some (add t a b)
folded_number binary.Subtract t a b = Some (subtract t a b)
folded_number binary.ShiftLeft t a b = Some (shift_left t a b)
folded_number binary.ShiftRight t a b = Some (shift_right t a b)
folded_number binary.ShiftRightUnsigned t a b = Some (shift_right_unsigned t a b)
folded_number binary.Less t a b = Some (truth (int_lt a b))
folded_number binary.Greater t a b = Some (truth (int_lt b a))
folded_number binary.LessOrEqual t a b = Some (truth (int_le a b))
folded_number binary.GreaterOrEqual t a b = Some (truth (int_le b a))
folded_number binary.Equal t a b = Some (truth (int_eq a b))
folded_number binary.NotEqual t a b = Some (truth (not (int_eq a b)))
folded_number binary.And t a b = Some (int_bit_and w64 a b)
folded_number binary.Xor t a b = Some (int_bit_xor w64 a b)
folded_number binary.Or t a b = Some (int_bit_or w64 a b)
folded_number binary.ConditionalAnd t a b = None
folded_number binary.ConditionalOr t a b = None

-- of two truth values (JLS 15.21.2, 15.22.2, 15.23, 15.24)
abbrev pub folded_truth : BinaryOperator → ℤ → ℤ → Option ℤ
folded_truth binary.Equal a b = Some (truth (int_eq a b))
folded_truth binary.NotEqual a b = Some (truth (not (int_eq a b)))
folded_truth binary.And a b = Some (int_bit_and w64 a b)
folded_truth binary.Xor a b = Some (int_bit_xor w64 a b)
folded_truth binary.Or a b = Some (int_bit_or w64 a b)
folded_truth binary.ConditionalAnd a b = Some (int_bit_and w64 a b)
folded_truth binary.ConditionalOr a b = Some (int_bit_or w64 a b)
folded_truth o a b = None

-- the value of `a o b`, for the type to which the operator takes its operands
abbrev pub folded : BinaryOperator → OperandType → ℤ → ℤ → Option ℤ
folded o operand_types.Boolean a b = folded_truth o a b
folded o operand_types.Int a b = folded_number o operand_types.Int a b
folded o operand_types.Long a b = folded_number o operand_types.Long a b
folded o operand_types.Text a b = None
folded o operand_types.Reference a b = None

-- the value of a unary expression (JLS 15.15.3 to 15.15.6), for the promoted type of its operand; of `!` for a truth value
abbrev pub folded_unary : UnaryOperator → OperandType → ℤ → ℤ
folded_unary unary.Plus t a = a
folded_unary unary.Minus t a = negate t a
folded_unary unary.Complement t a = complement a
folded_unary unary.Not t a = truth (int_eq a (pos 0))

-- the value of `c ? a : b`: each operand is constant (JLS 15.29)
abbrev pub folded_conditional : Option ℤ → Option ℤ → Option ℤ → Option ℤ
folded_conditional (Some c) (Some a) (Some b) = Some (cond (int_eq c (pos 0)) b a)
folded_conditional c a b = None
