-- Numeric promotion (JLS 5.6), and the types of operators (JLS 15.14 to 15.24, 15.26.2).
use Rattle.std.specs.Prelude.{Bool, true, false, cond, not, ◌&&◌, ◌||◌, Option, Some, None}
use Rattle.program_model.specs.declared.kinds.Primitive.TheVariants as primitives
use Rattle.program_model.specs.declared.kinds.VType.{VType}
use Rattle.program_model.specs.declared.kinds.VType.TheVariants as types
use Rattle.program_model.specs.declared.kinds.UnaryOperator.{UnaryOperator}
use Rattle.program_model.specs.declared.kinds.UnaryOperator.TheVariants as unary
use Rattle.program_model.specs.declared.kinds.BinaryOperator.{BinaryOperator}
use Rattle.program_model.specs.declared.kinds.BinaryOperator.TheVariants as binary
use Rattle.program_model.specs.declared.kinds.OperandType.{OperandType}
use Rattle.program_model.specs.declared.kinds.OperandType.TheVariants as operand_types
use Rattle.program_model.specs.declared.program.Program.{Program}
use Rattle.program_model.specs.Typing.{binary_result, boolean, number_result}
use Rattle.java_conversions.specs.declared.casts.Cast.{Cast}
use Rattle.java_conversions.specs.declared.casts.Cast.TheVariants as casts
use Rattle.java_conversions.specs.Types.{is_boolean, is_numeric, is_reference, is_text}
use Rattle.java_conversions.specs.Casts.{cast_of, is_comparable}

-- unary numeric promotion (JLS 5.6): of a number only
abbrev pub promoted : VType → Option OperandType
promoted (types.Primitive primitives.Boolean) = None
promoted (types.Primitive primitives.Long) = Some operand_types.Long
promoted (types.Primitive k) = Some operand_types.Int
promoted t = None

abbrev pub wider : OperandType → OperandType → OperandType
wider operand_types.Long b = operand_types.Long
wider a b = b

abbrev pub both_promoted : Option OperandType → Option OperandType → Option OperandType
both_promoted (Some a) (Some b) = Some (wider a b)
both_promoted a b = None

-- binary numeric promotion (JLS 5.6): of two numbers, to `long` where one is `long`, else to `int`
abbrev pub binary_promoted : VType → VType → Option OperandType
binary_promoted a b = both_promoted (promoted a) (promoted b)

abbrev pub promoted_result : Option OperandType → Option VType
promoted_result None = None
promoted_result (Some t) = number_result t

-- the type of a unary expression (JLS 15.15.3 to 15.15.6)
abbrev pub unary_result : UnaryOperator → VType → Option VType
unary_result unary.Plus t = promoted_result (promoted t)
unary_result unary.Minus t = promoted_result (promoted t)
unary_result unary.Complement t = promoted_result (promoted t)
unary_result unary.Not t = cond (is_boolean t) (Some boolean) None

-- an operand of a string concatenation that the subset takes: no array, and no object but a string
abbrev pub is_concatenated : VType → Bool
is_concatenated (types.Primitive k) = true
is_concatenated types.Str = true
is_concatenated types.NullType = true
is_concatenated (types.Arr t) = false
is_concatenated (types.Obj c) = false

abbrev pub taken_if : Bool → OperandType → Option OperandType
taken_if is_taken t = cond is_taken (Some t) None

-- one operand is a string (JLS 15.18.1)
abbrev pub sum_operands : VType → VType → Option OperandType
sum_operands a b = cond (is_text a || is_text b) (taken_if (is_concatenated a && is_concatenated b) operand_types.Text) (binary_promoted a b)

-- each operand of a shift is promoted by itself, and the left one gives the type (JLS 15.19)
abbrev pub shift_operands : VType → VType → Option OperandType
shift_operands a b = cond (is_numeric b) (promoted a) None

-- two truth values
abbrev pub logical_operands : VType → VType → Option OperandType
logical_operands a b = taken_if (is_boolean a && is_boolean b) operand_types.Boolean

-- truth values, or numbers (JLS 15.22.1, 15.22.2)
abbrev pub bitwise_operands : VType → VType → Option OperandType
bitwise_operands a b = cond (is_boolean a && is_boolean b) (Some operand_types.Boolean) (binary_promoted a b)

abbrev pub reference_operands : Program → VType → VType → Option OperandType
reference_operands p a b = taken_if (is_comparable p a b) operand_types.Reference

-- numbers (JLS 15.21.1), truth values (JLS 15.21.2) or references (JLS 15.21.3)
abbrev pub equality_operands : Program → VType → VType → Option OperandType
equality_operands p a b = cond (is_reference a && is_reference b) (reference_operands p a b) (bitwise_operands a b)

-- the type to which an operator takes operands of these types (JLS 15.17 to 15.24)
abbrev pub operands_of : Program → BinaryOperator → VType → VType → Option OperandType
operands_of p binary.Multiply a b = binary_promoted a b
operands_of p binary.Divide a b = binary_promoted a b
operands_of p binary.Remainder a b = binary_promoted a b
operands_of p binary.Add a b = sum_operands a b
operands_of p binary.Subtract a b = binary_promoted a b
operands_of p binary.ShiftLeft a b = shift_operands a b
operands_of p binary.ShiftRight a b = shift_operands a b
operands_of p binary.ShiftRightUnsigned a b = shift_operands a b
operands_of p binary.Less a b = binary_promoted a b
operands_of p binary.Greater a b = binary_promoted a b
operands_of p binary.LessOrEqual a b = binary_promoted a b
operands_of p binary.GreaterOrEqual a b = binary_promoted a b
operands_of p binary.Equal a b = equality_operands p a b
operands_of p binary.NotEqual a b = equality_operands p a b
operands_of p binary.And a b = bitwise_operands a b
operands_of p binary.Xor a b = bitwise_operands a b
operands_of p binary.Or a b = bitwise_operands a b
operands_of p binary.ConditionalAnd a b = logical_operands a b
operands_of p binary.ConditionalOr a b = logical_operands a b

abbrev pub is_legal : Cast → Bool
is_legal casts.Illegal = false
is_legal c = true

-- the operator's result may be cast to the type of the variable
abbrev pub returns_to : Program → VType → Option VType → Bool
returns_to p variable None = false
returns_to p variable (Some t) = is_legal (cast_of p t variable)

abbrev pub stored_operands : Program → BinaryOperator → VType → Option OperandType → Option OperandType
stored_operands p o variable None = None
stored_operands p o variable (Some t) = taken_if (returns_to p variable (binary_result o t)) t

-- the type to which `variable op= value` takes its operands: `variable = (T) (variable op value)` is right
-- (JLS 15.26.2)
abbrev pub compound_operands : Program → BinaryOperator → VType → VType → Option OperandType
compound_operands p o variable value = stored_operands p o variable (operands_of p o variable value)

-- the type in which `++` and `--` add or subtract 1 (JLS 15.14.2, 15.14.3, 15.15.1, 15.15.2): that of a number and an
-- `int`
abbrev pub step_operands : VType → Option OperandType
step_operands variable = promoted variable
