-- The integer operations (JLS 4.2.2) on values of type int and long, and the narrowing of a value (JLS 5.1.3).
use Rattle.std.specs.Prelude.{ℕ, ◌/◌, ◌%◌, ◌^◌, ℤ, pos, ◌+ℤ◌, ◌-ℤ◌, ◌*ℤ◌, neg_ℤ, int_rem}
use Rattle.std.specs.Int.{w8, w32, w64, cast_signed, cast_unsigned, int_bit_not, int_shl, int_shr, int_wrapping_add, int_wrapping_sub, int_wrapping_mul, int_wrapping_div, int_wrapping_neg}
use Rattle.program_model.specs.declared.kinds.OperandType.{OperandType}
use Rattle.program_model.specs.declared.kinds.OperandType.TheVariants as operand_types
use Rattle.program_model.specs.declared.kinds.Primitive.{Primitive}
use Rattle.program_model.specs.declared.kinds.Primitive.TheVariants as primitives

-- the value of the type that has the same lowest bits in two's complement: 32, 8 and 16 of them (JLS 5.1.3)
abbrev pub as_int : ℤ → ℤ
as_int z = cast_signed w32 (cast_unsigned w64 z % 2 ^ 32)

abbrev pub as_byte : ℤ → ℤ
as_byte z = cast_signed w8 (cast_unsigned w64 z % 2 ^ 8)

abbrev pub as_char : ℤ → ℤ
as_char z = pos (cast_unsigned w64 z % 2 ^ 16)

-- a cast of a value to the type (JLS 5.1.2, 5.1.3); a truth value stays what it is
abbrev pub converted : Primitive → ℤ → ℤ
converted primitives.Boolean z = z
converted primitives.Byte z = as_byte z
converted primitives.Char z = as_char z
converted primitives.Int z = as_int z
converted primitives.Long z = z

-- of a result of 64 bits, the lowest bits that the type of the operation has
abbrev pub of_width : OperandType → ℤ → ℤ
of_width operand_types.Int z = as_int z
of_width t z = z

-- the lowest bits of the sum, difference, product (JLS 15.18.2, 15.17.1) and negation (JLS 15.15.4)
abbrev pub add : OperandType → ℤ → ℤ → ℤ
add t a b = of_width t (int_wrapping_add w64 a b)

abbrev pub subtract : OperandType → ℤ → ℤ → ℤ
subtract t a b = of_width t (int_wrapping_sub w64 a b)

abbrev pub multiply : OperandType → ℤ → ℤ → ℤ
multiply t a b = of_width t (int_wrapping_mul w64 a b)

abbrev pub negate : OperandType → ℤ → ℤ
negate t a = of_width t (int_wrapping_neg w64 a)

-- the quotient rounded toward 0; the least value by -1 is itself (JLS 15.17.2). The divisor is not 0
abbrev pub divide : OperandType → ℤ → ℤ → ℤ
divide t a b = of_width t (int_wrapping_div w64 a b)

-- what that quotient leaves, with the sign of the dividend (JLS 15.17.3). The divisor is not 0
abbrev pub remainder : ℤ → ℤ → ℤ
remainder a b = int_rem a b

-- a shift's distance: the lowest five bits of the right operand, and six for long (JLS 15.19)
abbrev pub distance : OperandType → ℤ → ℕ
distance operand_types.Int b = cast_unsigned w64 b % 32
distance t b = cast_unsigned w64 b % 64

abbrev pub shift_left : OperandType → ℤ → ℤ → ℤ
shift_left t a b = of_width t (int_shl w64 a (distance t b))

-- `>>`: the sign comes in
abbrev pub shift_right : OperandType → ℤ → ℤ → ℤ
shift_right t a b = int_shr a (distance t b)

-- `>>>`: zeros come in
abbrev pub shift_right_unsigned : OperandType → ℤ → ℤ → ℤ
shift_right_unsigned operand_types.Int a b = cast_signed w32 ((cast_unsigned w64 a % 2 ^ 32) / 2 ^ distance operand_types.Int b)
shift_right_unsigned t a b = cast_signed w64 (cast_unsigned w64 a / 2 ^ distance t b)

-- `~` (JLS 15.15.5)
abbrev pub complement : ℤ → ℤ
complement a = int_bit_not w64 a
