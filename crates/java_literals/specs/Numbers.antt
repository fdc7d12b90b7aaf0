-- The values of integer literals (JLS 3.10.1).
use Rattle.std.specs.Prelude.{ℕ, pos, ◌^◌, ◌-◌, ◌||◌, ◌==◌, nat_lt, Option, Some, None, option_and_then, List, length, take, drop, slice_index, if◌then◌else◌}
use Rattle.std.specs.Int.{w32, w64, cast_signed}
use Rattle.java_lexer.specs.Literals.{has_prefix, is_long, value_from}
use Rattle.java_literals.specs.declared.values.LiteralValue.{LiteralValue}
use Rattle.java_literals.specs.declared.values.LiteralValue.TheVariants as values

-- a number behind `0x` is hexadecimal, behind `0b` binary, behind another zero octal, and else decimal
abbrev pub base_of : List ℕ → ℕ
base_of text =
    if has_prefix 120 88 text then 16
    else (if has_prefix 98 66 text then 2
    else (if slice_index text 0 == 48 then 8 else 10))

-- the digits, without the two letters that say the base
abbrev pub digits_of : List ℕ → List ℕ
digits_of text = if has_prefix 120 88 text || has_prefix 98 66 text then drop 2 text else text

abbrev pub below : ℕ → ℕ → Option ℕ
below limit n = if nat_lt n limit then Some n else None

-- the number that the digits spell, where it has 64 bits
abbrev pub number_of : ℕ → List ℕ → Option ℕ
number_of base digits = below (2 ^ 64) (value_from base 0 digits)

-- a decimal `int` is below 2^31, and 2^31 itself may stand under a minus
abbrev pub decimal_int : ℕ → Option LiteralValue
decimal_int n = if nat_lt n (2 ^ 31) then Some (values.Int (pos n)) else (if n == 2 ^ 31 then Some values.IntLimit else None)

-- the digits of another base are the 32 bits of an `int` in two's complement
abbrev pub int_of : ℕ → ℕ → Option LiteralValue
int_of base n =
    if base == 10 then decimal_int n else (if nat_lt n (2 ^ 32) then Some (values.Int (cast_signed w32 n)) else None)

-- a decimal `long` is below 2^63, and 2^63 itself may stand under a minus
abbrev pub decimal_long : ℕ → Option LiteralValue
decimal_long n = if nat_lt n (2 ^ 63) then Some (values.Long (pos n)) else (if n == 2 ^ 63 then Some values.LongLimit else None)

abbrev pub long_of : ℕ → ℕ → Option LiteralValue
long_of base n = if base == 10 then decimal_long n else Some (values.Long (cast_signed w64 n))

abbrev pub int_value : List ℕ → Option LiteralValue
int_value text = option_and_then (int_of (base_of text)) (number_of (base_of text) (digits_of text))

abbrev pub long_value : List ℕ → Option LiteralValue
long_value text = option_and_then (long_of (base_of text)) (number_of (base_of text) (digits_of text))

-- an integer literal; its suffix `L` or `l` makes it a `long`
abbrev pub integer_value : List ℕ → Option LiteralValue
integer_value text = if is_long text then long_value (take (length text - 1) text) else int_value text
