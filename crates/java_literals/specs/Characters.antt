-- The values of character literals (JLS 3.10.4, 3.10.7): UTF-16 code units.
use Rattle.std.specs.Prelude.{ℕ, ◌+◌, ◌-◌, ◌*◌, ◌&&◌, ◌==◌, nat_lt, nat_le, Option, Some, None, List, [], ◌∷◌, if◌then◌else◌}
use Rattle.java_lexer.specs.Literals.{is_continuation, is_octal_digit}

-- what a letter or sign behind a backslash stands for: `b t n f r s " ' \`
abbrev pub escape_of : ℕ → Option ℕ
escape_of b =
    if b == 98 then Some 8
    else (if b == 116 then Some 9
    else (if b == 110 then Some 10
    else (if b == 102 then Some 12
    else (if b == 114 then Some 13
    else (if b == 115 then Some 32
    else (if b == 34 then Some 34
    else (if b == 39 then Some 39
    else (if b == 92 then Some 92 else None))))))))

-- an octal digit's value; the code of `0` is 48
abbrev pub octal : ℕ → ℕ
octal b = b - 48

-- what stands behind the backslash: one sign, or one to three octal digits, up to 377
abbrev pub escape_value : List ℕ → Option ℕ
escape_value [] = None
escape_value (a ∷ []) = if is_octal_digit a then Some (octal a) else escape_of a
escape_value (a ∷ b ∷ []) = if is_octal_digit a && is_octal_digit b then Some (octal a * 8 + octal b) else None
escape_value (a ∷ b ∷ c ∷ []) =
    if nat_le a 51 && is_octal_digit a && is_octal_digit b && is_octal_digit c then Some (octal a * 64 + octal b * 8 + octal c) else None
escape_value (a ∷ b ∷ c ∷ d ∷ more) = None

-- the number, where one code unit has it
abbrev pub unit_of : ℕ → Option ℕ
unit_of n = if nat_lt n 65536 then Some n else None

-- the six low bits of a byte that goes on with a character
abbrev pub low_bits : ℕ → ℕ
low_bits b = b - 128

-- a character in UTF-8, of one byte, of two or of three (RFC 3629)
abbrev pub code_unit : List ℕ → Option ℕ
code_unit [] = None
code_unit (a ∷ []) = if nat_lt a 128 then Some a else None
code_unit (a ∷ b ∷ []) = if nat_le 192 a && nat_lt a 224 && is_continuation b then unit_of ((a - 192) * 64 + low_bits b) else None
code_unit (a ∷ b ∷ c ∷ []) =
    if nat_le 224 a && nat_lt a 240 && is_continuation b && is_continuation c then unit_of ((a - 224) * 4096 + low_bits b * 64 + low_bits c)
    else None
code_unit (a ∷ b ∷ c ∷ d ∷ more) = None

-- what stands between the quotes: an escape, or one character up to U+FFFF; a backslash's code is 92
abbrev pub character_value : List ℕ → Option ℕ
character_value [] = None
character_value (b ∷ bs) = if b == 92 then escape_value bs else code_unit (b ∷ bs)
