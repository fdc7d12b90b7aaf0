-- What stands for what in a section with escapes.
use Rattle.std.specs.Prelude.{ℕ, ◌+◌, ◌-◌, ◌*◌, Bool, true, cond, nat_le, ◌==◌, ◌&&◌, not, List, [], ◌∷◌, Option, Some, None}

-- `\`
abbrev pub escape_mark : ℕ
escape_mark = 92

-- the text has no escape
abbrev pub is_plain : List ℕ → Bool
is_plain [] = true
is_plain (byte ∷ text) = not (byte == escape_mark) && is_plain text

-- the byte is one of those from the first to the last
abbrev pub is_among : ℕ → ℕ → ℕ → Bool
is_among first last byte = nat_le first byte && nat_le byte last

-- the value of a hexadecimal digit: `0` to `9`, `a` to `f` and `A` to `F`
abbrev pub hex_value : ℕ → Option ℕ
hex_value byte =
    cond (is_among 48 57 byte) (Some (byte - 48))
    (cond (is_among 97 102 byte) (Some (byte - 97 + 10))
    (cond (is_among 65 70 byte) (Some (byte - 65 + 10)) None))

-- the byte of two hexadecimal digits
abbrev pub hex_pair : Option ℕ → Option ℕ → Option ℕ
hex_pair (Some high) (Some low) = Some (high * 16 + low)
hex_pair (Some high) None = None
hex_pair None low = None
