-- The literals of the subset (JLS 3.10), other than `true`, `false` and `null`.
use Rattle.std.specs.Prelude.{ℕ, ◌+◌, ◌-◌, ◌*◌, ◌^◌, Bool, true, false, not, ◌&&◌, ◌||◌, nat_lt, nat_le, ◌==◌, if◌then◌else◌, List, [], ◌∷◌, length, take, drop, slice_index, ◌≡◌}
use Rattle.std.specs.Char.{is_digit, digit_value}
use Rattle.std.specs.List.{list_all}
use Rattle.java_lexer.specs.Characters.{is_line_end}

-- digits of the base, and `_` between them only
abbrev pub is_digits : ℕ → List ℕ → Bool
is_digits base text =
    list_all (λ b. is_digit b base || b == 95) text && is_digit (slice_index text 0) base && is_digit (slice_index text (length text - 1)) base

-- the number that digits of the base spell behind this one
abbrev pub value_from : ℕ → ℕ → List ℕ → ℕ
value_from base number [] = number
value_from base number (b ∷ bs) = value_from base (if b == 95 then number else number * base + digit_value b) bs

-- a suffix `L` or `l` makes a literal of type `long`
abbrev pub is_long : List ℕ → Bool
is_long text = let last = slice_index text (length text - 1) in last == 76 || last == 108

-- `0x`, `0b` and the like stand at the front: a zero and one of two letters
abbrev pub has_prefix : ℕ → ℕ → List ℕ → Bool
has_prefix lower upper text = slice_index text 0 == 48 && (slice_index text 1 == lower || slice_index text 1 == upper)

-- digits of the base, and a number that is not past the largest
abbrev pub is_numeral_up_to : ℕ → ℕ → List ℕ → Bool
is_numeral_up_to base largest text = is_digits base text && nat_le (value_from base 0 text) largest

-- a numeral without a suffix, hexadecimal, binary, octal (`0` among them) or decimal, that is not past the largest of its base
abbrev pub is_numeral : ℕ → ℕ → List ℕ → Bool
is_numeral largest_decimal largest text =
    if has_prefix 120 88 text then is_numeral_up_to 16 largest (drop 2 text)
    else if has_prefix 98 66 text then is_numeral_up_to 2 largest (drop 2 text)
    else if slice_index text 0 == 48 then is_numeral_up_to 8 largest text
    else is_numeral_up_to 10 largest_decimal text

-- an integer literal (JLS 3.10.1): a decimal one reaches 2^31, and 2^63 with the suffix; others have 32 or 64 bits
abbrev pub is_integer : List ℕ → Bool
is_integer text =
    if is_long text then is_numeral (2 ^ 63) (2 ^ 64 - 1) (take (length text - 1) text)
    else is_numeral (2 ^ 31) (2 ^ 32 - 1) text

abbrev pub is_octal_digit : ℕ → Bool
is_octal_digit b = nat_le 48 b && nat_le b 55

-- what stands behind the backslash of an escape (JLS 3.10.7), in its first byte: `b t n f r s " ' \` or an octal digit
abbrev pub is_escape : ℕ → Bool
is_escape b = b == 98 || b == 116 || b == 110 || b == 102 || b == 114 || b == 115 || b == 34 || b == 39 || b == 92 || is_octal_digit b

-- a backslash may escape any byte of its line
abbrev pub is_on_line : ℕ → Bool
is_on_line b = not (is_line_end b)

-- what stands between the quotes of a character or string literal (JLS 3.10.4, 3.10.5), all on one line: bytes other than
-- the quote and the backslash, and escapes, each a backslash and a byte that passes the test
pub data IsBody (quote : ℕ) (escapes : ℕ → Bool) : List ℕ → Type 0 where
  empty : IsBody quote escapes []
  plain : (b : ℕ) (rest : List ℕ) → (b == quote || b == 92 || is_line_end b) ≡ false → IsBody quote escapes rest → IsBody quote escapes (b ∷ rest)
  escape : (b : ℕ) (rest : List ℕ) → escapes b ≡ true → IsBody quote escapes rest → IsBody quote escapes (92 ∷ b ∷ rest)

-- a byte that goes on with a character of several bytes in UTF-8
abbrev pub is_continuation : ℕ → Bool
is_continuation b = nat_le 128 b && nat_lt b 192

-- what stands behind the backslash in a character literal: one byte, or an octal number up to 377
abbrev pub is_whole_escape : List ℕ → Bool
is_whole_escape [] = false
is_whole_escape (a ∷ []) = is_escape a
is_whole_escape (a ∷ b ∷ []) = is_octal_digit a && is_octal_digit b
is_whole_escape (a ∷ b ∷ c ∷ []) = nat_le a 51 && is_octal_digit a && is_octal_digit b && is_octal_digit c
is_whole_escape (a ∷ b ∷ c ∷ d ∷ more) = false

-- what a character literal holds: one escape, or one character up to U+FFFF, which takes at most three bytes in UTF-8
abbrev pub is_character : List ℕ → Bool
is_character [] = false
is_character (b ∷ bs) = if b == 92 then is_whole_escape bs else nat_le (length bs) 2 && list_all is_continuation bs
