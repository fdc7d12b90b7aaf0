-- Decimal numbers, and the parts of a text.
use Rattle.std.specs.Prelude.{ℕ, ◌+◌, ◌*◌, ◌-◌, ◌^◌, min, Bool, false, not, ◌&&◌, ◌==◌, nat_lt, Option, Some, None, List, [], ◌∷◌, if◌then◌else◌}
use Rattle.std.specs.Char.{digit_value, is_ascii_digit}
use Rattle.std.specs.List.{list_all, slice_split}

-- what stands between the bytes of this code
abbrev pub parts : ℕ → List ℕ → List (List ℕ)
parts code text = slice_split (λ b. b == code) text

-- the number that digits spell behind this one
abbrev pub digits_from : ℕ → List ℕ → ℕ
digits_from number [] = number
digits_from number (b ∷ bs) = digits_from (number * 10 + digit_value b) bs

-- at least one decimal digit, and no zero in front of others; the code of `0` is 48
abbrev pub is_numeral : List ℕ → Bool
is_numeral [] = false
is_numeral (b ∷ []) = is_ascii_digit b
is_numeral (b ∷ c ∷ bs) = not (b == 48) && list_all (λ d. is_ascii_digit d) (b ∷ c ∷ bs)

-- What is larger counts as this number: no text has so many lines, and no graph so many nodes or origins.
abbrev pub largest : ℕ
largest = 2 ^ 64 - 1

-- the number that the text is, where it is one
abbrev pub number_in : List ℕ → Option ℕ
number_in text = if is_numeral text then Some (min (digits_from 0 text) largest) else None

abbrev pub if_below : ℕ → Option ℕ → Option ℕ
if_below n None = None
if_below n (Some k) = if nat_lt k n then Some k else None

-- the number that the text is, where it is one below `n`
abbrev pub number_below : ℕ → List ℕ → Option ℕ
number_below n text = if_below n (number_in text)
