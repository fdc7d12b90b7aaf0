-- Decimal numbers.
use Rattle.std.specs.Prelude.{ℕ, ◌+◌, ◌*◌, ◌^◌, ◌-◌, ℤ, pos, neg_ℤ, Bool, false, not, ◌&&◌, nat_le, ◌==◌, Option, Some, None, option_map, option_and_then, List, [], ◌∷◌, if◌then◌else◌}
use Rattle.std.specs.Char.{digit_value, is_ascii_digit}
use Rattle.std.specs.List.{list_all}

-- the number that digits spell behind this one
abbrev pub digits_from : ℕ → List ℕ → ℕ
digits_from number [] = number
digits_from number (b ∷ bs) = digits_from (number * 10 + digit_value b) bs

-- at least one decimal digit, and no zero in front of others
abbrev pub is_numeral : List ℕ → Bool
is_numeral [] = false
is_numeral (b ∷ []) = is_ascii_digit b
is_numeral (b ∷ c ∷ bs) = not (b == 48) && list_all (λ d. is_ascii_digit d) (b ∷ c ∷ bs)

abbrev pub up_to : ℕ → ℕ → Option ℕ
up_to largest number = if nat_le number largest then Some number else None

-- the number, where the text is one that is not past the largest
abbrev pub number_up_to : ℕ → List ℕ → Option ℕ
number_up_to largest text = if is_numeral text then up_to largest (digits_from 0 text) else None

-- the number below zero, where it has 64 bits
abbrev pub negated : ℕ → Option ℤ
negated magnitude = if nat_le magnitude (2 ^ 63) then Some (neg_ℤ (pos magnitude)) else None

-- the number of 64 bits, with `-` (its code is 45) in front of one below zero
abbrev pub value_in : List ℕ → Option ℤ
value_in [] = None
value_in (b ∷ bs) =
    if b == 45 then option_and_then negated (number_up_to (2 ^ 63) bs) else option_map pos (number_up_to (2 ^ 63 - 1) (b ∷ bs))
