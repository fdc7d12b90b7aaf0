-- What a text of 1 to 10 digits is to `parse`.
use Rattle.std.proofs.Common.{◌≡◌, sym, refl, arith, ℕ, ◌+◌, ◌<◌, ◌≤◌, ◌^◌, Bool, true, false, true≢false, ◌&&◌, List, [], ◌∷◌, length, get_or, nat_le, lit<}
use Rattle.std.specs.Char.{is_ascii_digit, digit_value}
use Rattle.std.specs.List.{list_all}
use Rattle.std.specs.Str.Parse.{AllDigits, IsNumeral, digits_value, without_leading_plus}
use Rattle.std.proofs.lemmas.Bool.{leb-true}
use Rattle.std.proofs.lemmas.Str.{digit_value_digit}
use Rattle.std.proofs.lemmas.Str.Parse.{digits_value_short, numerals_by_value, tells_digits, without_leading_plus_none}
use Rattle.command_words.specs.Numbers.{is_number}

-- both sides of a test that holds
both : (a b : Bool) → (a && b) ≡ true → (a ≡ true) × (b ≡ true)
both true b e = (refl, e)
both false b e = absurd (true≢false (sym e))

digit_low : (c : ℕ) → is_ascii_digit c ≡ true → 48 ≤ c
digit_low c e = leb-true 48 c ((both (nat_le 48 c) (nat_le c 57) e).0)

digit_high : (c : ℕ) → is_ascii_digit c ≡ true → c ≤ 57
digit_high c e = leb-true c 57 ((both (nat_le 48 c) (nat_le c 57) e).1)

digit_small : (c : ℕ) → is_ascii_digit c ≡ true → digit_value c < 10
digit_small c e =
    let low : 48 ≤ c = digit_low c e in
    let high : c ≤ 57 = digit_high c e in
    let value : digit_value c + 48 ≡ c = digit_value_digit c (low, high) in
    omega (arith, low, high, value)

all_digits : (text : List ℕ) → list_all is_ascii_digit text ≡ true → AllDigits 10 text
all_digits [] e = tt
all_digits (c ∷ cs) e =
    let parts = both (is_ascii_digit c) (list_all is_ascii_digit cs) e in
    (digit_small c parts.0, all_digits cs parts.1)

no_plus : (text : List ℕ) → list_all is_ascii_digit text ≡ true → get_or text 0 0 ≡ 43 → ⊥
no_plus [] e is_plus = let bad : 0 ≡ 43 = is_plus in absurd (omega (arith, bad))
no_plus (c ∷ cs) e is_plus =
    let low : 48 ≤ c = digit_low c ((both (is_ascii_digit c) (list_all is_ascii_digit cs) e).0) in
    let plus : c ≡ 43 = is_plus in
    absurd (omega (arith, low, plus))

-- a text of 1 to 10 digits is a numeral without a sign
pub record IsShortNumeral (text : List ℕ) : Type 0 where
  pub plain : without_leading_plus text ≡ text
  pub numeral : IsNumeral 10 text
  pub small : digits_value 10 text < 2 ^ 64

pub number_numeral : (text : List ℕ) → is_number text ≡ true → IsShortNumeral text
number_numeral text e =
    let front = both (nat_le 1 (length text) && nat_le (length text) 10) (list_all is_ascii_digit text) e in
    let sizes = both (nat_le 1 (length text)) (nat_le (length text) 10) front.0 in
    let some : 1 ≤ length text = leb-true 1 (length text) sizes.0 in
    let few : length text ≤ 10 = leb-true (length text) 10 sizes.1 in
    let digits = all_digits text front.1 in
    let below : digits_value 10 text < 10 ^ 10 = digits_value_short (numerals_by_value (AllDigits 10) tells_digits) text 10 digits few in
    let bound : 10 ^ 10 < 2 ^ 64 = lit< tt in
    record {
      plain = without_leading_plus_none text (no_plus text front.1);
      numeral = (omega (arith, some), digits);
      small = omega (arith, below, bound);
    }
