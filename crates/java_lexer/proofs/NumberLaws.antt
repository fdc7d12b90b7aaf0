-- Numbers that are spelled by digits.
use Rattle.std.proofs.Common.{◌≡◌, ℕ, ◌+◌, ◌*◌, ◌^◌, ◌<◌, ◌≤◌, Bool, true, false, List, [], ◌∷◌, length, drop, refl, sym, ap, ◌∙◌, arith}
use Rattle.std.specs.Prelude.{nat_lt, nat_le, ◌==◌, if◌then◌else◌, Option, Some, None, slice_index}
use Rattle.std.specs.Char.{digit_value}
use Rattle.std.proofs.lemmas.Bool.{ltb-false, lt-leb, cond-false, ne_eqb}
use Rattle.std.proofs.lemmas.List.{drop_more}
use Rattle.std.proofs.Math.Nat.{mul-le-mul_left}
use Rattle.java_lexer.specs.Literals.{value_from, has_prefix, is_numeral_up_to, is_numeral}

-- the number behind one more byte
abbrev pub next_number : ℕ → ℕ → ℕ → ℕ
next_number base number b = if b == 95 then number else number * base + digit_value b

-- digits make no number smaller
pub value_grows : (base number : ℕ) (bs : List ℕ) → 1 ≤ base → number ≤ value_from base number bs
value_grows base number [] h = omega arith
value_grows base number (b ∷ bs) h =
    let rest : next_number base number b ≤ value_from base (next_number base number b) bs = value_grows base (next_number base number b) bs h in
    let step : number ≤ next_number base number b = grows base number b h in
    omega arith
  where
    grows : (base number b : ℕ) → 1 ≤ base → number ≤ next_number base number b
    grows base number b h = elim (b == 95) as (λ t. number ≤ (if t then number else number * base + digit_value b)) [
      | true ↦ omega arith
      | false ↦ let more : number * 1 ≤ number * base = mul-le-mul_left number h in omega arith
    ]

none_some : (n : ℕ) → ◌≡◌ {A = Option ℕ} None (Some n) → ⊥
none_some n h = cc

-- a number that has no room is past the largest
pub no_room : (n : ℕ) → None ≡ (if nat_lt n (2 ^ 64) then Some n else None) → 2 ^ 64 ≤ n
no_room n e = go (nat_lt n (2 ^ 64)) refl
  where
    go : (t : Bool) → nat_lt n (2 ^ 64) ≡ t → 2 ^ 64 ≤ n
    go true is = absurd (none_some n (e ∙ ap (λ t. if t then Some n else None) is))
    go false is = ltb-false n (2 ^ 64) is

-- where a digit finds no room, the whole number is past the largest
pub past_largest : (base largest number index : ℕ) (text : List ℕ) → 1 ≤ base → largest < 2 ^ 64 → index < length text
    → value_from base number (drop index text) ≡ value_from base 0 text
    → None ≡ (if nat_lt (next_number base number (slice_index text index)) (2 ^ 64) then Some (next_number base number (slice_index text index)) else None)
    → false ≡ nat_le (value_from base 0 text) largest
past_largest base largest number index text h fits inside rest full =
    let b = slice_index text index in
    let all : value_from base (next_number base number b) (drop (index + 1) text) ≡ value_from base 0 text =
    ap (value_from base number) (sym (drop_more text index 0 inside)) ∙ rest in
    let room : 2 ^ 64 ≤ next_number base number b = no_room (next_number base number b) full in
    let grows : next_number base number b ≤ value_from base (next_number base number b) (drop (index + 1) text) = value_grows base (next_number base number b) (drop (index + 1) text) h in
    sym (lt-leb (value_from base 0 text) largest (omega arith))

-- without a prefix and a zero in front a numeral is decimal
pub decimal_numeral : (largest_decimal largest : ℕ) (text : List ℕ) → has_prefix 120 88 text ≡ false → has_prefix 98 66 text ≡ false → (slice_index text 0 ≡ 48 → ⊥)
    → is_numeral largest_decimal largest text ≡ is_numeral_up_to 10 largest_decimal text
decimal_numeral largest_decimal largest text hexadecimal binary octal =
    cond-false (has_prefix 120 88 text) _ _ hexadecimal ∙ cond-false (has_prefix 98 66 text) _ _ binary ∙ cond-false (slice_index text 0 == 48) _ _ (ne_eqb (slice_index text 0) 48 octal)
