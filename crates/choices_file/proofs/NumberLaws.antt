-- Numbers that are spelled by decimal digits.
use Rattle.std.proofs.Common.{◌≡◌, ℕ, ◌+◌, ◌*◌, ◌^◌, ◌<◌, ◌≤◌, Bool, true, false, List, [], ◌∷◌, length, drop, refl, sym, ap, ◌∙◌, arith}
use Rattle.std.specs.Prelude.{nat_lt, nat_le, if◌then◌else◌, Option, Some, None, slice_index}
use Rattle.std.specs.Char.{digit_value}
use Rattle.std.proofs.lemmas.Bool.{ltb-false, lt-leb, cond-false}
use Rattle.std.proofs.lemmas.List.{drop_more}
use Rattle.choices_file.specs.Numbers.{digits_from, up_to}

-- digits make no number smaller
pub digits_grow : (number : ℕ) (bs : List ℕ) → number ≤ digits_from number bs
digits_grow number [] = omega arith
digits_grow number (b ∷ bs) =
    let rest : number * 10 + digit_value b ≤ digits_from (number * 10 + digit_value b) bs = digits_grow (number * 10 + digit_value b) bs in
    omega arith

none_some : (n : ℕ) → ◌≡◌ {A = Option ℕ} None (Some n) → ⊥
none_some n h = cc

-- a number that has no room is past the largest
pub no_room : (n : ℕ) → None ≡ (if nat_lt n (2 ^ 64) then Some n else None) → 2 ^ 64 ≤ n
no_room n e = go (nat_lt n (2 ^ 64)) refl
  where
    go : (t : Bool) → nat_lt n (2 ^ 64) ≡ t → 2 ^ 64 ≤ n
    go true is = absurd (none_some n (e ∙ ap (λ t. if t then Some n else None) is))
    go false is = ltb-false n (2 ^ 64) is

-- where a digit finds no room, the whole number is past the largest
pub past_largest : (largest number index : ℕ) (text : List ℕ) → largest < 2 ^ 64 → index < length text
    → digits_from number (drop index text) ≡ digits_from 0 text
    → None ≡ (if nat_lt (number * 10 + digit_value (slice_index text index)) (2 ^ 64) then Some (number * 10 + digit_value (slice_index text index)) else None)
    → None ≡ up_to largest (digits_from 0 text)
past_largest largest number index text fits inside rest full =
    let b = slice_index text index in
    let next = number * 10 + digit_value b in
    let all : digits_from next (drop (index + 1) text) ≡ digits_from 0 text = ap (digits_from number) (sym (drop_more text index 0 inside)) ∙ rest in
    let room : 2 ^ 64 ≤ next = no_room next full in
    let grows : next ≤ digits_from next (drop (index + 1) text) = digits_grow next (drop (index + 1) text) in
    let past : nat_le (digits_from 0 text) largest ≡ false = lt-leb (digits_from 0 text) largest (omega arith) in
    sym (cond-false (nat_le (digits_from 0 text) largest) _ _ past)
