-- The bytes of an integer literal: a digit is the first, and an identifier may have them all.
use Rattle.std.proofs.Common.{◌≡◌, ℕ, zero, suc, ◌^◌, ◌+◌, ◌-◌, ◌<◌, ◌≤◌, Bool, true, List, [], ◌∷◌, length, take, drop, refl, sym, ap, ◌∙◌, subst, arith, inl, inr}
use Rattle.std.specs.Prelude.{◌||◌, ◌&&◌, ◌==◌, not, nat_lt, nat_le, slice_index}
use Rattle.std.specs.List.{list_all}
use Rattle.std.specs.Char.{is_ascii_digit, digit_value, is_digit}
use Rattle.std.proofs.lemmas.Bool.{and_parts, and_from, or_cases, false≢true, ltb-true, lt-ltb, le-ltb, eqb-true, cases_lt, cases_Bool, cond-true, cond-false, agree_below_at}
use Rattle.std.proofs.lemmas.List.{take-append-drop, drop_more, drop_all}
use Rattle.std.proofs.lemmas.List.Folds.{list_all-append}
use Rattle.java_lexer.specs.Literals.{is_digits, is_long, has_prefix, is_numeral, is_integer, value_from}
use Rattle.java_lexer.proofs.TextLaws.{by_two}
use Rattle.java_lexer.proofs.RunLaws.{is_plain_part}

high_value : (b : ℕ) → 128 ≤ b → digit_value b ≡ 36
high_value b high =
    cond-false (nat_lt b 48) _ _ (le-ltb b 48 (omega arith)) ∙ cond-false (nat_lt b 58) _ _ (le-ltb b 58 (omega arith)) ∙ cond-false (nat_lt b 65) _ _ (le-ltb b 65 (omega arith))
    ∙ cond-false (nat_lt b 91) _ _ (le-ltb b 91 (omega arith)) ∙ cond-false (nat_lt b 97) _ _ (le-ltb b 97 (omega arith)) ∙ cond-false (nat_lt b 123) _ _ (le-ltb b 123 (omega arith))

-- what holds of the digits below 128 holds of all digits
low_digit : (test : ℕ → Bool) (base b : ℕ) → base ≤ 36 → is_digit b base ≡ true → (b < 128 → test b ≡ true) → test b ≡ true
low_digit test base b small is low = elim (cases_lt b 128) [
  | inl below ↦ low below
  | inr above ↦ let value : digit_value b < base = ltb-true (digit_value b) base is in absurd (omega (arith, high_value b above))
]

digit_plain : (base b : ℕ) → base ≤ 36 → is_digit b base ≡ true → is_plain_part b ≡ true
digit_plain base b small is = low_digit is_plain_part base b small is (λ low.
    let value : digit_value b < base = ltb-true (digit_value b) base is in
    let digit : nat_lt (digit_value b) 36 ≡ true = lt-ltb (digit_value b) 36 (omega arith) in
    sym (ap (λ t. not t || is_plain_part b) digit) ∙ agree_below_at (λ n. not (nat_lt (digit_value n) 36) || is_plain_part n) (λ n. true) 128 b refl low)

digit_ascii : (base b : ℕ) → base ≤ 10 → is_digit b base ≡ true → is_ascii_digit b ≡ true
digit_ascii base b small is = low_digit is_ascii_digit base b (omega arith) is (λ low.
    let value : digit_value b < base = ltb-true (digit_value b) base is in
    let digit : nat_lt (digit_value b) 10 ≡ true = lt-ltb (digit_value b) 10 (omega arith) in
    sym (ap (λ t. not t || is_ascii_digit b) digit) ∙ agree_below_at (λ n. not (nat_lt (digit_value n) 10) || is_ascii_digit n) (λ n. true) 128 b refl low)

pub all_by : (p q : ℕ → Bool) (xs : List ℕ) → ((x : ℕ) → p x ≡ true → q x ≡ true) → list_all p xs ≡ true → list_all q xs ≡ true
all_by p q [] step all = refl
all_by p q (x ∷ xs) step all =
    let parts = and_parts (p x) (list_all p xs) all in
    and_from (q x) (list_all q xs) (step x parts.0) (all_by p q xs step parts.1)

digits_plain : (base : ℕ) (text : List ℕ) → base ≤ 36 → is_digits base text ≡ true → list_all is_plain_part text ≡ true
digits_plain base text small is =
    let ends = and_parts (list_all (λ b. is_digit b base || b == 95) text && is_digit (slice_index text 0) base) (is_digit (slice_index text (length text - 1)) base) is in
    let all = and_parts (list_all (λ b. is_digit b base || b == 95) text) (is_digit (slice_index text 0) base) ends.0 in
    all_by (λ b. is_digit b base || b == 95) is_plain_part text (λ b part. elim (or_cases (is_digit b base) (b == 95) part) [
      | inl digit ↦ digit_plain base b small digit
      | inr mark ↦ subst (λ n. is_plain_part n ≡ true) (sym (eqb-true b 95 mark)) refl
    ]) all.0

-- the bytes of a number
pub record IsNumberText (text : List ℕ) : Type 0 where
  pub plain : list_all is_plain_part text ≡ true
  pub digit : is_ascii_digit (slice_index text 0) ≡ true

digits_text : (base : ℕ) (text : List ℕ) → base ≤ 10 → is_digits base text ≡ true → IsNumberText text
digits_text base text small is =
    let ends = and_parts (list_all (λ b. is_digit b base || b == 95) text && is_digit (slice_index text 0) base) (is_digit (slice_index text (length text - 1)) base) is in
    let all = and_parts (list_all (λ b. is_digit b base || b == 95) text) (is_digit (slice_index text 0) base) ends.0 in
    record { plain = digits_plain base text (omega arith) is; digit = digit_ascii base (slice_index text 0) small all.1 }

prefixed_text : (lower upper base : ℕ) (text : List ℕ) → is_plain_part lower ≡ true → is_plain_part upper ≡ true → 0 < lower → 0 < upper → base ≤ 36
    → has_prefix lower upper text ≡ true → is_digits base (drop 2 text) ≡ true → IsNumberText text
prefixed_text lower upper base text lower_plain upper_plain l u small prefixed is =
    let parts = and_parts (slice_index text 0 == 48) (slice_index text 1 == lower || slice_index text 1 == upper) prefixed in
    let zero : slice_index text 0 ≡ 48 = eqb-true (slice_index text 0) 48 parts.0 in
    let second : (is_plain_part (slice_index text 1) ≡ true) × (0 < slice_index text 1) =
    elim (or_cases (slice_index text 1 == lower) (slice_index text 1 == upper) parts.1) [
      | inl e ↦ let same : slice_index text 1 ≡ lower = eqb-true (slice_index text 1) lower e in (ap is_plain_part same ∙ lower_plain, omega arith)
      | inr e ↦ let same : slice_index text 1 ≡ upper = eqb-true (slice_index text 1) upper e in (ap is_plain_part same ∙ upper_plain, omega arith)
    ] in
    let more : 0 < length text = filled text (omega arith) in
    let whole : text ≡ 48 ∷ slice_index text 1 ∷ drop 2 text = by_two text 48 (slice_index text 1) zero refl more second.1 in
    record {
      plain = ap (list_all is_plain_part) whole ∙ and_from (is_plain_part (slice_index text 1)) (list_all is_plain_part (drop 2 text)) second.0 (digits_plain base (drop 2 text) small is);
      digit = ap is_ascii_digit zero;
    }
  where
    filled : (text : List ℕ) → 0 < slice_index text 0 → 0 < length text
    filled [] h = h
    filled (x ∷ xs) h = omega arith

numeral_text : (largest_decimal largest : ℕ) (text : List ℕ) → is_numeral largest_decimal largest text ≡ true → IsNumberText text
numeral_text largest_decimal largest text is = elim (cases_Bool (has_prefix 120 88 text)) [
  | inl hexadecimal ↦
      prefixed_text 120 88 16 text refl refl (omega arith) (omega arith) (omega arith) hexadecimal
      (and_parts (is_digits 16 (drop 2 text)) (nat_le (value_from 16 0 (drop 2 text)) largest) (sym (cond-true (has_prefix 120 88 text) _ _ hexadecimal) ∙ is)).0
  | inr no_hexadecimal ↦
      let less = sym (cond-false (has_prefix 120 88 text) _ _ no_hexadecimal) ∙ is in
      elim (cases_Bool (has_prefix 98 66 text)) [
        | inl binary ↦
            prefixed_text 98 66 2 text refl refl (omega arith) (omega arith) (omega arith) binary
            (and_parts (is_digits 2 (drop 2 text)) (nat_le (value_from 2 0 (drop 2 text)) largest) (sym (cond-true (has_prefix 98 66 text) _ _ binary) ∙ less)).0
        | inr no_binary ↦
            let least = sym (cond-false (has_prefix 98 66 text) _ _ no_binary) ∙ less in
            elim (cases_Bool (slice_index text 0 == 48)) [
              | inl octal ↦ digits_text 8 text (omega arith) (and_parts (is_digits 8 text) (nat_le (value_from 8 0 text) largest) (sym (cond-true (slice_index text 0 == 48) _ _ octal) ∙ least)).0
              | inr decimal ↦ digits_text 10 text (omega arith) (and_parts (is_digits 10 text) (nat_le (value_from 10 0 text) largest_decimal) (sym (cond-false (slice_index text 0 == 48) _ _ decimal) ∙ least)).0
            ]
      ]
]

suffixed_text : (text : List ℕ) → is_long text ≡ true → IsNumberText (take (length text - 1) text) → IsNumberText text
suffixed_text [] long number = absurd (false≢true long)
suffixed_text (x ∷ xs) long number =
    let text : List ℕ = x ∷ xs in
    let n : ℕ = length text - 1 in
    let last : slice_index text n ≡ slice_index text n = refl in
    let suffix : is_plain_part (slice_index text n) ≡ true = elim (or_cases (slice_index text n == 76) (slice_index text n == 108) long) [
      | inl e ↦ ap is_plain_part (eqb-true (slice_index text n) 76 e)
      | inr e ↦ ap is_plain_part (eqb-true (slice_index text n) 108 e)
    ] in
    let behind : drop n text ≡ slice_index text n ∷ [] = drop_more text n 0 (omega arith) ∙ ap (λ ys. slice_index text n ∷ ys) (drop_all (n + 1) text (omega arith)) in
    record {
      plain = ap (list_all is_plain_part) (sym (take-append-drop n text)) ∙ list_all-append is_plain_part (take n text) (drop n text)
          ∙ and_from (list_all is_plain_part (take n text)) (list_all is_plain_part (drop n text)) number.plain (ap (list_all is_plain_part) behind ∙ and_from (is_plain_part (slice_index text n)) true suffix refl);
      digit = first (n) text number.digit;
    }
  where
    first : (n : ℕ) (text : List ℕ) → is_ascii_digit (slice_index (take n text) 0) ≡ true → is_ascii_digit (slice_index text 0) ≡ true
    first zero text is = absurd (false≢true is)
    first (suc n) [] is = is
    first (suc n) (x ∷ xs) is = is

pub integer_text : (text : List ℕ) → is_integer text ≡ true → IsNumberText text
integer_text text is = elim (cases_Bool (is_long text)) [
  | inl long ↦ suffixed_text text long (numeral_text (2 ^ 63) (2 ^ 64 - 1) (take (length text - 1) text) (sym (cond-true (is_long text) _ _ long) ∙ is))
  | inr short ↦ numeral_text (2 ^ 31) (2 ^ 32 - 1) text (sym (cond-false (is_long text) _ _ short) ∙ is)
]
