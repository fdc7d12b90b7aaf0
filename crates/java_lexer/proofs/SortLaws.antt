-- What begins a text, by its first byte: the byte tells what pieces and what refusals can stand there.
use Rattle.std.proofs.Common.{◌≡◌, ℕ, ◌<◌, ◌≤◌, Bool, true, false, List, [], ◌∷◌, ◌++◌, length, refl, sym, ap, ◌∙◌, subst, arith, inl, inr}
use Rattle.std.specs.Prelude.{◌||◌, ◌==◌, not, nat_lt, nat_le, slice_index, if◌then◌else◌}
use Rattle.std.specs.Char.{is_ascii_digit, is_ascii_alphabetic}
use Rattle.std.proofs.lemmas.Bool.{and_parts, and_right, or_cases, or_from, or_parts, false≢true, ltb-true, lt-leb, leb-true, ne_eqb, cases_lt, cond-true, cond-false, false_from_ne_true, agree_below_at}
use Rattle.std.proofs.lemmas.Str.{char_from_byte}
use Rattle.unicode_ident.proofs.IdentLemmas.{is_xid_start-ascii}
use Rattle.java_lexer.specs.Characters.{is_blank, is_line_end, is_identifier_start, BeginsWith}
use Rattle.java_lexer.specs.Words.{is_listed, reserved_words, left_out_words, value_words, is_special_word, separators, operators}
use Rattle.java_lexer.specs.Refusals.{begins_other_piece}
use Rattle.java_lexer.proofs.ListedLaws.{listed_passes}

pub data Sort : Type 0 where
  Space : Sort
  Mark : Sort
  Digit : Sort
  Single : Sort
  Double : Sort
  Letter : Sort

abbrev pub is_mark : ℕ → Bool
is_mark b = is_listed (separators ++ operators) (b ∷ [])

abbrev pub sort_of : ℕ → Sort
sort_of b =
    if is_blank b then Space else if is_mark b then Mark else if is_ascii_digit b then Digit
    else if b == 39 then Single else if b == 34 then Double else Letter

abbrev pub first_sort : List ℕ → Sort
first_sort text = sort_of (slice_index text 0)

is_mark_sort : Sort → Bool
is_mark_sort Mark = true
is_mark_sort other = false

is_digit_sort : Sort → Bool
is_digit_sort Digit = true
is_digit_sort other = false

is_letter_sort : Sort → Bool
is_letter_sort Letter = true
is_letter_sort other = false

mark_from : (s : Sort) → is_mark_sort s ≡ true → s ≡ Mark
unfolding is_mark_sort
mark_from Mark e = refl
mark_from Space e = absurd (false≢true e)
mark_from Digit e = absurd (false≢true e)
mark_from Single e = absurd (false≢true e)
mark_from Double e = absurd (false≢true e)
mark_from Letter e = absurd (false≢true e)

digit_from : (s : Sort) → is_digit_sort s ≡ true → s ≡ Digit
unfolding is_digit_sort
digit_from Digit e = refl
digit_from Space e = absurd (false≢true e)
digit_from Mark e = absurd (false≢true e)
digit_from Single e = absurd (false≢true e)
digit_from Double e = absurd (false≢true e)
digit_from Letter e = absurd (false≢true e)

letter_from : (s : Sort) → is_letter_sort s ≡ true → s ≡ Letter
unfolding is_letter_sort
letter_from Letter e = refl
letter_from Space e = absurd (false≢true e)
letter_from Mark e = absurd (false≢true e)
letter_from Digit e = absurd (false≢true e)
letter_from Single e = absurd (false≢true e)
letter_from Double e = absurd (false≢true e)

pub blank_sort : (b : ℕ) → is_blank b ≡ true → sort_of b ≡ Space
blank_sort b is = cond-true (is_blank b) Space _ is

pub separator_sort : (text : List ℕ) → is_listed separators text ≡ true → first_sort text ≡ Mark
unfolding is_mark_sort
separator_sort text is = mark_from (first_sort text) (listed_passes (λ word. is_mark_sort (first_sort word)) separators text refl is)

pub operator_sort : (text : List ℕ) → is_listed operators text ≡ true → first_sort text ≡ Mark
unfolding is_mark_sort
operator_sort text is = mark_from (first_sort text) (listed_passes (λ word. is_mark_sort (first_sort word)) operators text refl is)

pub mark_sort : (b : ℕ) → is_mark b ≡ true → sort_of b ≡ Mark
unfolding is_mark_sort
mark_sort b is = mark_from (sort_of b) (listed_passes (λ word. is_mark_sort (first_sort word)) (separators ++ operators) (b ∷ []) refl is)

pub digit_sort : (b : ℕ) → is_ascii_digit b ≡ true → sort_of b ≡ Digit
unfolding is_digit_sort
digit_sort b is =
    let upper : b ≤ 57 = leb-true b 57 (and_parts (nat_le 48 b) (nat_le b 57) is).1 in
    digit_from (sort_of b) (sym (agree_below_at is_ascii_digit (λ n. is_digit_sort (sort_of n)) 128 b refl (omega arith)) ∙ is)

pub special_sort : (text : List ℕ) → is_special_word text ≡ true → first_sort text ≡ Letter
unfolding is_letter_sort
special_sort text is = letter_from (first_sort text) (elim (or_cases (is_listed reserved_words text || is_listed left_out_words text) (is_listed value_words text) is) [
  | inl both ↦ elim (or_cases (is_listed reserved_words text) (is_listed left_out_words text) both) [
    | inl used ↦ listed_passes (λ word. is_letter_sort (first_sort word)) reserved_words text refl used
    | inr left ↦ listed_passes (λ word. is_letter_sort (first_sort word)) left_out_words text refl left
  ]
  | inr value ↦ listed_passes (λ word. is_letter_sort (first_sort word)) value_words text refl value
])

-- what is no other piece's first byte is a letter's, as far as a byte tells
pub other_sort : (b : ℕ) → begins_other_piece b ≡ false → sort_of b ≡ Letter
other_sort b none =
    let marks = or_parts (is_blank b || is_ascii_digit b || b == 39 || b == 34) (is_mark b) none in
    let doubles = or_parts (is_blank b || is_ascii_digit b || b == 39) (b == 34) marks.0 in
    let singles = or_parts (is_blank b || is_ascii_digit b) (b == 39) doubles.0 in
    let blanks = or_parts (is_blank b) (is_ascii_digit b) singles.0 in
    cond-false (is_blank b) _ _ blanks.0 ∙ cond-false (is_mark b) _ _ marks.1 ∙ cond-false (is_ascii_digit b) _ _ blanks.1
    ∙ cond-false (b == 39) _ _ singles.1 ∙ cond-false (b == 34) _ _ doubles.1

high_other : (b : ℕ) → 128 ≤ b → begins_other_piece b ≡ false
high_other b high =
    let differs : (n : ℕ) → n < 128 → (b == n) ≡ false = λ n low. ne_eqb b n (λ e. absurd (omega arith)) in
    let blanks : is_blank b ≡ false =
    or_from (b == 32 || b == 9 || b == 12) (is_line_end b) (or_from (b == 32 || b == 9) (b == 12) (or_from (b == 32) (b == 9) (differs 32 (omega arith)) (differs 9 (omega arith))) (differs 12 (omega arith)))
    (or_from (b == 10) (b == 13) (differs 10 (omega arith)) (differs 13 (omega arith))) in
    let digits : is_ascii_digit b ≡ false = and_right (nat_le 48 b) (nat_le b 57) (lt-leb b 57 (omega arith)) in
    let marks : is_mark b ≡ false = false_from_ne_true (is_mark b) (λ is.
    let low : b < 128 = ltb-true b 128 (listed_passes (λ word. nat_lt (slice_index word 0) 128) (separators ++ operators) (b ∷ []) refl is) in absurd (omega arith)) in
    or_from (is_blank b || is_ascii_digit b || b == 39 || b == 34) (is_mark b)
    (or_from (is_blank b || is_ascii_digit b || b == 39) (b == 34) (or_from (is_blank b || is_ascii_digit b) (b == 39) (or_from (is_blank b) (is_ascii_digit b) blanks digits) (differs 39 (omega arith))) (differs 34 (omega arith)))
    marks

abbrev pub is_plain_start : ℕ → Bool
is_plain_start c = is_ascii_alphabetic c || c == 95 || c == 36

-- an identifier begins with a letter's byte
pub start_sort : (text : List ℕ) → 0 < length text → BeginsWith is_identifier_start text → first_sort text ≡ Letter
unfolding is_letter_sort
start_sort text more begins = elim (cases_lt (slice_index text 0) 128) [
  | inl low ↦
      let same : begins.first ≡ slice_index text 0 = char_from_byte text begins.rest begins.first begins.spelled low more in
      let starts : is_identifier_start (slice_index text 0) ≡ true = subst (λ c. is_identifier_start c ≡ true) same begins.passes in
      let plain : is_plain_start (slice_index text 0) ≡ true =
      ap (λ t. t || slice_index text 0 == 95 || slice_index text 0 == 36) (sym (is_xid_start-ascii (slice_index text 0) low)) ∙ starts in
      letter_from (first_sort text) (sym (ap (λ t. not t || is_letter_sort (first_sort text)) plain)
      ∙ agree_below_at (λ c. not (is_plain_start c) || is_letter_sort (sort_of c)) (λ c. true) 128 (slice_index text 0) refl low)
  | inr high ↦ other_sort (slice_index text 0) (high_other (slice_index text 0) high)
]
