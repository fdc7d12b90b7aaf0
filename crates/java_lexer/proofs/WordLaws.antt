-- Numbers, identifiers and reserved words at the front of a text.
use Rattle.std.proofs.Common.{◌≡◌, ℕ, ◌+◌, ◌<◌, ◌≤◌, true, false, List, [], ◌∷◌, ◌++◌, length, take, drop, refl, sym, ap, ◌∙◌, subst, arith, inl, inr}
use Rattle.std.specs.Prelude.{◌||◌, ◌&&◌, ◌==◌, not, max, slice_index, Some}
use Rattle.std.specs.List.{list_all}
use Rattle.std.specs.Char.{is_ascii_digit, encode_utf8}
use Rattle.std.specs.Str.{all_scalars, encode_utf8_all, bytes_eq}
use Rattle.std.proofs.Math.Utf8.{scalar}
use Rattle.std.proofs.lemmas.Bool.{and_parts, and_from, or_cases, ne_eqb, not_from_false, eqb-true, cases_lt, or_left, or_right, or_from, both_ways, cases_Bool, cond-true, cond-false, eq-eqb, not-true, false≢true, false_from_ne_true}
use Rattle.std.proofs.lemmas.List.{get_or-drop, get_or-take, take-append-drop, append_assoc}
use Rattle.std.proofs.lemmas.Str.{encode_same}
use Rattle.std.proofs.lemmas.List.Folds.{list_any-append}
use Rattle.unicode_ident.specs.Ident.{is_xid_start, is_xid_continue}
use Rattle.unicode_ident.proofs.IdentLemmas.{is_xid_continue-ascii, is_xid_start-is_xid_continue}
use Rattle.rlc_base.specs.declared.code.Code.{Code}
use Rattle.rlc_base.specs.declared.code.Code.TheVariants.{BadByte, BadLiteral, LeftOutWord}
use Rattle.java_lexer.specs.declared.fronts.Front.TheVariants.{Piece, Refused}
use Rattle.java_lexer.specs.declared.token.TokenKind.TheVariants.{Literal}
use Rattle.java_lexer.specs.Characters.{is_identifier_start, is_identifier_part, BeginsWith, IsRun, IsIdentifier}
use Rattle.java_lexer.specs.Words.{is_listed, reserved_words, left_out_words, value_words, is_special_word, separators, operators, longest_listed}
use Rattle.java_lexer.specs.Literals.{is_integer, is_long}
use Rattle.java_lexer.specs.Tokens.{IsToken, identifier, reserved, named_value, integer, token}
use Rattle.java_lexer.specs.Refusals.{begins_other_piece, by_byte, by_literal, by_word, bad_byte, bad_number, IsWholeInteger}
use Rattle.java_lexer.specs.Reading.{IsFrontOf, word_kind}
use Rattle.java_lexer.proofs.ListedLaws.{listed_passes, longest_is_listed, longest_at_least}
use Rattle.java_lexer.proofs.RunLaws.{run_longest, is_plain_part, plain_run}
use Rattle.java_lexer.proofs.SortLaws.{Digit, Letter, is_mark, digit_sort, start_sort}
use Rattle.java_lexer.proofs.IntegerLaws.{integer_text}
use Rattle.java_lexer.proofs.PieceLaws.{PieceOf, RefusalOf}
use Rattle.java_lexer.proofs.FrontLaws.{front_by}

-- the run of identifier characters at the front of a text
pub record IsWordLen (text : List ℕ) (n : ℕ) : Type 0 where
  pub fits : n ≤ length text
  pub run : IsRun is_identifier_part (take n text)
  pub ends : BeginsWith is_identifier_part (drop n text) → ⊥

integer_run : (text : List ℕ) → is_integer text ≡ true → IsRun is_identifier_part text
integer_run text is = plain_run text (integer_text text is).plain

-- a run that ends where another does is that one
same_run : (text : List ℕ) (n m : ℕ) → IsWordLen text n → m ≤ length text → IsRun is_identifier_part (take m text) → (BeginsWith is_identifier_part (drop m text) → ⊥) → m ≡ n
same_run text n m word inside run ends =
    let less : m ≤ n = run_longest is_identifier_part text n m word.fits inside word.run word.ends run in
    let more : n ≤ m = run_longest is_identifier_part text m n inside word.fits run ends word.run in
    omega arith

number_longest : (text : List ℕ) (n m : ℕ) → IsWordLen text n → m ≤ length text → PieceOf Digit (take m text) → m ≤ n
number_longest text n m word inside is = run_longest is_identifier_part text n m word.fits inside word.run word.ends (integer_run (take m text) is)

-- a number: the whole run is an integer literal, and no point follows it
pub number_front : (text : List ℕ) (n : ℕ) → is_ascii_digit (slice_index text 0) ≡ true → IsWordLen text n
    → (is_integer (take n text) && (is_long (take n text) || not (slice_index text n == 46))) ≡ true → IsFrontOf text (Piece (Some Literal) n)
number_front text n digit word is =
    let parts = and_parts (is_integer (take n text)) (is_long (take n text) || not (slice_index text n == 46)) is in
    let literal : IsToken Literal (take n text) = integer (take n text) parts.0 in
    let whole : IsWholeInteger n text = record {
      fits = word.fits;
      integer = parts.0;
      ends = word.ends;
      no_point = λ short point. elim (or_cases (is_long (take n text)) (not (slice_index text n == 46)) parts.1) [
        | inl long ↦ both_ways (is_long (take n text)) short long
        | inr none ↦ both_ways (slice_index text n == 46) (not-true (slice_index text n == 46) none) (eq-eqb (slice_index text n) 46 (at_end text n point))
      ];
    } in
    (front_by text n Digit (digit_sort (slice_index text 0) digit) word.fits (token Literal literal) (λ m inside piece. number_longest text n m word inside piece) (λ code refusal. refusal.none n whole), literal)
  where
    at_end : (text : List ℕ) (n : ℕ) → slice_index (drop n text) 0 ≡ 46 → slice_index text n ≡ 46
    at_end text n point = let e : n + 0 ≡ n = omega arith in ap (slice_index text) (sym e) ∙ sym (get_or-drop n text 0 0) ∙ point

no_integer : (text : List ℕ) (n m : ℕ) → IsWordLen text n → (is_integer (take n text) && (is_long (take n text) || not (slice_index text n == 46))) ≡ false → IsWholeInteger m text → ⊥
no_integer text n m word is whole =
    let same : m ≡ n = same_run text n m word whole.fits (integer_run (take m text) whole.integer) whole.ends in
    let other : IsWholeInteger n text = subst (λ k. IsWholeInteger k text) same whole in
    both_ways (is_integer (take n text) && (is_long (take n text) || not (slice_index text n == 46))) is (whole_passes text n other)
  where
    whole_passes : (text : List ℕ) (n : ℕ) → IsWholeInteger n text → (is_integer (take n text) && (is_long (take n text) || not (slice_index text n == 46))) ≡ true
    whole_passes text n whole = and_from (is_integer (take n text)) (is_long (take n text) || not (slice_index text n == 46)) whole.integer
        (elim (cases_Bool (is_long (take n text))) [
          | inl long ↦ or_left (is_long (take n text)) (not (slice_index text n == 46)) long
          | inr short ↦ or_right (is_long (take n text)) (not (slice_index text n == 46)) (not_from_false (slice_index text n == 46)
              (ne_eqb (slice_index text n) 46 (λ point. whole.no_point short (let e : n + 0 ≡ n = omega arith in get_or-drop n text 0 0 ∙ ap (slice_index text) e ∙ point))))
        ])

-- a number that is none of the subset's
pub bad_number_front : (text : List ℕ) (n : ℕ) → is_ascii_digit (slice_index text 0) ≡ true → IsWordLen text n
    → (is_integer (take n text) && (is_long (take n text) || not (slice_index text n == 46))) ≡ false → IsFrontOf text (Refused BadLiteral)
bad_number_front [] n digit word is = absurd (false≢true digit)
bad_number_front (b ∷ rest) n digit word is = by_literal (bad_number b rest digit (λ m whole. no_integer (b ∷ rest) n m word is whole))

special_run : (text : List ℕ) → is_special_word text ≡ true → IsRun is_identifier_part text
special_run text is = plain_run text (elim (or_cases (is_listed reserved_words text || is_listed left_out_words text) (is_listed value_words text) is) [
  | inl both ↦ elim (or_cases (is_listed reserved_words text) (is_listed left_out_words text) both) [
    | inl used ↦ listed_passes (list_all is_plain_part) reserved_words text refl used
    | inr left ↦ listed_passes (list_all is_plain_part) left_out_words text refl left
  ]
  | inr value ↦ listed_passes (list_all is_plain_part) value_words text refl value
])

word_longest : (text : List ℕ) (n m : ℕ) → IsWordLen text n → m ≤ length text → PieceOf Letter (take m text) → m ≤ n
word_longest text n m word inside (inl is) = run_longest is_identifier_part text n m word.fits inside word.run word.ends is.run
word_longest text n m word inside (inr is) = run_longest is_identifier_part text n m word.fits inside word.run word.ends (special_run (take m text) is)

left_out_special : (text : List ℕ) → is_listed left_out_words text ≡ true → is_special_word text ≡ true
left_out_special text is = or_left _ (is_listed value_words text) (or_right (is_listed reserved_words text) (is_listed left_out_words text) is)

word_taken : (text : List ℕ) (n : ℕ) → BeginsWith is_identifier_start text → IsWordLen text n → is_listed left_out_words (take n text) ≡ false → (code : Code) → RefusalOf Letter code text → ⊥
word_taken text n begins word used code (inl is) = is.none begins
word_taken text n begins word used code (inr is) =
    let same : is.word.len ≡ n = same_run text n is.word.len word is.word.fits (special_run (take is.word.len text) (left_out_special (take is.word.len text) is.word.listed)) is.word.ends in
    both_ways (is_listed left_out_words (take n text)) used (ap (λ k. is_listed left_out_words (take k text)) (sym same) ∙ is.word.listed)

-- a start is a part
start_part : (c : ℕ) → is_identifier_start c ≡ true → is_identifier_part c ≡ true
start_part c is = elim (or_cases (is_xid_start c || c == 95) (c == 36) is) [
  | inl other ↦ or_left (is_xid_continue c) (c == 36) (elim (or_cases (is_xid_start c) (c == 95) other) [
    | inl xid ↦ is_xid_start-is_xid_continue c xid
    | inr mark ↦ let e : c ≡ 95 = eqb-true c 95 mark in subst (λ n. is_xid_continue n ≡ true) (sym e) (is_xid_continue-ascii 95 (omega arith))
  ])
  | inr dollar ↦ or_right (is_xid_continue c) (c == 36) dollar
]

-- the run at the front of a text begins with the text's first character
run_begins : (cs : List ℕ) (text rest : List ℕ) → text ≡ encode_utf8_all cs ++ rest → all_scalars cs ≡ true → (begins : BeginsWith is_identifier_start text)
    → (BeginsWith is_identifier_part rest → ⊥) → BeginsWith is_identifier_start (encode_utf8_all cs)
run_begins [] text rest e scalars begins ends = absurd (ends (record {
  first = begins.first;
  rest = begins.rest;
  scalar = begins.scalar;
  passes = start_part begins.first begins.passes;
  spelled = sym e ∙ begins.spelled;
}))
run_begins (c ∷ cs) text rest e scalars begins ends =
    let same : c ≡ begins.first = (encode_same c begins.first (encode_utf8_all cs ++ rest) begins.rest (sym (append_assoc (encode_utf8 c) (encode_utf8_all cs) rest) ∙ sym e ∙ begins.spelled)).0 in
    record { first = c; rest = encode_utf8_all cs; scalar = (and_parts (scalar c) (all_scalars cs) scalars).0; passes = ap is_identifier_start same ∙ begins.passes; spelled = refl }

word_identifier : (text : List ℕ) (n : ℕ) → BeginsWith is_identifier_start text → IsWordLen text n → IsIdentifier (take n text)
word_identifier text n begins word = record {
  begins = subst (λ xs. BeginsWith is_identifier_start xs) (sym word.run.spelled)
      (run_begins word.run.characters text (drop n text) (sym (take-append-drop n text) ∙ ap (λ xs. xs ++ drop n text) word.run.spelled) word.run.scalars begins word.ends);
  run = word.run;
}

-- the kind of a word
kind_is : (word : List ℕ) → IsIdentifier word → is_listed left_out_words word ≡ false → IsToken (word_kind word) word
kind_is word is used = elim (cases_Bool (is_listed reserved_words word)) [
  | inl listed ↦ subst (λ kind. IsToken kind word) (sym (cond-true (is_listed reserved_words word) _ _ listed)) (reserved word listed)
  | inr no_reserved ↦ elim (cases_Bool (is_listed value_words word)) [
    | inl listed ↦ subst (λ kind. IsToken kind word) (sym (cond-false (is_listed reserved_words word) _ _ no_reserved ∙ cond-true (is_listed value_words word) _ _ listed)) (named_value word listed)
    | inr no_value ↦ subst (λ kind. IsToken kind word) (sym (cond-false (is_listed reserved_words word) _ _ no_reserved ∙ cond-false (is_listed value_words word) _ _ no_value))
        (identifier word is (or_from (is_listed reserved_words word || is_listed left_out_words word) (is_listed value_words word) (or_from (is_listed reserved_words word) (is_listed left_out_words word) no_reserved used) no_value))
  ]
]

-- an identifier or a reserved word
pub word_front : (text : List ℕ) (n : ℕ) → 0 < length text → BeginsWith is_identifier_start text → IsWordLen text n → is_listed left_out_words (take n text) ≡ false
    → IsFrontOf text (Piece (Some (word_kind (take n text))) n)
word_front text n more begins word used =
    let is = kind_is (take n text) (word_identifier text n begins word) used in
    (front_by text n Letter (start_sort text more begins) word.fits (token (word_kind (take n text)) is) (λ m inside piece. word_longest text n m word inside piece) (word_taken text n begins word used), is)

pub left_out_front : (text : List ℕ) (n : ℕ) → IsWordLen text n → is_listed left_out_words (take n text) ≡ true → IsFrontOf text (Refused LeftOutWord)
left_out_front text n word left = by_word (record { len = n; fits = word.fits; listed = left; ends = word.ends })

pub bad_byte_front : (text : List ℕ) → 0 < length text → begins_other_piece (slice_index text 0) ≡ false → (BeginsWith is_identifier_start text → ⊥) → IsFrontOf text (Refused BadByte)
bad_byte_front [] more other none = absurd (omega arith)
bad_byte_front (b ∷ rest) more other none = by_byte (bad_byte b rest other none)

-- where no symbol stands, the first byte is none
pub no_symbol : (text : List ℕ) → 0 < length text → longest_listed separators text ≡ 0 → longest_listed operators text ≡ 0 → is_mark (slice_index text 0) ≡ false
no_symbol [] more a b = absurd (omega arith)
no_symbol (b ∷ rest) more no_separator no_operator = false_from_ne_true (is_mark b) (λ mark.
    elim (or_cases (is_listed separators (b ∷ [])) (is_listed operators (b ∷ [])) (sym (list_any-append (λ listed. bytes_eq listed (b ∷ [])) separators operators) ∙ mark)) [
      | inl is ↦ let one : 1 ≤ longest_listed separators (b ∷ rest) = longest_at_least separators (b ∷ rest) 1 (omega arith) is in absurd (omega arith)
      | inr is ↦ let one : 1 ≤ longest_listed operators (b ∷ rest) = longest_at_least operators (b ∷ rest) 1 (omega arith) is in absurd (omega arith)
    ])

-- where a symbol stands, the first byte is one
symbol_first : (words : List (List ℕ)) (text : List ℕ) → list_all (λ word. is_mark (slice_index word 0)) words ≡ true → 0 < longest_listed words text → is_mark (slice_index text 0) ≡ true
symbol_first words text all more =
    let front = longest_is_listed words text more in
    let first : slice_index (take (longest_listed words text) text) 0 ≡ slice_index text 0 = get_or-take (longest_listed words text) text 0 0 more in
    ap is_mark (sym first) ∙ listed_passes (λ word. is_mark (slice_index word 0)) words (take (longest_listed words text) text) all front.listed

pub some_symbol : (text : List ℕ) → 0 < max (longest_listed separators text) (longest_listed operators text) → is_mark (slice_index text 0) ≡ true
some_symbol text more = elim (cases_lt 0 (longest_listed separators text)) [
  | inl is ↦ symbol_first separators text refl is
  | inr none ↦ symbol_first operators text refl (omega arith)
]

-- the greater of two lengths
pub none_longer : (a b m x y : ℕ) → m ≡ max a b → m ≡ 0 → a ≡ x → b ≡ y → (x ≡ 0) × (y ≡ 0)
none_longer a b m x y greater none first second = (omega arith, omega arith)

pub some_longer : (a b m x y : ℕ) → m ≡ max a b → (m ≡ 0 → ⊥) → a ≡ x → b ≡ y → 0 < max x y
some_longer a b m x y greater some first second = elim (cases_lt 0 m) [ inl more ↦ omega arith | inr none ↦ absurd (some (omega arith)) ]
