-- A text has at most one cut and at most one place where it is stuck, and not both.
use Rattle.std.proofs.Common.{◌≡◌, ℕ, zero, suc, ◌+◌, ◌<◌, ◌≤◌, Bool, true, false, List, [], ◌∷◌, ◌++◌, length, take, drop, refl, sym, ap, ◌∙◌, subst, arith, inl, inr}
use Rattle.std.specs.Prelude.{◌⊎◌, ◌||◌, ◌&&◌, ◌==◌, not, nat_lt, slice_index, if◌then◌else◌, Option, Some, None}
use Rattle.std.specs.List.{AllByRecursion}
use Rattle.std.specs.Option.{option_map}
use Rattle.std.specs.Str.{IsUtf8, IsValidUpTo}
use Rattle.std.proofs.Math.Utf8.{low_scalar}
use Rattle.std.proofs.lemmas.Bool.{and_parts, or_parts, or_left, or_right, cond-true, cond-false, false≢true, ltb-true, not-true, cases_lt, cases_order}
use Rattle.std.proofs.lemmas.List.{get_or-take, length-take-le, length-drop, take_all}
use Rattle.std.proofs.lemmas.Str.{encode_ascii}
use Rattle.unicode_ident.proofs.IdentLemmas.{is_xid_start-ascii}
use Rattle.rlc_base.specs.Codes.{number_of}
use Rattle.rlc_base.specs.declared.code.Code.{Code}
use Rattle.rlc_base.specs.declared.code.Code.TheVariants.{BadByte, OpenComment, OpenText, BadLiteral, LeftOutWord}
use Rattle.java_syntax.specs.declared.tokens.Token.{Token}
use Rattle.java_lexer.specs.declared.token.TokenKind.{TokenKind}
use Rattle.java_lexer.specs.declared.token.TokenKind.TheVariants.{Ident, Reserved, Literal, Separator, Operator}
use Rattle.java_lexer.specs.Characters.{is_identifier_start, BeginsWith}
use Rattle.java_lexer.specs.Words.{is_listed, reserved_words, left_out_words, value_words, separators, operators}
use Rattle.java_lexer.specs.TokenClasses.{class_of}
use Rattle.java_lexer.specs.Reading.{closing_quote}
use Rattle.java_lexer.specs.Tokens.{IsSkipped, IsToken, blank, line_comment, block_comment, identifier, reserved, named_value, integer, character, string, separator, operator}
use Rattle.java_lexer.specs.Refusals.{Refuses, by_byte, by_comment, by_text, by_literal, by_word, IsBadByte, bad_byte, IsOpenComment, open_comment, IsOpenText, open_character, open_string, IsBadLiteral, bad_number, fraction, bad_character, bad_string, text_block, IsLeftOutWord}
use Rattle.java_lexer.specs.Cut.{IsFront, Cut, ended, skip, take_token, IsCut, Stuck, here, behind, IsFault, no_utf8, stuck, IsRefusal, IsTokenOf, token_at, place_behind, IsStopAt, HasNoCut}
use Rattle.java_lexer.specs.declared.fronts.Front.TheVariants.{Piece}
use Rattle.java_lexer.specs.Reading.{IsFrontOf, tokens_of, refused_at}
use Rattle.rlc_base.specs.declared.faults.Stop.{Stop}
use Rattle.java_lexer.proofs.ListedLaws.{listed_passes}
use Rattle.java_lexer.proofs.SortLaws.{Sort, Space, Mark, Digit, Single, Double, Letter, first_sort, blank_sort, separator_sort, operator_sort, digit_sort, special_sort, start_sort, is_plain_start}
use Rattle.java_lexer.proofs.IntegerLaws.{integer_text}
use Rattle.java_lexer.proofs.PieceLaws.{piece_filled, begins_filled, RefusalOf, refusal_by_sort}
use Rattle.java_lexer.proofs.EndLaws.{none_some}

-- the kind of a piece, by its first byte and the lists; white space and comments have none
abbrev pub kind_in : Sort → List ℕ → Option TokenKind
kind_in Space text = None
kind_in Mark text = if is_listed separators text then Some Separator else if is_listed operators text then Some Operator else None
kind_in Digit text = Some Literal
kind_in Single text = Some Literal
kind_in Double text = Some Literal
kind_in Letter text = if is_listed reserved_words text then Some Reserved else if is_listed value_words text then Some Literal else Some Ident

abbrev pub kind_of : List ℕ → Option TokenKind
kind_of text = kind_in (first_sort text) text

of_sort : (text : List ℕ) (s : Sort) (kind : Option TokenKind) → first_sort text ≡ s → kind_in s text ≡ kind → kind_of text ≡ kind
of_sort text s kind sort is = ap (λ t. kind_in t text) sort ∙ is

token_kind : (kind : TokenKind) (text : List ℕ) → IsToken kind text → kind_of text ≡ Some kind
token_kind kind text (identifier word is plain) =
    let parts = or_parts (is_listed reserved_words word || is_listed left_out_words word) (is_listed value_words word) plain in
    let words = or_parts (is_listed reserved_words word) (is_listed left_out_words word) parts.0 in
    of_sort word Letter (Some Ident) (start_sort word (begins_filled is_identifier_start word is.begins) is.begins)
    (cond-false (is_listed reserved_words word) _ _ words.0 ∙ cond-false (is_listed value_words word) _ _ parts.1)
token_kind kind text (reserved word is) =
    of_sort word Letter (Some Reserved) (special_sort word (or_left _ (is_listed value_words word) (or_left _ (is_listed left_out_words word) is))) (cond-true (is_listed reserved_words word) _ _ is)
token_kind kind text (named_value word is) =
    let other : is_listed reserved_words word ≡ false = not-true (is_listed reserved_words word) (listed_passes (λ w. not (is_listed reserved_words w)) value_words word refl is) in
    of_sort word Letter (Some Literal) (special_sort word (or_right (is_listed reserved_words word || is_listed left_out_words word) (is_listed value_words word) is))
    (cond-false (is_listed reserved_words word) _ _ other ∙ cond-true (is_listed value_words word) _ _ is)
token_kind kind text (integer word is) = of_sort word Digit (Some Literal) (digit_sort (slice_index word 0) (integer_text word is).digit) refl
token_kind kind text (character body held known) = refl
token_kind kind text (string body held) = refl
token_kind kind text (separator word is) = of_sort word Mark (Some Separator) (separator_sort word is) (cond-true (is_listed separators word) _ _ is)
token_kind kind text (operator word is) =
    let other : is_listed separators word ≡ false = not-true (is_listed separators word) (listed_passes (λ w. not (is_listed separators w)) operators word refl is) in
    of_sort word Mark (Some Operator) (operator_sort word is) (cond-false (is_listed separators word) _ _ other ∙ cond-true (is_listed operators word) _ _ is)

skipped_kind : (text : List ℕ) → IsSkipped text → kind_of text ≡ None
skipped_kind text (blank b is) = of_sort (b ∷ []) Space None (blank_sort b is) refl
skipped_kind text (line_comment body plain) = refl
skipped_kind text (block_comment body closed) = refl

pub one_kind : (kind other : TokenKind) (text : List ℕ) → IsToken kind text → IsToken other text → kind ≡ other
one_kind kind other text is also = same (sym (token_kind kind text is) ∙ token_kind other text also)
  where
    same : ◌≡◌ {A = Option TokenKind} (Some kind) (Some other) → kind ≡ other
    same e = cc

pub no_token : (kind : TokenKind) (text : List ℕ) → IsSkipped text → IsToken kind text → ⊥
no_token kind text is also = differ (sym (skipped_kind text is) ∙ token_kind kind text also)
  where
    differ : ◌≡◌ {A = Option TokenKind} None (Some kind) → ⊥
    differ e = cc

abbrev pub has_plain_start : List ℕ → Bool
has_plain_start word = nat_lt (slice_index word 0) 128 && is_plain_start (slice_index word 0)

left_out_first : (text : List ℕ) (n : ℕ) → is_listed left_out_words (take n text) ≡ true → has_plain_start text ≡ true
left_out_first text zero is = absurd (false≢true is)
left_out_first text (suc n) is =
    ap (λ b. nat_lt b 128 && is_plain_start b) (sym (get_or-take (suc n) text 0 0 (omega arith))) ∙ listed_passes has_plain_start left_out_words (take (suc n) text) refl is

-- a left-out word begins like an identifier
left_out_begins : (text : List ℕ) → IsLeftOutWord text → BeginsWith is_identifier_start text
left_out_begins [] left = absurd (false≢true (left_out_first [] left.len left.listed))
left_out_begins (b ∷ rest) left =
    let parts = and_parts (nat_lt b 128) (is_plain_start b) (left_out_first (b ∷ rest) left.len left.listed) in
    let low : b < 128 = ltb-true b 128 parts.0 in
    record {
      first = b;
      rest = rest;
      scalar = low_scalar b (omega arith);
      passes = ap (λ t. t || b == 95 || b == 36) (is_xid_start-ascii b low) ∙ parts.1;
      spelled = ap (λ xs. xs ++ rest) (sym (encode_ascii b low));
    }

module _ (text : List ℕ) (c d : Code) where
  both : (n : Code) → c ≡ n → d ≡ n → c ≡ d
  both n e f = e ∙ sym f

  clash : (quote : ℕ) (open_rest : List ℕ) (len : ℕ) (rest : List ℕ) → text ≡ quote ∷ open_rest → closing_quote quote false open_rest ≡ None
      → text ≡ quote ∷ rest → closing_quote quote false rest ≡ Some len → c ≡ d
  clash quote open_rest len rest open_spelled none spelled closed =
      let same : open_rest ≡ rest = ap (drop 1) (sym open_spelled ∙ spelled) in
      absurd (none_some len (sym none ∙ ap (closing_quote quote false) same ∙ closed))

  one_refusal : (s : Sort) → RefusalOf s c text → RefusalOf s d text → c ≡ d
  one_refusal Space is also = absurd is
  one_refusal Mark (inl is) (inl also) = both OpenComment is.is also.is
  one_refusal Mark (inl is) (inr also) = let e : ◌≡◌ {A = ℕ} 47 46 = ap (λ xs. slice_index xs 0) (sym is.spelled ∙ also.spelled) in absurd (omega arith)
  one_refusal Mark (inr is) (inl also) = let e : ◌≡◌ {A = ℕ} 46 47 = ap (λ xs. slice_index xs 0) (sym is.spelled ∙ also.spelled) in absurd (omega arith)
  one_refusal Mark (inr is) (inr also) = both BadLiteral is.is also.is
  one_refusal Digit is also = both BadLiteral is.is also.is
  one_refusal Single (inl is) (inl also) = both OpenText is.is also.is
  one_refusal Single (inl is) (inr also) = clash 39 is.rest also.len also.rest is.spelled is.open_end also.spelled also.closed
  one_refusal Single (inr is) (inl also) = clash 39 also.rest is.len is.rest also.spelled also.open_end is.spelled is.closed
  one_refusal Single (inr is) (inr also) = both BadLiteral is.is also.is
  one_refusal Double (inl is) (inl also) = both OpenText is.is also.is
  one_refusal Double (inl is) (inr (inl also)) = clash 34 is.rest also.len also.rest is.spelled is.open_end also.spelled also.closed
  one_refusal Double (inl is) (inr (inr also)) = clash 34 is.rest 0 (34 ∷ 34 ∷ also.rest) is.spelled is.open_end also.spelled refl
  one_refusal Double (inr (inl is)) (inl also) = clash 34 also.rest is.len is.rest also.spelled also.open_end is.spelled is.closed
  one_refusal Double (inr (inr is)) (inl also) = clash 34 also.rest 0 (34 ∷ 34 ∷ is.rest) also.spelled also.open_end is.spelled refl
  one_refusal Double (inr (inl is)) (inr (inl also)) = both BadLiteral is.is also.is
  one_refusal Double (inr (inl is)) (inr (inr also)) = both BadLiteral is.is also.is
  one_refusal Double (inr (inr is)) (inr (inl also)) = both BadLiteral is.is also.is
  one_refusal Double (inr (inr is)) (inr (inr also)) = both BadLiteral is.is also.is
  one_refusal Letter (inl is) (inl also) = both BadByte is.is also.is
  one_refusal Letter (inl is) (inr also) = absurd (is.none (left_out_begins text also.word))
  one_refusal Letter (inr is) (inl also) = absurd (also.none (left_out_begins text is.word))
  one_refusal Letter (inr is) (inr also) = both LeftOutWord is.is also.is

-- one code refuses a text
pub one_code : (text : List ℕ) (c d : Code) → Refuses c text → Refuses d text → c ≡ d
one_code text c d is also = one_refusal text c d (first_sort text) (refusal_by_sort c text is) (refusal_by_sort d text also)

-- the numbers of the codes begin at 10
pub code_least : (text : List ℕ) (c : Code) → Refuses c text → 10 ≤ number_of c
code_least text c (by_byte is) = omega arith
code_least text c (by_comment is) = omega arith
code_least text c (by_text is) = omega arith
code_least text c (by_literal is) = omega arith
code_least text c (by_word is) = omega arith

-- nothing is refused at the end
bad_byte_filled : (text : List ℕ) → IsBadByte text → 0 < length text
bad_byte_filled text (bad_byte b rest none start) = omega arith

open_comment_filled : (text : List ℕ) → IsOpenComment text → 0 < length text
open_comment_filled text (open_comment rest none) = omega arith

open_text_filled : (text : List ℕ) → IsOpenText text → 0 < length text
open_text_filled text (open_character rest none) = omega arith
open_text_filled text (open_string rest none) = omega arith

bad_literal_filled : (text : List ℕ) → IsBadLiteral text → 0 < length text
bad_literal_filled text (bad_number b rest is none) = omega arith
bad_literal_filled text (fraction b rest is) = omega arith
bad_literal_filled text (bad_character rest body closed unknown) = omega arith
bad_literal_filled text (bad_string rest body closed unknown) = omega arith
bad_literal_filled text (text_block rest) = omega arith

left_out_filled : (text : List ℕ) → IsLeftOutWord text → 0 < length text
left_out_filled [] left = absurd (false≢true (left_out_first [] left.len left.listed))
left_out_filled (b ∷ bs) left = omega arith

pub refusal_filled : (text : List ℕ) (c : Code) → Refuses c text → 0 < length text
refusal_filled text c (by_byte is) = bad_byte_filled text is
refusal_filled text c (by_comment is) = open_comment_filled text is
refusal_filled text c (by_text is) = open_text_filled text is
refusal_filled text c (by_literal is) = bad_literal_filled text is
refusal_filled text c (by_word is) = left_out_filled text is

-- two fronts of a text are one, and take some of it
front_same : (text : List ℕ) (n m : ℕ) → IsFront n text → IsFront m text → n ≡ m
front_same text n m front other =
    let less : n ≤ m = other.longest n front.fits front.piece in
    let more : m ≤ n = front.longest m other.fits other.piece in
    omega arith

pub front_more : (text : List ℕ) (n : ℕ) → IsFront n text → 0 < n
front_more text n front = omega (arith, piece_filled (take n text) front.piece, length-take-le n text front.fits)

pub front_within : (bytes : List ℕ) (at n : ℕ) → IsFront n (drop at bytes) → at + n ≤ length bytes
front_within bytes at n front = omega (arith, front_more (drop at bytes) n front, front.fits, length-drop at bytes)

no_front : (bytes : List ℕ) (at n : ℕ) → at ≡ length bytes → IsFront n (drop at bytes) → ⊥
no_front bytes at n e front = let within : at + n ≤ length bytes = front_within bytes at n front in absurd (omega (arith, front_more (drop at bytes) n front))

-- the place of a refusal lies within the text
refusal_within : (bytes : List ℕ) (at : ℕ) (c : Code) → Refuses c (drop at bytes) → at < length bytes
refusal_within bytes at c refuses = omega (arith, refusal_filled (drop at bytes) c refuses, length-drop at bytes)

pub cut_unique : (file : ℕ) (bytes : List ℕ) {at : ℕ} {tokens others : List Token} → Cut file bytes at tokens → Cut file bytes at others → tokens ≡ others
cut_unique file bytes (ended e) (ended f) = refl
cut_unique file bytes {at} (ended e) (skip n front is rest) = absurd (no_front bytes at n e front)
cut_unique file bytes {at} (ended e) (take_token kind n front is rest) = absurd (no_front bytes at n e front)
cut_unique file bytes {at} (skip n front is rest) (ended e) = absurd (no_front bytes at n e front)
cut_unique file bytes {at} (take_token kind n front is rest) (ended e) = absurd (no_front bytes at n e front)
cut_unique file bytes {at} {tokens} {others} (skip n front is rest) (skip m other also more) =
    let same : m ≡ n = front_same (drop at bytes) m n other front in
    cut_unique file bytes rest (subst (λ k. Cut file bytes (at + k) others) same more)
cut_unique file bytes {at} (skip n front is rest) (take_token kind m other also more) =
    let same : m ≡ n = front_same (drop at bytes) m n other front in
    absurd (no_token kind (take n (drop at bytes)) is (subst (λ k. IsToken kind (take k (drop at bytes))) same also))
cut_unique file bytes {at} (take_token kind n front is rest) (skip m other also more) =
    let same : n ≡ m = front_same (drop at bytes) n m front other in
    absurd (no_token kind (take m (drop at bytes)) also (subst (λ k. IsToken kind (take k (drop at bytes))) same is))
cut_unique file bytes {at} (take_token {tokens = us} kind n front is rest) (take_token {tokens = vs} other_kind m other also more) =
    let same : m ≡ n = front_same (drop at bytes) m n other front in
    let kinds : kind ≡ other_kind = one_kind kind other_kind (take n (drop at bytes)) is (subst (λ k. IsToken other_kind (take k (drop at bytes))) same also) in
    ap (λ k. token_at file bytes k at n ∷ us) kinds ∙ ap (λ k. token_at file bytes other_kind at k ∷ us) (sym same)
    ∙ ap (λ ts. token_at file bytes other_kind at m ∷ ts) (cut_unique file bytes rest (subst (λ k. Cut file bytes (at + k) vs) same more))

-- a place and a code
pub record AreSame (place other_place : ℕ) (code other_code : Code) : Type 0 where
  pub places : place ≡ other_place
  pub codes : code ≡ other_code

pub stuck_unique : (bytes : List ℕ) {at place other_place : ℕ} {code other_code : Code} → Stuck bytes at place code → Stuck bytes at other_place other_code → AreSame place other_place code other_code
stuck_unique bytes {at} {place} {other_place} {code} {other_code} (here e is) (here f also) = record { places = e ∙ sym f; codes = one_code (drop at bytes) code other_code is also }
stuck_unique bytes {at} {place} {other_place} {code} {other_code} (here e is) (behind n front rest) = absurd (front.taken code is)
stuck_unique bytes {at} {place} {other_place} {code} {other_code} (behind n front rest) (here e is) = absurd (front.taken other_code is)
stuck_unique bytes {at} {place} {other_place} {code} {other_code} (behind n front rest) (behind m other more) =
    let same : m ≡ n = front_same (drop at bytes) m n other front in
    stuck_unique bytes rest (subst (λ k. Stuck bytes (at + k) other_place other_code) same more)

pub stuck_not_cut : (file : ℕ) (bytes : List ℕ) {at place : ℕ} {code : Code} {tokens : List Token} → Stuck bytes at place code → Cut file bytes at tokens → ⊥
stuck_not_cut file bytes {at} {place} {code} (here f is) (ended e) = let within : at < length bytes = refusal_within bytes at code is in absurd (omega arith)
stuck_not_cut file bytes {at} {place} {code} (here f is) (skip n front skips rest) = front.taken code is
stuck_not_cut file bytes {at} {place} {code} (here f is) (take_token kind n front token' rest) = front.taken code is
stuck_not_cut file bytes {at} (behind n front rest) (ended e) = no_front bytes at n e front
stuck_not_cut file bytes {at} {place} {code} (behind n front rest) (skip m other skips more) =
    let same : n ≡ m = front_same (drop at bytes) n m front other in
    stuck_not_cut file bytes (subst (λ k. Stuck bytes (at + k) place code) same rest) more
stuck_not_cut file bytes {at} {place} {code} (behind n front rest) (take_token kind m other token' more) =
    let same : n ≡ m = front_same (drop at bytes) n m front other in
    stuck_not_cut file bytes (subst (λ k. Stuck bytes (at + k) place code) same rest) more

pub record IsStuckWithin (bytes : List ℕ) (place : ℕ) (code : Code) : Type 0 where
  pub within : place < length bytes
  pub code_fits : 10 ≤ number_of code

pub stuck_within : (bytes : List ℕ) {at place : ℕ} {code : Code} → Stuck bytes at place code → IsStuckWithin bytes place code
stuck_within bytes {at} {place} {code} (here e is) =
    let within : at < length bytes = refusal_within bytes at code is in
    record { within = omega arith; code_fits = code_least (drop at bytes) code is }
stuck_within bytes (behind n front rest) = stuck_within bytes rest

-- the front that is UTF-8 is one
pub valid_unique : (bytes : List ℕ) (n m : ℕ) → IsValidUpTo bytes n → IsValidUpTo bytes m → n ≡ m
valid_unique bytes n m valid other = elim (cases_order n m) [
  | inl same ↦ same
  | inr (inl less) ↦ absurd (valid.longest m less other.front)
  | inr (inr more) ↦ absurd (other.longest n more valid.front)
]

pub valid_not_utf8 : (bytes : List ℕ) (n : ℕ) → IsValidUpTo bytes n → IsUtf8 bytes → ⊥
valid_not_utf8 bytes n valid utf8 = valid.longest (length bytes) valid.short (subst (λ bs. IsUtf8 bs) (sym (take_all (length bytes) bytes (omega arith))) utf8)

-- the refusals, by where the bytes stop being UTF-8 and where their cut is stuck
pub stuck_first : (bytes : List ℕ) (place : ℕ) (code : Code) → Stuck bytes 0 place code → ((n : ℕ) → IsValidUpTo bytes n → place < n) → IsRefusal bytes place code
stuck_first bytes place code is later = record { fault = stuck is; least = least }
  where
    least : (other_place : ℕ) (other_code : Code) → IsFault bytes other_place other_code → (place < other_place) ⊎ ((place ≡ other_place) × (number_of code ≤ number_of other_code))
    least other_place other_code (no_utf8 valid) = inl (later other_place valid)
    least other_place other_code (stuck also) = let same = stuck_unique bytes is also in inr (same.places, omega (arith, ap number_of same.codes))

pub utf8_first : (bytes : List ℕ) (n : ℕ) → IsValidUpTo bytes n → ((place : ℕ) (code : Code) → Stuck bytes 0 place code → n ≤ place) → IsRefusal bytes n BadByte
utf8_first bytes n valid later = record { fault = no_utf8 valid; least = least }
  where
    least : (other_place : ℕ) (other_code : Code) → IsFault bytes other_place other_code → (n < other_place) ⊎ ((n ≡ other_place) × (10 ≤ number_of other_code))
    least other_place other_code (no_utf8 also) = inr (valid_unique bytes n other_place valid also, omega arith)
    least other_place other_code (stuck also) = elim (cases_lt n other_place) [
      | inl more ↦ inl more
      | inr less ↦ let place : n ≤ other_place = later other_place other_code also in inr (omega arith, (stuck_within bytes also).code_fits)
    ]

fault_not_cut : (file : ℕ) (bytes : List ℕ) (place : ℕ) (code : Code) (tokens : List Token) → IsCut file bytes tokens → IsFault bytes place code → ⊥
fault_not_cut file bytes place code tokens cut (no_utf8 valid) = valid_not_utf8 bytes place valid cut.utf8
fault_not_cut file bytes place code tokens cut (stuck is) = stuck_not_cut file bytes is cut.cut

-- bytes that are refused have no cut
pub refusal_not_cut : (file : ℕ) (bytes : List ℕ) (place : ℕ) (code : Code) (tokens : List Token) → IsRefusal bytes place code → IsCut file bytes tokens → ⊥
refusal_not_cut file bytes place code tokens refusal cut = fault_not_cut file bytes place code tokens cut refusal.fault

-- the tokens of a cut lie within the bytes and are tokens
pub cut_tokens : (file : ℕ) (bytes : List ℕ) {at : ℕ} {tokens : List Token} → Cut file bytes at tokens → AllByRecursion (IsTokenOf bytes) tokens
cut_tokens file bytes (ended e) = tt
cut_tokens file bytes (skip n front is rest) = cut_tokens file bytes rest
cut_tokens file bytes {at} (take_token kind n front is rest) = (record { fits = front_within bytes at n front; kind = kind; is = is; word = refl }, cut_tokens file bytes rest)

-- a piece at the front goes before what the rest is cut into
pub cut_more : (file : ℕ) (bytes : List ℕ) (at n : ℕ) (kind : Option TokenKind) (tokens : List Token) → IsFrontOf (drop at bytes) (Piece kind n) → Cut file bytes (at + n) tokens
    → Cut file bytes at (tokens_of (option_map (λ k. class_of k (take n (drop at bytes))) kind) at n (place_behind file (take at bytes)) ++ tokens)
cut_more file bytes at n None tokens front rest = skip n front.0 front.1 rest
cut_more file bytes at n (Some kind) tokens front rest = take_token kind n front.0 front.1 rest

-- what a stop says
pub stop_at : (file : ℕ) (bytes : List ℕ) (place : ℕ) (code : Code) (stop : Stop) → stop ≡ refused_at file bytes place code → IsRefusal bytes place code → IsStopAt file bytes stop
stop_at file bytes place code stop e refusal = subst (λ s. IsStopAt file bytes s) (sym e) (place, refusal, refl)

pub stop_no_cut : (file : ℕ) (bytes : List ℕ) (place : ℕ) (code : Code) (stop : Stop) → stop ≡ refused_at file bytes place code → IsRefusal bytes place code → HasNoCut file bytes stop
stop_no_cut file bytes place code stop e refusal = subst (λ s. HasNoCut file bytes s) (sym e) (λ tokens cut. refusal_not_cut file bytes place code tokens refusal cut)

-- the length of the front that is UTF-8
pub record IsUtf8Len (bytes : List ℕ) (n : ℕ) : Type 0 where
  pub within : n ≤ length bytes
  pub whole : n ≡ length bytes → IsUtf8 bytes
  pub part : n < length bytes → IsValidUpTo bytes n

-- a text that is cut whole, and is not UTF-8
pub cut_refusal : (file : ℕ) (bytes : List ℕ) (n : ℕ) (tokens : List Token) → IsUtf8Len bytes n → (n ≡ length bytes → ⊥) → Cut file bytes 0 tokens → IsRefusal bytes n BadByte
cut_refusal file bytes n tokens valid less cut = elim (cases_lt n (length bytes)) [
  | inl short ↦ utf8_first bytes n (valid.part short) (λ place code is. absurd (stuck_not_cut file bytes is cut))
  | inr long ↦ absurd (less (omega (arith, valid.within)))
]

-- a text whose cut is stuck before it stops being UTF-8, and not before
pub stuck_refusal : (bytes : List ℕ) (n place : ℕ) (code : Code) → IsUtf8Len bytes n → place < n → Stuck bytes 0 place code → IsRefusal bytes place code
stuck_refusal bytes n place code valid before is = stuck_first bytes place code is (λ m other. elim (cases_lt n (length bytes)) [
  | inl short ↦ let same : n ≡ m = valid_unique bytes n m (valid.part short) other in omega arith
  | inr long ↦ absurd (valid_not_utf8 bytes m other (valid.whole (omega (arith, valid.within))))
])

pub late_refusal : (bytes : List ℕ) (n place : ℕ) (code : Code) → IsUtf8Len bytes n → n ≤ place → Stuck bytes 0 place code → IsRefusal bytes n BadByte
late_refusal bytes n place code valid late is =
    let within : place < length bytes = (stuck_within bytes is).within in
    utf8_first bytes n (valid.part (omega arith)) (λ other_place other_code also.
    let same : place ≡ other_place = (stuck_unique bytes is also).places in omega arith)
