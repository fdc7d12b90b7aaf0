-- What a piece, and what a refusal, can be by the first byte of its text.
use Rattle.std.proofs.Common.{◌≡◌, ℕ, zero, suc, ◌<◌, ◌≤◌, Bool, true, false, List, [], ◌∷◌, ◌++◌, length, take, refl, sym, ap, ◌∙◌, subst, arith, inl, inr}
use Rattle.std.specs.Prelude.{◌⊎◌, ◌||◌, not, slice_index, Some, None}
use Rattle.std.specs.List.{list_all}
use Rattle.std.specs.Char.{is_ascii_digit, encode_utf8}
use Rattle.std.proofs.lemmas.Bool.{or_left, or_right, false≢true, false_from_ne_true}
use Rattle.std.proofs.lemmas.List.{get_or-take, length-take-le, length-append, take_at}
use Rattle.std.proofs.lemmas.Str.{length-encode, len_utf8_bounds}
use Rattle.rlc_base.specs.declared.code.Code.{Code}
use Rattle.rlc_base.specs.declared.code.Code.TheVariants.{BadByte, OpenComment, OpenText, BadLiteral, LeftOutWord}
use Rattle.java_lexer.specs.declared.token.TokenKind.{TokenKind}
use Rattle.java_lexer.specs.Characters.{is_line_end, is_identifier_start, BeginsWith, IsIdentifier}
use Rattle.java_lexer.specs.Words.{is_listed, reserved_words, left_out_words, value_words, is_special_word, separators, operators}
use Rattle.java_lexer.specs.Literals.{is_integer, is_character}
use Rattle.java_lexer.specs.Reading.{closing_quote, has_known_escapes}
use Rattle.java_lexer.specs.Tokens.{comment_end, IsSkipped, IsToken, IsPiece, blank, line_comment, block_comment, identifier, reserved, named_value, integer, character, string, separator, operator, skipped, token}
use Rattle.java_lexer.specs.Refusals.{Refuses, by_byte, by_comment, by_text, by_literal, by_word, IsClosed, IsBadByte, bad_byte, IsOpenComment, open_comment, IsOpenText, open_character, open_string, IsWholeInteger, IsBadLiteral, bad_number, fraction, bad_character, bad_string, text_block, IsLeftOutWord}
use Rattle.java_lexer.proofs.SortLaws.{Sort, Space, Mark, Digit, Single, Double, Letter, sort_of, first_sort, blank_sort, separator_sort, operator_sort, digit_sort, special_sort, other_sort, start_sort}
use Rattle.java_lexer.proofs.BodyLaws.{body_closes, closed_closes, none_closes, body_weak, body_known, known_body}
use Rattle.java_lexer.proofs.IntegerLaws.{integer_text}

-- a `//` comment, and a `/*` comment
pub record IsLineComment (text : List ℕ) : Type 0 where
  pub body : List ℕ
  pub spelled : text ≡ 47 ∷ 47 ∷ body
  pub plain : list_all (λ b. not (is_line_end b)) body ≡ true

pub record IsBlockComment (text : List ℕ) : Type 0 where
  pub body : List ℕ
  pub spelled : text ≡ 47 ∷ 42 ∷ body
  pub closed : comment_end body ≡ Some (length body)

-- a literal between two quotes
pub record IsQuoted (quote : ℕ) (test : List ℕ → Bool) (text : List ℕ) : Type 0 where
  pub body : List ℕ
  pub spelled : text ≡ quote ∷ (body ++ quote ∷ [])
  pub closed : closing_quote quote false (body ++ quote ∷ []) ≡ Some (length body)
  pub known : test body ≡ true

-- what a piece is that begins with a byte of this sort
abbrev pub PieceOf : Sort → List ℕ → Type 0
PieceOf Space text = length text ≡ 1
PieceOf Mark text = (is_listed separators text ≡ true) ⊎ ((is_listed operators text ≡ true) ⊎ (IsLineComment text ⊎ IsBlockComment text))
PieceOf Digit text = is_integer text ≡ true
PieceOf Single text = IsQuoted 39 is_character text
PieceOf Double text = IsQuoted 34 (has_known_escapes false) text
PieceOf Letter text = IsIdentifier text ⊎ (is_special_word text ≡ true)

of_sort : (text : List ℕ) (s : Sort) → first_sort text ≡ s → PieceOf s text → PieceOf (first_sort text) text
of_sort text s e piece = subst (λ t. PieceOf t text) (sym e) piece

pub begins_filled : (test : ℕ → Bool) (text : List ℕ) → BeginsWith test text → 0 < length text
begins_filled test text begins =
    let bounds = len_utf8_bounds begins.first in
    omega (arith, ap length begins.spelled, length-append (encode_utf8 begins.first) begins.rest, length-encode begins.first, bounds.0)

listed_filled : (words : List (List ℕ)) (text : List ℕ) → is_listed words [] ≡ false → is_listed words text ≡ true → 0 < length text
listed_filled words [] none is = absurd (false≢true (sym none ∙ is))
listed_filled words (x ∷ xs) none is = omega arith

-- no piece is empty
token_filled : (kind : TokenKind) (text : List ℕ) → IsToken kind text → 0 < length text
token_filled kind text (identifier word is plain) = begins_filled is_identifier_start word is.begins
token_filled kind text (reserved word is) = listed_filled reserved_words word refl is
token_filled kind text (named_value word is) = listed_filled value_words word refl is
token_filled kind text (integer [] is) = absurd (false≢true is)
token_filled kind text (integer (x ∷ xs) is) = omega arith
token_filled kind text (character body held known) = omega arith
token_filled kind text (string body held) = omega arith
token_filled kind text (separator word is) = listed_filled separators word refl is
token_filled kind text (operator word is) = listed_filled operators word refl is

skipped_filled : (text : List ℕ) → IsSkipped text → 0 < length text
skipped_filled text (blank b is) = omega arith
skipped_filled text (line_comment body plain) = omega arith
skipped_filled text (block_comment body closed) = omega arith

pub piece_filled : (text : List ℕ) → IsPiece text → 0 < length text
piece_filled text (skipped is) = skipped_filled text is
piece_filled text (token kind is) = token_filled kind text is

pub token_by_sort : (kind : TokenKind) (text : List ℕ) → IsToken kind text → PieceOf (first_sort text) text
token_by_sort kind text (identifier word is plain) = of_sort word Letter (start_sort word (begins_filled is_identifier_start word is.begins) is.begins) (inl is)
token_by_sort kind text (reserved word is) =
    let special : is_special_word word ≡ true = or_left _ (is_listed value_words word) (or_left _ (is_listed left_out_words word) is) in
    of_sort word Letter (special_sort word special) (inr special)
token_by_sort kind text (named_value word is) =
    let special : is_special_word word ≡ true = or_right (is_listed reserved_words word || is_listed left_out_words word) (is_listed value_words word) is in
    of_sort word Letter (special_sort word special) (inr special)
token_by_sort kind text (integer word is) = of_sort word Digit (digit_sort (slice_index word 0) (integer_text word is).digit) is
token_by_sort kind text (character body held known) = record { body = body; spelled = refl; closed = body_closes 39 body [] refl refl held; known = known }
token_by_sort kind text (string body held) = record { body = body; spelled = refl; closed = body_closes 34 body [] refl refl (body_weak 34 body held); known = body_known 34 body held }
token_by_sort kind text (separator word is) = of_sort word Mark (separator_sort word is) (inl is)
token_by_sort kind text (operator word is) = of_sort word Mark (operator_sort word is) (inr (inl is))

skipped_by_sort : (text : List ℕ) → IsSkipped text → PieceOf (first_sort text) text
skipped_by_sort text (blank b is) = of_sort (b ∷ []) Space (blank_sort b is) refl
skipped_by_sort text (line_comment body plain) = inr (inr (inl (record { body = body; spelled = refl; plain = plain })))
skipped_by_sort text (block_comment body closed) = inr (inr (inr (record { body = body; spelled = refl; closed = closed })))

pub piece_by_sort : (text : List ℕ) → IsPiece text → PieceOf (first_sort text) text
piece_by_sort text (skipped is) = skipped_by_sort text is
piece_by_sort text (token kind is) = token_by_sort kind text is

-- a piece at the front of a text of this sort
pub piece_at : (text : List ℕ) (s : Sort) (m : ℕ) → first_sort text ≡ s → m ≤ length text → IsPiece (take m text) → PieceOf s (take m text)
piece_at text s m sort inside piece =
    let more : 0 < length (take m text) = piece_filled (take m text) piece in
    let size : length (take m text) ≡ m = length-take-le m text inside in
    let first : slice_index (take m text) 0 ≡ slice_index text 0 = get_or-take m text 0 0 (omega arith) in
    subst (λ t. PieceOf t (take m text)) (ap sort_of first ∙ sort) (piece_by_sort (take m text) piece)

-- what a refusal is at a text that begins with a byte of this sort
pub record IsOpenBlock (code : Code) (text : List ℕ) : Type 0 where
  pub rest : List ℕ
  pub spelled : text ≡ 47 ∷ 42 ∷ rest
  pub open_end : comment_end rest ≡ None
  pub is : code ≡ OpenComment

pub record IsFraction (code : Code) (text : List ℕ) : Type 0 where
  pub digit : ℕ
  pub rest : List ℕ
  pub spelled : text ≡ 46 ∷ digit ∷ rest
  pub is_digit : is_ascii_digit digit ≡ true
  pub is : code ≡ BadLiteral

pub record IsOpenQuote (quote : ℕ) (code : Code) (text : List ℕ) : Type 0 where
  pub rest : List ℕ
  pub spelled : text ≡ quote ∷ rest
  pub open_end : closing_quote quote false rest ≡ None
  pub is : code ≡ OpenText

pub record IsBadQuote (quote : ℕ) (test : List ℕ → Bool) (code : Code) (text : List ℕ) : Type 0 where
  pub len : ℕ
  pub rest : List ℕ
  pub spelled : text ≡ quote ∷ rest
  pub closed : closing_quote quote false rest ≡ Some len
  pub unknown : test (take len rest) ≡ false
  pub is : code ≡ BadLiteral

pub record IsBlockQuote (code : Code) (text : List ℕ) : Type 0 where
  pub rest : List ℕ
  pub spelled : text ≡ 34 ∷ 34 ∷ 34 ∷ rest
  pub is : code ≡ BadLiteral

pub record IsNoStart (code : Code) (text : List ℕ) : Type 0 where
  pub none : BeginsWith is_identifier_start text → ⊥
  pub is : code ≡ BadByte

pub record IsLeftOut (code : Code) (text : List ℕ) : Type 0 where
  pub word : IsLeftOutWord text
  pub is : code ≡ LeftOutWord

pub record IsNoInteger (code : Code) (text : List ℕ) : Type 0 where
  pub none : (n : ℕ) → IsWholeInteger n text → ⊥
  pub is : code ≡ BadLiteral

abbrev pub RefusalOf : Sort → Code → List ℕ → Type 0
RefusalOf Space code text = ⊥
RefusalOf Mark code text = IsOpenBlock code text ⊎ IsFraction code text
RefusalOf Digit code text = IsNoInteger code text
RefusalOf Single code text = IsOpenQuote 39 code text ⊎ IsBadQuote 39 is_character code text
RefusalOf Double code text = IsOpenQuote 34 code text ⊎ (IsBadQuote 34 (has_known_escapes false) code text ⊎ IsBlockQuote code text)
RefusalOf Letter code text = IsNoStart code text ⊎ IsLeftOut code text

refusal_of_sort : (text : List ℕ) (s : Sort) (code : Code) → first_sort text ≡ s → RefusalOf s code text → RefusalOf (first_sort text) code text
refusal_of_sort text s code e refusal = subst (λ t. RefusalOf t code text) (sym e) refusal

body_front : (quote : ℕ) (rest body : List ℕ) → IsClosed quote rest body → take (length body) rest ≡ body
body_front quote rest body closed = ap (take (length body)) closed.spelled ∙ take_at body (quote ∷ closed.rest) (length body) refl

bad_literal_by_sort : (text : List ℕ) → IsBadLiteral text → RefusalOf (first_sort text) BadLiteral text
bad_literal_by_sort text (bad_number b rest is none) = refusal_of_sort (b ∷ rest) Digit BadLiteral (digit_sort b is) (record { none = none; is = refl })
bad_literal_by_sort text (fraction b rest is) = inr (record { digit = b; rest = rest; spelled = refl; is_digit = is; is = refl })
bad_literal_by_sort text (bad_character rest body closed unknown) =
    inr (record { len = length body; rest = rest; spelled = refl; closed = closed_closes 39 rest body refl refl closed; unknown = ap is_character (body_front 39 rest body closed) ∙ unknown; is = refl })
bad_literal_by_sort text (bad_string rest body closed unknown) =
    inr (inl (record {
      len = length body;
      rest = rest;
      spelled = refl;
      closed = closed_closes 34 rest body refl refl closed;
      unknown = ap (has_known_escapes false) (body_front 34 rest body closed) ∙ false_from_ne_true (has_known_escapes false body) (λ known. unknown (known_body 34 body closed.held known));
      is = refl;
    }))
bad_literal_by_sort text (text_block rest) = inr (inr (record { rest = rest; spelled = refl; is = refl }))

open_text_by_sort : (text : List ℕ) → IsOpenText text → RefusalOf (first_sort text) OpenText text
open_text_by_sort text (open_character rest none) = inl (record { rest = rest; spelled = refl; open_end = none_closes 39 rest none; is = refl })
open_text_by_sort text (open_string rest none) = inl (record { rest = rest; spelled = refl; open_end = none_closes 34 rest none; is = refl })

open_comment_by_sort : (text : List ℕ) → IsOpenComment text → RefusalOf (first_sort text) OpenComment text
open_comment_by_sort text (open_comment rest none) = inl (record { rest = rest; spelled = refl; open_end = none; is = refl })

bad_byte_by_sort : (text : List ℕ) → IsBadByte text → RefusalOf (first_sort text) BadByte text
bad_byte_by_sort text (bad_byte b rest none start) = refusal_of_sort (b ∷ rest) Letter BadByte (other_sort b none) (inl (record { none = start; is = refl }))

-- a listed word at the front of a text begins with the text's first byte
front_listed : (words : List (List ℕ)) (text : List ℕ) (n : ℕ) → is_listed words [] ≡ false → is_listed words (take n text) ≡ true → slice_index (take n text) 0 ≡ slice_index text 0
front_listed words text zero none is = absurd (false≢true (sym none ∙ is))
front_listed words text (suc n) none is = get_or-take (suc n) text 0 0 (omega arith)

left_out_by_sort : (text : List ℕ) → IsLeftOutWord text → RefusalOf (first_sort text) LeftOutWord text
left_out_by_sort text left =
    let special : is_special_word (take left.len text) ≡ true =
    or_left _ (is_listed value_words (take left.len text)) (or_right (is_listed reserved_words (take left.len text)) (is_listed left_out_words (take left.len text)) left.listed) in
    refusal_of_sort text Letter LeftOutWord (ap sort_of (sym (front_listed left_out_words text left.len refl left.listed)) ∙ special_sort (take left.len text) special) (inr (record { word = left; is = refl }))

pub refusal_by_sort : (code : Code) (text : List ℕ) → Refuses code text → RefusalOf (first_sort text) code text
refusal_by_sort code text (by_byte is) = bad_byte_by_sort text is
refusal_by_sort code text (by_comment is) = open_comment_by_sort text is
refusal_by_sort code text (by_text is) = open_text_by_sort text is
refusal_by_sort code text (by_literal is) = bad_literal_by_sort text is
refusal_by_sort code text (by_word is) = left_out_by_sort text is

pub refusal_at : (text : List ℕ) (s : Sort) (code : Code) → first_sort text ≡ s → Refuses code text → RefusalOf s code text
refusal_at text s code sort refuses = subst (λ t. RefusalOf t code text) sort (refusal_by_sort code text refuses)
