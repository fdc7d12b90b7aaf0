-- What stands at the front of a text, family by family.
use Rattle.std.proofs.Common.{◌≡◌, ℕ, zero, suc, ◌+◌, ◌<◌, ◌≤◌, Bool, true, List, [], ◌∷◌, ◌++◌, length, take, drop, refl, sym, ap, ◌∙◌, subst, arith, inl, inr}
use Rattle.std.specs.Prelude.{◌⊎◌, not, slice_index, Option, Some, None}
use Rattle.std.specs.List.{list_all, prefix_len}
use Rattle.std.specs.Char.{is_ascii_digit}
use Rattle.std.specs.Str.{bytes_eq}
use Rattle.std.proofs.lemmas.Bool.{or_cases, false≢true}
use Rattle.std.proofs.lemmas.List.{take-append-drop, length-take-le}
use Rattle.std.proofs.lemmas.List.Folds.{list_any-append}
use Rattle.rlc_base.specs.declared.code.Code.{Code}
use Rattle.rlc_base.specs.declared.code.Code.TheVariants.{OpenComment, BadLiteral}
use Rattle.java_lexer.specs.declared.fronts.Front.TheVariants.{Piece, Refused}
use Rattle.java_lexer.specs.declared.token.TokenKind.TheVariants.{Separator, Operator}
use Rattle.java_lexer.specs.Characters.{is_blank, is_line_end}
use Rattle.java_lexer.specs.Words.{is_listed, separators, operators, longest_listed}
use Rattle.java_lexer.specs.Tokens.{comment_end, IsSkipped, IsPiece, blank, line_comment, block_comment, separator, operator, skipped, token}
use Rattle.java_lexer.specs.Refusals.{by_comment, by_literal, open_comment, fraction}
use Rattle.java_lexer.specs.Cut.{IsFront}
use Rattle.java_lexer.specs.Reading.{IsFrontOf, IsSymbolAt}
use Rattle.java_lexer.proofs.ListedLaws.{longest_at_least, longest_is_listed}
use Rattle.java_lexer.proofs.SortLaws.{Sort, Space, Mark, first_sort, is_mark, blank_sort, mark_sort}
use Rattle.java_lexer.proofs.PieceLaws.{PieceOf, RefusalOf, piece_at, refusal_at}
use Rattle.java_lexer.proofs.EndLaws.{none_some, comment_end_more, comment_end_front, front_passes, front_fits, front_longest}

-- a front by the sort of its first byte
pub front_by : (text : List ℕ) (n : ℕ) (s : Sort) → first_sort text ≡ s → n ≤ length text → IsPiece (take n text)
    → ((m : ℕ) → m ≤ length text → PieceOf s (take m text) → m ≤ n) → ((code : Code) → RefusalOf s code text → ⊥) → IsFront n text
front_by text n s sort fits piece longest none = record {
  fits = fits;
  piece = piece;
  longest = λ m inside is. longest m inside (piece_at text s m sort inside is);
  taken = λ code refuses. none code (refusal_at text s code sort refuses);
}

-- a byte of white space
pub blank_front : (text : List ℕ) → 0 < length text → is_blank (slice_index text 0) ≡ true → IsFrontOf text (Piece None 1)
blank_front [] more is = absurd (omega arith)
blank_front (b ∷ rest) more is =
    (front_by (b ∷ rest) 1 Space (blank_sort b is) (omega arith) (skipped (blank b is)) (λ m inside one. omega (arith, length-take-le m (b ∷ rest) inside, one)) (λ code refuses. refuses), blank b is)

-- the first two bytes of a front are those of the text
front_two : (text : List ℕ) (m a b : ℕ) (body : List ℕ) → take m text ≡ a ∷ b ∷ body → (slice_index text 0 ≡ a) × (slice_index text 1 ≡ b)
front_two text m a b body e =
    let whole : text ≡ a ∷ b ∷ (body ++ drop m text) = sym (take-append-drop m text) ∙ ap (λ xs. xs ++ drop m text) e in
    (ap (λ xs. slice_index xs 0) whole, ap (λ xs. slice_index xs 1) whole)

symbol_longest : (text : List ℕ) (n m : ℕ) → IsSymbolAt text → longest_listed separators text ≤ n → longest_listed operators text ≤ n → m ≤ length text → PieceOf Mark (take m text) → m ≤ n
symbol_longest text n m at separator_fits operator_fits inside (inl is) =
    let most : m ≤ longest_listed separators text = longest_at_least separators text m inside is in omega arith
symbol_longest text n m at separator_fits operator_fits inside (inr (inl is)) =
    let most : m ≤ longest_listed operators text = longest_at_least operators text m inside is in omega arith
symbol_longest text n m at separator_fits operator_fits inside (inr (inr (inl is))) =
    let bytes = front_two text m 47 47 is.body is.spelled in absurd (at.no_line bytes.0 bytes.1)
symbol_longest text n m at separator_fits operator_fits inside (inr (inr (inr is))) =
    let bytes = front_two text m 47 42 is.body is.spelled in absurd (at.no_block bytes.0 bytes.1)

symbol_taken : (text : List ℕ) → IsSymbolAt text → (code : Code) → RefusalOf Mark code text → ⊥
symbol_taken text at code (inl is) = at.no_block (ap (λ xs. slice_index xs 0) is.spelled) (ap (λ xs. slice_index xs 1) is.spelled)
symbol_taken text at code (inr is) =
    at.no_digit (ap (λ xs. slice_index xs 0) is.spelled) (ap (λ xs. is_ascii_digit (slice_index xs 1)) is.spelled ∙ is.is_digit)

pub separator_front : (text : List ℕ) → IsSymbolAt text → longest_listed operators text < longest_listed separators text → IsFrontOf text (Piece (Some Separator) (longest_listed separators text))
separator_front text at longer =
    let front = longest_is_listed separators text (omega arith) in
    let is = separator (take (longest_listed separators text) text) front.listed in (
      front_by text (longest_listed separators text) Mark (mark_sort (slice_index text 0) at.mark) front.fits (token Separator is)
          (λ m inside piece. symbol_longest text (longest_listed separators text) m at (omega arith) (omega arith) inside piece) (symbol_taken text at),
      is,
    )

-- a text that begins with a symbol's byte begins with a symbol
one_symbol : (text : List ℕ) → 0 < length text → is_mark (slice_index text 0) ≡ true → (1 ≤ longest_listed separators text) ⊎ (1 ≤ longest_listed operators text)
one_symbol [] more mark = absurd (omega arith)
one_symbol (b ∷ rest) more mark =
    elim (or_cases (is_listed separators (b ∷ [])) (is_listed operators (b ∷ [])) (sym (list_any-append (λ listed. bytes_eq listed (b ∷ [])) separators operators) ∙ mark)) [
      | inl is ↦ inl (longest_at_least separators (b ∷ rest) 1 (omega arith) is)
      | inr is ↦ inr (longest_at_least operators (b ∷ rest) 1 (omega arith) is)
    ]

pub operator_front : (text : List ℕ) → IsSymbolAt text → longest_listed separators text ≤ longest_listed operators text → IsFrontOf text (Piece (Some Operator) (longest_listed operators text))
operator_front text at longer =
    let some : 0 < longest_listed operators text = elim (one_symbol text at.more at.mark) [ inl is ↦ omega arith | inr is ↦ omega arith ] in
    let front = longest_is_listed operators text some in
    let is = operator (take (longest_listed operators text) text) front.listed in (
      front_by text (longest_listed operators text) Mark (mark_sort (slice_index text 0) at.mark) front.fits (token Operator is)
          (λ m inside piece. symbol_longest text (longest_listed operators text) m at longer (omega arith) inside piece) (symbol_taken text at),
      is,
    )

two_more : (n a b : ℕ) (rest : List ℕ) → take (2 + n) (a ∷ b ∷ rest) ≡ a ∷ b ∷ take n rest
two_more n a b rest = let e : 2 + n ≡ suc (suc n) = omega arith in ap (λ k. take k (a ∷ b ∷ rest)) e

-- a front that is spelled by two bytes and a body
record IsBody (m a b : ℕ) (rest body : List ℕ) : Type 0 where
  len : ℕ
  total : m ≡ 2 + len
  second : a ≡ b
  same : take len rest ≡ body

body_of : (first a b : ℕ) (rest body : List ℕ) (m : ℕ) → take m (first ∷ a ∷ rest) ≡ first ∷ b ∷ body → IsBody m a b rest body
body_of first a b rest body zero e = absurd (nil_cons e)
  where
    nil_cons : ◌≡◌ {A = List ℕ} [] (first ∷ b ∷ body) → ⊥
    nil_cons h = cc
body_of first a b rest body (suc zero) e = absurd (one_two e)
  where
    one_two : ◌≡◌ {A = List ℕ} (first ∷ []) (first ∷ b ∷ body) → ⊥
    one_two h = cc
body_of first a b rest body (suc (suc k)) e = record { len = k; total = omega arith; second = second e; same = same e }
  where
    second : first ∷ a ∷ take k rest ≡ first ∷ b ∷ body → a ≡ b
    second h = cc

    same : first ∷ a ∷ take k rest ≡ first ∷ b ∷ body → take k rest ≡ body
    same h = cc

abbrev pub stays : ℕ → Bool
stays b = not (is_line_end b)

line_longest : (rest : List ℕ) (m : ℕ) → m ≤ length (47 ∷ 47 ∷ rest) → PieceOf Mark (take m (47 ∷ 47 ∷ rest)) → m ≤ 2 + prefix_len stays rest
line_longest rest m inside (inl is) =
    let most : m ≤ 0 = longest_at_least separators (47 ∷ 47 ∷ rest) m inside is in omega arith
line_longest rest m inside (inr (inl is)) =
    let most : m ≤ 1 = longest_at_least operators (47 ∷ 47 ∷ rest) m inside is in omega arith
line_longest rest m inside (inr (inr (inl is))) =
    let body = body_of 47 47 47 rest is.body m is.spelled in
    let total : m ≡ 2 + body.len = body.total in
    let most : body.len ≤ prefix_len stays rest = front_longest stays rest body.len (omega arith) (ap (list_all stays) body.same ∙ is.plain) in
    omega arith
line_longest rest m inside (inr (inr (inr is))) =
    let body = body_of 47 47 42 rest is.body m is.spelled in absurd (omega (arith, body.second))

line_taken : (rest : List ℕ) (code : Code) → RefusalOf Mark code (47 ∷ 47 ∷ rest) → ⊥
line_taken rest code (inl is) = let e : ◌≡◌ {A = ℕ} 47 42 = ap (λ xs. slice_index xs 1) is.spelled in absurd (omega arith)
line_taken rest code (inr is) = let e : ◌≡◌ {A = ℕ} 47 46 = ap (λ xs. slice_index xs 0) is.spelled in absurd (omega arith)

line_front : (rest : List ℕ) → IsFrontOf (47 ∷ 47 ∷ rest) (Piece None (2 + prefix_len stays rest))
line_front rest =
    let n : ℕ = prefix_len stays rest in
    let is : IsSkipped (take (2 + n) (47 ∷ 47 ∷ rest)) = subst (λ xs. IsSkipped xs) (sym (two_more n 47 47 rest)) (line_comment (take n rest) (front_passes stays rest)) in
    let fits : n ≤ length rest = front_fits stays rest in
    (front_by (47 ∷ 47 ∷ rest) (2 + n) Mark refl (omega arith) (skipped is) (line_longest rest) (line_taken rest), is)

-- a `//` comment
pub line_comment_front : (text : List ℕ) → text ≡ 47 ∷ 47 ∷ drop 2 text → IsFrontOf text (Piece None (2 + prefix_len stays (drop 2 text)))
line_comment_front text whole = subst (λ xs. IsFrontOf xs (Piece None (2 + prefix_len stays (drop 2 text)))) (sym whole) (line_front (drop 2 text))

block_longest : (rest : List ℕ) (n m : ℕ) → comment_end rest ≡ Some n → 2 ≤ n → m ≤ length (47 ∷ 42 ∷ rest) → PieceOf Mark (take m (47 ∷ 42 ∷ rest)) → m ≤ 2 + n
block_longest rest n m closed two inside (inl is) =
    let most : m ≤ 0 = longest_at_least separators (47 ∷ 42 ∷ rest) m inside is in omega arith
block_longest rest n m closed two inside (inr (inl is)) =
    let most : m ≤ 1 = longest_at_least operators (47 ∷ 42 ∷ rest) m inside is in omega arith
block_longest rest n m closed two inside (inr (inr (inl is))) =
    let body = body_of 47 42 47 rest is.body m is.spelled in absurd (omega (arith, body.second))
block_longest rest n m closed two inside (inr (inr (inr is))) =
    let body = body_of 47 42 42 rest is.body m is.spelled in
    let total : m ≡ 2 + body.len = body.total in
    let size : length (take body.len rest) ≡ body.len = length-take-le body.len rest (omega arith) in
    let end : comment_end (take body.len rest) ≡ Some (length (take body.len rest)) = ap comment_end body.same ∙ is.closed ∙ ap (λ xs. Some (length xs)) (sym body.same) in
    let whole : comment_end rest ≡ Some (length (take body.len rest)) =
    ap comment_end (sym (take-append-drop body.len rest)) ∙ comment_end_more (take body.len rest) (drop body.len rest) (length (take body.len rest)) end in
    let same : n ≡ length (take body.len rest) = some_is n (length (take body.len rest)) (sym closed ∙ whole) in
    omega arith
  where
    some_is : (i j : ℕ) → ◌≡◌ {A = Option ℕ} (Some i) (Some j) → i ≡ j
    some_is i j e = cc

block_taken : (rest : List ℕ) (n : ℕ) → comment_end rest ≡ Some n → (code : Code) → RefusalOf Mark code (47 ∷ 42 ∷ rest) → ⊥
block_taken rest n closed code (inl is) =
    let same : rest ≡ is.rest = ap (drop 2) is.spelled in none_some n (sym is.open_end ∙ ap comment_end (sym same) ∙ closed)
block_taken rest n closed code (inr is) = let e : ◌≡◌ {A = ℕ} 47 46 = ap (λ xs. slice_index xs 0) is.spelled in absurd (omega arith)

block_front : (rest : List ℕ) (n : ℕ) → comment_end rest ≡ Some n → IsFrontOf (47 ∷ 42 ∷ rest) (Piece None (2 + n))
block_front rest n closed =
    let front = comment_end_front rest n closed in
    let two : 2 ≤ n = front.two in
    let fits : n ≤ length rest = front.fits in
    let body : comment_end (take n rest) ≡ Some (length (take n rest)) = front.closed ∙ ap (λ k. Some k) (sym (length-take-le n rest fits)) in
    let is : IsSkipped (take (2 + n) (47 ∷ 42 ∷ rest)) = subst (λ xs. IsSkipped xs) (sym (two_more n 47 42 rest)) (block_comment (take n rest) body) in
    (front_by (47 ∷ 42 ∷ rest) (2 + n) Mark refl (omega arith) (skipped is) (λ m inside piece. block_longest rest n m closed two inside piece) (block_taken rest n closed), is)

-- a `/*` comment, and one that is not closed
pub block_comment_front : (text : List ℕ) (n : ℕ) → text ≡ 47 ∷ 42 ∷ drop 2 text → comment_end (drop 2 text) ≡ Some n → IsFrontOf text (Piece None (2 + n))
block_comment_front text n whole closed = subst (λ xs. IsFrontOf xs (Piece None (2 + n))) (sym whole) (block_front (drop 2 text) n closed)

pub open_comment_front : (text : List ℕ) → text ≡ 47 ∷ 42 ∷ drop 2 text → comment_end (drop 2 text) ≡ None → IsFrontOf text (Refused OpenComment)
open_comment_front text whole none = subst (λ xs. IsFrontOf xs (Refused OpenComment)) (sym whole) (by_comment (open_comment (drop 2 text) none))

-- a number that begins with a point
pub fraction_front : (text : List ℕ) → slice_index text 0 ≡ 46 → is_ascii_digit (slice_index text 1) ≡ true → IsFrontOf text (Refused BadLiteral)
fraction_front [] first is = absurd (omega arith)
fraction_front (a ∷ []) first is = absurd (false≢true is)
fraction_front (a ∷ b ∷ rest) first is = subst (λ n. IsFrontOf (n ∷ b ∷ rest) (Refused BadLiteral)) (sym first) (by_literal (fraction b rest is))
