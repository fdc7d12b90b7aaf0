-- Character and string literals at the front of a text.
use Rattle.std.proofs.Common.{◌≡◌, ℕ, zero, suc, ◌+◌, ◌<◌, ◌≤◌, Bool, true, false, List, [], ◌∷◌, ◌++◌, length, take, drop, refl, sym, ap, ◌∙◌, subst, arith, inl, inr}
use Rattle.std.specs.Prelude.{slice_index, Some, None}
use Rattle.std.proofs.lemmas.Bool.{both_ways}
use Rattle.std.proofs.lemmas.List.{take-append-drop, length-append, length-take-le, take_more}
use Rattle.rlc_base.specs.declared.code.Code.{Code}
use Rattle.rlc_base.specs.declared.code.Code.TheVariants.{OpenText, BadLiteral}
use Rattle.java_lexer.specs.declared.fronts.Front.TheVariants.{Piece, Refused}
use Rattle.java_lexer.specs.declared.token.TokenKind.TheVariants.{Literal}
use Rattle.java_lexer.specs.Literals.{is_character}
use Rattle.java_lexer.specs.Reading.{closing_quote, has_known_escapes}
use Rattle.java_lexer.specs.Tokens.{IsToken, character, string, token}
use Rattle.java_lexer.specs.Refusals.{by_text, by_literal, open_character, open_string, bad_character, bad_string, text_block}
use Rattle.java_lexer.specs.Reading.{IsFrontOf}
use Rattle.java_lexer.proofs.SortLaws.{Single, Double}
use Rattle.java_lexer.proofs.PieceLaws.{RefusalOf, IsQuoted, IsOpenQuote, IsBadQuote}
use Rattle.java_lexer.proofs.EndLaws.{none_some, some_same, closing_more, closing_front}
use Rattle.java_lexer.proofs.BodyLaws.{closing_body, closed_body, closed_closes, body_known, known_body}
use Rattle.java_lexer.proofs.FrontLaws.{front_by}

quoted_longest : (quote : ℕ) (test : List ℕ → Bool) (rest : List ℕ) (n m : ℕ) → closing_quote quote false rest ≡ Some n → m ≤ length (quote ∷ rest)
    → IsQuoted quote test (take m (quote ∷ rest)) → m ≤ n + 2
quoted_longest quote test rest n zero closed inside is = omega arith
quoted_longest quote test rest n (suc k) closed inside is =
    let same : take k rest ≡ is.body ++ quote ∷ [] = tail is.body is.spelled in
    let whole : closing_quote quote false rest ≡ Some (length is.body) =
    ap (closing_quote quote false) (sym (take-append-drop k rest))
    ∙ closing_more quote false (take k rest) (drop k rest) (length is.body) (ap (closing_quote quote false) same ∙ is.closed) in
    let len : n ≡ length is.body = some_same n (length is.body) (sym closed ∙ whole) in
    let size : length (take k rest) ≡ k = length-take-le k rest (omega arith) in
    omega (arith, ap length same, length-append is.body (quote ∷ []))
  where
    tail : (body : List ℕ) → quote ∷ take k rest ≡ quote ∷ (body ++ quote ∷ []) → take k rest ≡ body ++ quote ∷ []
    tail body h = cc

-- the bytes of a closed literal
record IsQuotedFront (quote : ℕ) (rest : List ℕ) (n : ℕ) : Type 0 where
  fits : n + 2 ≤ length (quote ∷ rest)
  spelled : take (n + 2) (quote ∷ rest) ≡ quote ∷ (take n rest ++ quote ∷ [])

quoted_front : (quote : ℕ) (rest : List ℕ) (n : ℕ) → closing_quote quote false rest ≡ Some n → IsQuotedFront quote rest n
quoted_front quote rest n e =
    let front = closing_front quote false rest n e in
    let inside : n < length rest = front.fits in
    let two : n + 2 ≡ suc (suc n) = omega arith in
    let one : suc n ≡ n + 1 = omega arith in
    let body : take (suc n) rest ≡ take n rest ++ quote ∷ [] = ap (λ k. take k rest) one ∙ take_more rest n 0 inside ∙ ap (λ b. take n rest ++ b ∷ []) front.quote_is in
    record {
      fits = omega arith;
      spelled = ap (λ k. take k (quote ∷ rest)) two ∙ ap (λ xs. quote ∷ xs) body;
    }

not_open : (quote : ℕ) (code : Code) (rest : List ℕ) (n : ℕ) → closing_quote quote false rest ≡ Some n → IsOpenQuote quote code (quote ∷ rest) → ⊥
not_open quote code rest n closed is =
    let same : rest ≡ is.rest = ap (drop 1) is.spelled in
    none_some n (sym is.open_end ∙ ap (closing_quote quote false) (sym same) ∙ closed)

not_bad : (quote : ℕ) (code : Code) (test : List ℕ → Bool) (rest : List ℕ) (n : ℕ) → closing_quote quote false rest ≡ Some n → test (take n rest) ≡ true → IsBadQuote quote test code (quote ∷ rest) → ⊥
not_bad quote code test rest n closed known is =
    let same : rest ≡ is.rest = ap (drop 1) is.spelled in
    let len : n ≡ is.len = some_same n is.len (sym closed ∙ ap (closing_quote quote false) same ∙ is.closed) in
    both_ways (test (take n rest)) (ap (λ k. test (take k rest)) len ∙ ap (λ xs. test (take is.len xs)) same ∙ is.unknown) known

character_taken : (rest : List ℕ) (n : ℕ) → closing_quote 39 false rest ≡ Some n → is_character (take n rest) ≡ true → (code : Code) → RefusalOf Single code (39 ∷ rest) → ⊥
character_taken rest n closed known code (inl is) = not_open 39 code rest n closed is
character_taken rest n closed known code (inr is) = not_bad 39 code is_character rest n closed known is

character_by : (rest : List ℕ) (n : ℕ) → closing_quote 39 false rest ≡ Some n → is_character (take n rest) ≡ true → IsFrontOf (39 ∷ rest) (Piece (Some Literal) (n + 2))
character_by rest n closed known =
    let front = quoted_front 39 rest n closed in
    let is : IsToken Literal (take (n + 2) (39 ∷ rest)) = subst (λ xs. IsToken Literal xs) (sym front.spelled) (character (take n rest) (closing_body 39 false rest n closed) known) in
    (front_by (39 ∷ rest) (n + 2) Single refl front.fits (token Literal is) (λ m inside piece. quoted_longest 39 is_character rest n m closed inside piece) (character_taken rest n closed known), is)

-- a character literal
pub character_front : (text : List ℕ) (n : ℕ) → text ≡ 39 ∷ drop 1 text → closing_quote 39 false (drop 1 text) ≡ Some n → is_character (take n (drop 1 text)) ≡ true
    → IsFrontOf text (Piece (Some Literal) (n + 2))
character_front text n whole closed known = subst (λ xs. IsFrontOf xs (Piece (Some Literal) (n + 2))) (sym whole) (character_by (drop 1 text) n closed known)

pub open_character_front : (text : List ℕ) → text ≡ 39 ∷ drop 1 text → closing_quote 39 false (drop 1 text) ≡ None → IsFrontOf text (Refused OpenText)
open_character_front text whole none = subst (λ xs. IsFrontOf xs (Refused OpenText)) (sym whole) (by_text (open_character (drop 1 text) (λ body closed. none_some (length body) (sym none ∙ closed_closes 39 (drop 1 text) body refl refl closed))))

pub bad_character_front : (text : List ℕ) (n : ℕ) → text ≡ 39 ∷ drop 1 text → closing_quote 39 false (drop 1 text) ≡ Some n → is_character (take n (drop 1 text)) ≡ false
    → IsFrontOf text (Refused BadLiteral)
bad_character_front text n whole closed unknown = subst (λ xs. IsFrontOf xs (Refused BadLiteral)) (sym whole) (by_literal (bad_character (drop 1 text) (take n (drop 1 text)) (closed_body 39 (drop 1 text) n closed) unknown))

string_taken : (rest : List ℕ) (n : ℕ) → closing_quote 34 false rest ≡ Some n → has_known_escapes false (take n rest) ≡ true → (n ≡ 0 → slice_index rest 1 ≡ 34 → ⊥)
    → (code : Code) → RefusalOf Double code (34 ∷ rest) → ⊥
string_taken rest n closed known no_block code (inl is) = not_open 34 code rest n closed is
string_taken rest n closed known no_block code (inr (inl is)) = not_bad 34 code (has_known_escapes false) rest n closed known is
string_taken rest n closed known no_block code (inr (inr is)) =
    let same : rest ≡ 34 ∷ 34 ∷ is.rest = ap (drop 1) is.spelled in
    no_block (some_same n 0 (sym closed ∙ ap (closing_quote 34 false) same)) (ap (λ xs. slice_index xs 1) same)

string_by : (rest : List ℕ) (n : ℕ) → closing_quote 34 false rest ≡ Some n → has_known_escapes false (take n rest) ≡ true → (n ≡ 0 → slice_index rest 1 ≡ 34 → ⊥)
    → IsFrontOf (34 ∷ rest) (Piece (Some Literal) (n + 2))
string_by rest n closed known no_block =
    let front = quoted_front 34 rest n closed in
    let is : IsToken Literal (take (n + 2) (34 ∷ rest)) = subst (λ xs. IsToken Literal xs) (sym front.spelled) (string (take n rest) (known_body 34 (take n rest) (closing_body 34 false rest n closed) known)) in
    (front_by (34 ∷ rest) (n + 2) Double refl front.fits (token Literal is) (λ m inside piece. quoted_longest 34 (has_known_escapes false) rest n m closed inside piece) (string_taken rest n closed known no_block), is)

-- a string literal
pub string_front : (text : List ℕ) (n : ℕ) → text ≡ 34 ∷ drop 1 text → closing_quote 34 false (drop 1 text) ≡ Some n → has_known_escapes false (take n (drop 1 text)) ≡ true
    → (n ≡ 0 → slice_index text 2 ≡ 34 → ⊥) → IsFrontOf text (Piece (Some Literal) (n + 2))
string_front text n whole closed known no_block = subst (λ xs. IsFrontOf xs (Piece (Some Literal) (n + 2))) (sym whole)
    (string_by (drop 1 text) n closed known (λ none third. no_block none (ap (λ xs. slice_index xs 2) whole ∙ third)))

pub open_string_front : (text : List ℕ) → text ≡ 34 ∷ drop 1 text → closing_quote 34 false (drop 1 text) ≡ None → IsFrontOf text (Refused OpenText)
open_string_front text whole none = subst (λ xs. IsFrontOf xs (Refused OpenText)) (sym whole) (by_text (open_string (drop 1 text) (λ body closed. none_some (length body) (sym none ∙ closed_closes 34 (drop 1 text) body refl refl closed))))

pub bad_string_front : (text : List ℕ) (n : ℕ) → text ≡ 34 ∷ drop 1 text → closing_quote 34 false (drop 1 text) ≡ Some n → has_known_escapes false (take n (drop 1 text)) ≡ false
    → IsFrontOf text (Refused BadLiteral)
bad_string_front text n whole closed unknown = subst (λ xs. IsFrontOf xs (Refused BadLiteral)) (sym whole) (by_literal (bad_string (drop 1 text) (take n (drop 1 text)) (closed_body 34 (drop 1 text) n closed)
    (λ known. both_ways (has_known_escapes false (take n (drop 1 text))) unknown (body_known 34 (take n (drop 1 text)) known))))

-- three quotes
pub text_block_front : (text : List ℕ) → text ≡ 34 ∷ drop 1 text → closing_quote 34 false (drop 1 text) ≡ Some 0 → slice_index text 2 ≡ 34 → IsFrontOf text (Refused BadLiteral)
text_block_front text whole closed third =
    let front = closing_front 34 false (drop 1 text) 0 closed in
    three text (ap (λ xs. slice_index xs 0) whole) (ap (λ xs. slice_index xs 1) whole ∙ front.quote_is) third
  where
    three : (text : List ℕ) → slice_index text 0 ≡ 34 → slice_index text 1 ≡ 34 → slice_index text 2 ≡ 34 → IsFrontOf text (Refused BadLiteral)
    three [] a b c = absurd (omega arith)
    three (x ∷ []) a b c = absurd (omega arith)
    three (x ∷ y ∷ []) a b c = absurd (omega arith)
    three (x ∷ y ∷ z ∷ zs) a b c =
        subst (λ n. IsFrontOf (n ∷ y ∷ z ∷ zs) (Refused BadLiteral)) (sym a) (subst (λ n. IsFrontOf (34 ∷ n ∷ z ∷ zs) (Refused BadLiteral)) (sym b) (subst (λ n. IsFrontOf (34 ∷ 34 ∷ n ∷ zs) (Refused BadLiteral)) (sym c)
        (by_literal (text_block zs))))
