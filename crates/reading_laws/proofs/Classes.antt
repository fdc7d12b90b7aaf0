-- In the tokens of a file, those of a loose class are loose operators.
use Rattle.std.specs.Prelude.{◌≡◌, ℕ, ◌≤◌, nat_le, Bool, true, false, not, ◌&&◌, ◌||◌, if◌then◌else◌, List, [], ◌∷◌, ◌++◌, map}
use Rattle.std.proofs.Common.{refl, sym, ◌∙◌, ap, subst, arith}
use Rattle.std.specs.Str.{bytes_eq}
use Rattle.std.specs.List.{All, AllByRecursion}
use Rattle.std.proofs.lemmas.List.Elements.{All-from_recursion, recursion_from_All}
use Rattle.java_syntax.specs.declared.words.Word.{Word}
use Rattle.java_syntax.specs.declared.tokens.Token.{Token}
use Rattle.java_syntax.specs.Derives.{Lexeme, lexeme_of, text_of}
use Rattle.java_lexer.specs.declared.token.TokenKind.{TokenKind}
use Rattle.java_lexer.specs.declared.token.TokenKind.TheVariants as kind
use Rattle.java_lexer.specs.Words.{class_in, reserved_word_classes, separator_classes, operator_classes}
use Rattle.java_lexer.specs.TokenClasses.{class_of}
use Rattle.java_lexer.specs.Cut.{IsTokenOf}
use Rattle.java_lexer.proofs.ListedLaws.{same_bytes}
use Rattle.java_nodes.specs.Operators.{infix_operator}
use Rattle.java_nodes.specs.Parts.{level_of, comparison}
use Rattle.reading_laws.specs.Expressions.{is_loose, HasLooseOperator}

-- a row of a loose class is that of a loose operator
fits : List ℕ × Word → Bool
fits row = not (is_loose row.1) || nat_le comparison (level_of (infix_operator row.0))

all_fit : List (List ℕ × Word) → Bool
all_fit [] = true
all_fit (row ∷ rows) = fits row && all_fit rows

reserved_fit : all_fit reserved_word_classes ≡ true
unfolding all_fit fits infix_operator
reserved_fit = refl

separators_fit : all_fit separator_classes ≡ true
unfolding all_fit fits infix_operator
separators_fit = refl

operators_fit : all_fit operator_classes ≡ true
unfolding all_fit fits infix_operator
operators_fit = refl

false_true : {A : Type 0} → false ≡ true → A
false_true h = let e : ⊥ = grind arith in absurd e

both_true : (a b : Bool) → (a && b) ≡ true → (a ≡ true) × (b ≡ true)
both_true true b h = (refl, h)
both_true false b h = false_true h

at_most : (m n : ℕ) → nat_le m n ≡ true → m ≤ n
at_most m n h = grind (arith, h)

row_fits : (row : List ℕ × Word) (text : List ℕ) → fits row ≡ true → row.0 ≡ text → is_loose row.1 ≡ true → comparison ≤ level_of (infix_operator text)
unfolding fits
row_fits row text h e l = subst (λ x. comparison ≤ level_of (infix_operator x)) e (at_most _ _ (go (is_loose row.1) l h))
  where
    go : (b : Bool) {c : Bool} → b ≡ true → (not b || c) ≡ true → c ≡ true
    go true l h = h
    go false l h = false_true l

rows_fit : (rows : List (List ℕ × Word)) (text : List ℕ) → all_fit rows ≡ true → is_loose (class_in rows text) ≡ true → comparison ≤ level_of (infix_operator text)
unfolding all_fit
rows_fit [] text h l = false_true l
rows_fit (row ∷ rows) text h l = go (bytes_eq row.0 text) refl l (λ k. rows_fit rows text (both_true (fits row) (all_fit rows) h).1 k)
  where
    go : (b : Bool) → bytes_eq row.0 text ≡ b → is_loose (if b then row.1 else class_in rows text) ≡ true → (is_loose (class_in rows text) ≡ true → comparison ≤ level_of (infix_operator text)) → comparison ≤ level_of (infix_operator text)
    go true e l f = row_fits row text (both_true (fits row) (all_fit rows) h).0 (same_bytes row.0 text e) l
    go false e l f = f l

class_fits : (k : TokenKind) (text : List ℕ) → is_loose (class_of k text) ≡ true → comparison ≤ level_of (infix_operator text)
class_fits kind.Ident text l = false_true l
class_fits kind.Literal text l = false_true l
class_fits kind.Reserved text l = rows_fit reserved_word_classes text reserved_fit l
class_fits kind.Separator text l = rows_fit separator_classes text separators_fit l
class_fits kind.Operator text l = rows_fit operator_classes text operators_fit l

token_fits : (bytes : List ℕ) (t : Token) → IsTokenOf bytes t → HasLooseOperator (lexeme_of bytes t)
token_fits bytes t h l = class_fits h.kind (text_of bytes t) (ap is_loose (sym h.word) ∙ l)

tokens_each : (bytes : List ℕ) (tokens : List Token) → AllByRecursion (IsTokenOf bytes) tokens → AllByRecursion HasLooseOperator (map (lexeme_of bytes) tokens)
tokens_each bytes [] h = tt
tokens_each bytes (t ∷ ts) h = (token_fits bytes t h.0, tokens_each bytes ts h.1)

pub tokens_fit : (bytes : List ℕ) (tokens : List Token) → All (IsTokenOf bytes) tokens → All HasLooseOperator (map (lexeme_of bytes) tokens)
tokens_fit bytes tokens h = All-from_recursion HasLooseOperator (map (lexeme_of bytes) tokens) (tokens_each bytes tokens (recursion_from_All (IsTokenOf bytes) tokens h))

front_each : (used rest : List Lexeme) → AllByRecursion HasLooseOperator (used ++ rest) → AllByRecursion HasLooseOperator used
front_each [] rest h = tt
front_each (t ∷ ts) rest h = (h.0, front_each ts rest h.1)

-- so does a front of them
pub front_fits : (tokens used rest : List Lexeme) → tokens ≡ used ++ rest → All HasLooseOperator tokens → All HasLooseOperator used
front_fits tokens used rest e h = All-from_recursion HasLooseOperator used (front_each used rest (recursion_from_All HasLooseOperator (used ++ rest) (subst (λ ts. All HasLooseOperator ts) e h)))
