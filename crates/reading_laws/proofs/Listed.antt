-- A token of a class of operators is a listed operator.
use Rattle.std.specs.Prelude.{◌≡◌, ℕ, ◌-◌, Bool, true, false, not, ◌&&◌, ◌||◌, if◌then◌else◌, List, [], ◌∷◌, length, take}
use Rattle.std.proofs.Common.{refl, sym, ◌∙◌, ap, subst, arith}
use Rattle.std.specs.Str.{bytes_eq}
use Rattle.java_syntax.specs.declared.words.Word.{Word}
use Rattle.java_syntax.specs.declared.words.Word.TheVariants as word
use Rattle.java_syntax.specs.declared.tokens.Token.{Token}
use Rattle.java_syntax.specs.Derives.{text_of}
use Rattle.java_lexer.specs.declared.token.TokenKind.{TokenKind}
use Rattle.java_lexer.specs.declared.token.TokenKind.TheVariants as kind
use Rattle.java_lexer.specs.Words.{is_listed, class_in, reserved_word_classes, separator_classes, operator_classes}
use Rattle.java_lexer.specs.TokenClasses.{class_of}
use Rattle.java_lexer.specs.Cut.{IsTokenOf}
use Rattle.java_lexer.proofs.ListedLaws.{same_bytes}
use Rattle.reading_laws.specs.Expressions.{is_infix}
use Rattle.reading_laws.specs.Operators.{infix_texts, is_compound}

false_true : {A : Type 0} → false ≡ true → A
false_true h = let e : ⊥ = grind arith in absurd e

both_true : (a b : Bool) → (a && b) ≡ true → (a ≡ true) × (b ≡ true)
both_true true b h = (refl, h)
both_true false b h = false_true h

-- the test of a class and a text passes on each row
abbrev pub all_pass : (Word → List ℕ → Bool) → List (List ℕ × Word) → Bool
all_pass test [] = true
all_pass test (row ∷ rows) = test row.1 row.0 && all_pass test rows

class_passes : (test : Word → List ℕ → Bool) (rows : List (List ℕ × Word)) (text : List ℕ) → all_pass test rows ≡ true → test word.Other text ≡ true → test (class_in rows text) text ≡ true
class_passes test [] text h o = o
class_passes test (row ∷ rows) text h o = go (bytes_eq row.0 text) refl (class_passes test rows text (both_true (test row.1 row.0) (all_pass test rows) h).1 o)
  where
    go : (b : Bool) → bytes_eq row.0 text ≡ b → test (class_in rows text) text ≡ true → test (if b then row.1 else class_in rows text) text ≡ true
    go true e f = subst (λ x. test row.1 x ≡ true) (same_bytes row.0 text e) (both_true (test row.1 row.0) (all_pass test rows) h).0
    go false e f = f

-- an infix operator is listed
infix_test : Word → List ℕ → Bool
infix_test w text = not (is_infix w) || is_listed infix_texts text

-- so is what stands before the `=` of a compound assignment
compound_test : Word → List ℕ → Bool
compound_test w text = not (is_compound w) || is_listed infix_texts (take (length text - 1) text)

implied : (a b : Bool) → (not a || b) ≡ true → a ≡ true → b ≡ true
implied true b h k = h
implied false b h k = false_true k

kind_infix : (k : TokenKind) (text : List ℕ) → infix_test (class_of k text) text ≡ true
unfolding infix_test
kind_infix kind.Ident text = refl
kind_infix kind.Literal text = refl
kind_infix kind.Reserved text = class_passes infix_test reserved_word_classes text refl refl
kind_infix kind.Separator text = class_passes infix_test separator_classes text refl refl
kind_infix kind.Operator text = class_passes infix_test operator_classes text refl refl

kind_compound : (k : TokenKind) (text : List ℕ) → compound_test (class_of k text) text ≡ true
unfolding compound_test
kind_compound kind.Ident text = refl
kind_compound kind.Literal text = refl
kind_compound kind.Reserved text = class_passes compound_test reserved_word_classes text refl refl
kind_compound kind.Separator text = class_passes compound_test separator_classes text refl refl
kind_compound kind.Operator text = class_passes compound_test operator_classes text refl refl

pub infix_listed : (bytes : List ℕ) (t : Token) → IsTokenOf bytes t → is_infix t.word ≡ true → is_listed infix_texts (text_of bytes t) ≡ true
unfolding infix_test
infix_listed bytes t h i = implied (is_infix (class_of h.kind (text_of bytes t))) _ (kind_infix h.kind (text_of bytes t)) (ap is_infix (sym h.word) ∙ i)

pub compound_listed : (bytes : List ℕ) (t : Token) → IsTokenOf bytes t → t.word ≡ word.Compound → is_listed infix_texts (take (length (text_of bytes t) - 1) (text_of bytes t)) ≡ true
unfolding compound_test
compound_listed bytes t h i = implied (is_compound (class_of h.kind (text_of bytes t))) _ (kind_compound h.kind (text_of bytes t)) (ap is_compound (sym h.word ∙ i))
