-- The words by number, and tests of all of them.
use Rattle.std.specs.Prelude.{◌≡◌, ◌≢◌, ℕ, ◌<◌, Bool, true, false, ◌&&◌, List, [], ◌∷◌, get_or, length}
use Rattle.std.proofs.lemmas.Bool.{eqb-true, eq-eqb}
use Rattle.std.proofs.Common.{refl, sym, ◌∙◌, ap, subst, arith, zero, suc}
use Rattle.java_syntax.specs.declared.words.Word.{Word}
use Rattle.java_syntax.specs.declared.words.Word.TheVariants as word
use Rattle.java_grammar.specs.Lookahead.{rank, same}
use Rattle.java_grammar.proofs.Bools.{and_parts, true_false}

unfoldable pub words : List Word
words = word.Package ∷ word.Semicolon ∷ word.Import ∷ word.Ident ∷ word.Dot ∷ word.Star ∷ word.Comma ∷ word.Class ∷ word.OpenBrace ∷ word.CloseBrace ∷ word.Interface ∷ word.Extends ∷ word.Implements ∷ word.Public ∷ word.Protected ∷ word.Private ∷ word.Static ∷ word.Final ∷ word.Abstract ∷ word.Void ∷ word.Primitive ∷ word.OpenBracket ∷ word.CloseBracket ∷ word.Super ∷ word.Throws ∷ word.OpenParen ∷ word.CloseParen ∷ word.This ∷ word.Assign ∷ word.At ∷ word.If ∷ word.While ∷ word.Do ∷ word.For ∷ word.Try ∷ word.Return ∷ word.Throw ∷ word.Break ∷ word.Continue ∷ word.Else ∷ word.Finally ∷ word.Catch ∷ word.Bar ∷ word.Step ∷ word.Compound ∷ word.Question ∷ word.Colon ∷ word.Sign ∷ word.Tight ∷ word.Loose ∷ word.Instanceof ∷ word.Not ∷ word.Literal ∷ word.New ∷ word.Other ∷ []

unfoldable pub all : {A : Type 0} → (A → Bool) → List A → Bool
all p [] = true
all p (x ∷ xs) = p x && all p xs

pub all_at : {A : Type 0} (p : A → Bool) (xs : List A) (d : A) (k : ℕ) → all p xs ≡ true → k < length xs → p (get_or xs k d) ≡ true
unfolding all
all_at p [] d k h l = grind arith
all_at p (x ∷ xs) d zero h l = (and_parts _ _ h).0
all_at p (x ∷ xs) d (suc k) h l = all_at p xs d k (and_parts _ _ h).1 (omega (arith, l))

pub word_at : (w : Word) → (get_or words (rank w) word.Ident ≡ w) × (rank w < length words)
unfolding words
word_at word.Package = (refl, omega arith)
word_at _ = (refl, omega arith)

pub each_word : (p : Word → Bool) → all p words ≡ true → (w : Word) → p w ≡ true
each_word p h w = subst (λ v. p v ≡ true) (word_at w).0 (all_at p words word.Ident (rank w) h (word_at w).1)

pub same_word : (w : Word) → same w w ≡ true
same_word w = eq-eqb _ _ refl

pub same_is : (v w : Word) → same v w ≡ true → v ≡ w
same_is v w h = sym (word_at v).0 ∙ ap (λ n. get_or words n word.Ident) (eqb-true _ _ h) ∙ (word_at w).0

pub differs : (v w : Word) → same v w ≡ false → v ≢ w
differs v w h e = true_false (sym (eq-eqb _ _ refl) ∙ ap (λ x. same v x) e ∙ h)
