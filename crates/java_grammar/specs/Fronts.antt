-- The closed front of a list of tokens: the longest sentence that no sentence goes on from there.
use Rattle.std.specs.Prelude.{length, ◌≡◌, ℕ, Bool, List, ◌∷◌, ◌++◌}
use Rattle.java_syntax.specs.declared.symbols.Symbol.{Symbol}
use Rattle.java_syntax.specs.Derives.{Lexeme, Step}
use Rattle.java_grammar.specs.declared.machine.DeriveFail.{DeriveFail}
use Rattle.java_grammar.specs.declared.machine.DeriveFail.TheVariants as fails
use Rattle.java_grammar.specs.Refusal.{IsDerivation, IsWrongAt}

-- The first tokens, so many of them, are a sentence of the symbol, by these steps, and no sentence begins with them and the next token.
pub record IsClosedFront (stub : Bool) (start : Symbol) (tokens : List Lexeme) (count : ℕ) (steps : List Step) : Type 0 where
  pub used : List Lexeme
  pub rest : List Lexeme
  pub parts : tokens ≡ used ++ rest
  pub place : length used ≡ count
  pub derived : IsDerivation stub start used steps
  pub closed : (t : Lexeme) (behind ts : List Lexeme) (es : List Step) → rest ≡ t ∷ behind → IsDerivation stub start (used ++ t ∷ ts) es → ⊥

-- There is no closed front, and the token of this number, or the end, is the first at which no sentence goes on.
abbrev pub HasNoFront : Bool → Symbol → List Lexeme → DeriveFail → Type 0
HasNoFront stub start tokens (fails.WrongAt at) = IsWrongAt stub start tokens at × ((count : ℕ) (steps : List Step) → IsClosedFront stub start tokens count steps → ⊥)
HasNoFront stub start tokens fails.NoMemory = Unit {0}
