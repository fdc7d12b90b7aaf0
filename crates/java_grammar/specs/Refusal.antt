-- Where a list of tokens is wrong.
use Rattle.std.specs.Prelude.{length, ◌≡◌, ℕ, Bool, List, [], ◌∷◌, ◌++◌}
use Rattle.java_syntax.specs.declared.symbols.Symbol.{Symbol}
use Rattle.java_syntax.specs.declared.symbols.Item.TheVariants.{Read}
use Rattle.java_syntax.specs.Derives.{Lexeme, at_start, first_word, Step, Derives}
use Rattle.java_grammar.specs.declared.machine.DeriveFail.{DeriveFail}
use Rattle.java_grammar.specs.declared.machine.DeriveFail.TheVariants as fails

-- The steps are a derivation of the tokens from the symbol, in a stub file or a source file.
abbrev pub IsDerivation : Bool → Symbol → List Lexeme → List Step → Type 0
IsDerivation stub start tokens steps = Derives (at_start stub) (Read start ∷ []) tokens steps

-- The token of this number, or the end, is wrong: some sentence begins with the tokens before it, and none goes on with its word.
pub record IsWrongAt (stub : Bool) (start : Symbol) (tokens : List Lexeme) (at : ℕ) : Type 0 where
  pub used : List Lexeme
  pub rest : List Lexeme
  pub parts : tokens ≡ used ++ rest
  pub place : length used ≡ at
  pub goes_on : (ts : List Lexeme) × (es : List Step) × IsDerivation stub start (used ++ ts) es
  pub wrong : (ts : List Lexeme) (es : List Step) → first_word ts ≡ first_word rest → IsDerivation stub start (used ++ ts) es → ⊥

abbrev pub IsRefusal : Bool → Symbol → List Lexeme → DeriveFail → Type 0
IsRefusal stub start tokens (fails.WrongAt at) = IsWrongAt stub start tokens at
IsRefusal stub start tokens fails.NoMemory = Unit {0}
