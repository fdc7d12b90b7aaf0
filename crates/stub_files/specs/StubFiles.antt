-- The sections of a stub file, and why a file has none.
use Rattle.std.specs.Prelude.{◌≡◌, ℕ, true, List}
use Rattle.rlc_base.specs.declared.faults.Stop.{Stop}
use Rattle.java_syntax.specs.declared.tokens.Token.{Token}
use Rattle.java_syntax.specs.declared.symbols.Symbol.TheVariants as symbols
use Rattle.java_syntax.specs.DeclarationTrees.{UnitTree}
use Rattle.java_lexer.specs.Cut.{IsCut, IsStopAt, HasNoCut, place_behind}
use Rattle.java_parser.specs.FileTrees.{IsStubTree, IsFileStop, HasNoStub, lexemes}

-- the bytes of the file are cut into tokens, which are those of a stub file with these sections
pub record IsStubOf (file : ℕ) (bytes : List ℕ) (sections : List UnitTree) : Type 0 where
  pub tokens : List Token
  pub cut : IsCut file bytes tokens
  pub stub : IsStubTree (lexemes bytes tokens) sections

-- the tokens are those of no stub file, and this stop says where the first of them stands at which none goes on, or that one is
-- too deep
pub record IsSectionless (file : ℕ) (bytes : List ℕ) (tokens : List Token) (stop : Stop) : Type 0 where
  pub stopped : IsFileStop true symbols.StubFile (lexemes bytes tokens) (place_behind file bytes) stop
  pub no_stub : HasNoStub (lexemes bytes tokens) stop

-- the bytes are no stub file: they have no cut into tokens, or the tokens are those of none
pub data IsStubStop (file : ℕ) (bytes : List ℕ) (stop : Stop) : Type 0 where
  no_cut : IsStopAt file bytes stop → HasNoCut file bytes stop → IsStubStop file bytes stop
  no_stub : (tokens : List Token) → IsCut file bytes tokens → IsSectionless file bytes tokens stop → IsStubStop file bytes stop
