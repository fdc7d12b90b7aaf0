-- The tree of a file, and why there is none.
use Rattle.std.specs.Prelude.{◌≡◌, ℕ, Bool, true, false, List, [], ◌∷◌, None, map, slice_index_or}
use Rattle.rlc_base.specs.declared.code.Code.TheVariants as refused
use Rattle.rlc_base.specs.declared.place.Pos.{Pos}
use Rattle.rlc_base.specs.declared.faults.Refusal.{Refusal}
use Rattle.rlc_base.specs.declared.faults.Stop.{Stop}
use Rattle.rlc_base.specs.declared.faults.Stop.TheVariants as stops
use Rattle.java_syntax.specs.declared.tokens.Token.{Token}
use Rattle.java_syntax.specs.declared.symbols.Symbol.{Symbol}
use Rattle.java_syntax.specs.declared.symbols.Symbol.TheVariants as symbols
use Rattle.java_syntax.specs.Derives.{Lexeme, lexeme_of, Step}
use Rattle.java_syntax.specs.DeclarationTrees.{UnitTree}
use Rattle.java_grammar.specs.Refusal.{IsDerivation, IsWrongAt}
use Rattle.java_values.specs.Values.{ValueTree, AUnit, AUnits}
use Rattle.java_values.specs.Outcomes.{Made, TooDeep}
use Rattle.java_exprs.specs.Evaluation.{evaluate}

-- The tokens are derived from the symbol, in a stub file or a source file, and this is what their derivation leaves in 128 levels.
pub record IsFileValues (stub : Bool) (symbol : Symbol) (tokens : List Lexeme) (values : List ValueTree) : Type 0 where
  pub steps : List Step
  pub derivation : IsDerivation stub symbol tokens steps
  pub evaluated : evaluate 128 steps None [] ≡ Made values

-- the tree of a source file with these tokens (JLS 7.3)
abbrev pub IsUnitTree : List Lexeme → UnitTree → Type 0
IsUnitTree tokens tree = IsFileValues false symbols.CompilationUnit tokens (AUnit tree ∷ [])

-- the sections of a stub file with these tokens
abbrev pub IsStubTree : List Lexeme → List UnitTree → Type 0
IsStubTree tokens trees = IsFileValues true symbols.StubFile tokens (AUnits trees ∷ [])

-- There is no derivation, and the place is that of the first token at which no sentence of the symbol goes on, or the end's.
pub record IsWrongFile (stub : Bool) (symbol : Symbol) (tokens : List Lexeme) (end : Pos) (r : Refusal) : Type 0 where
  pub code : r.code ≡ refused.Syntax
  pub at : ℕ
  pub wrong : IsWrongAt stub symbol tokens at
  pub place : r.pos ≡ slice_index_or (map (λ t. t.pos) tokens) at end

-- There is a derivation, and each leaves a tree of more than 128 levels.
pub record IsDeepFile (stub : Bool) (symbol : Symbol) (tokens : List Lexeme) (r : Refusal) : Type 0 where
  pub code : r.code ≡ refused.TooDeep
  pub steps : List Step
  pub derivation : IsDerivation stub symbol tokens steps
  pub deep : (es : List Step) → IsDerivation stub symbol tokens es → evaluate 128 es None [] ≡ TooDeep

abbrev pub IsFileStop : Bool → Symbol → List Lexeme → Pos → Stop → Type 0
IsFileStop stub symbol tokens end (stops.Refused r) = IsWrongFile stub symbol tokens end r
IsFileStop stub symbol tokens end (stops.TooMuch r) = IsDeepFile stub symbol tokens r
IsFileStop stub symbol tokens end stops.NoMemory = Unit {0}

-- no source file has these tokens, unless memory ran out
abbrev pub HasNoUnit : List Lexeme → Stop → Type 0
HasNoUnit tokens stops.NoMemory = Unit {0}
HasNoUnit tokens stop = (tree : UnitTree) → IsUnitTree tokens tree → ⊥

-- no stub file has these tokens, unless memory ran out
abbrev pub HasNoStub : List Lexeme → Stop → Type 0
HasNoStub tokens stops.NoMemory = Unit {0}
HasNoStub tokens stop = (trees : List UnitTree) → IsStubTree tokens trees → ⊥

-- what the grammar sees of the tokens of a file with these bytes
abbrev pub lexemes : List ℕ → List Token → List Lexeme
lexemes bytes tokens = map (lexeme_of bytes) tokens
