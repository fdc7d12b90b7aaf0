-- The tree of the closed front of a list of tokens, and why there is none.
use Rattle.std.specs.Prelude.{◌≡◌, ℕ, false, List, [], ◌∷◌, None, map, slice_index_or, ⊤}
use Rattle.rlc_base.specs.declared.code.Code.TheVariants as refused
use Rattle.rlc_base.specs.declared.place.Pos.{Pos}
use Rattle.rlc_base.specs.declared.faults.Refusal.{Refusal}
use Rattle.rlc_base.specs.declared.faults.Stop.{Stop}
use Rattle.rlc_base.specs.declared.faults.Stop.TheVariants as stops
use Rattle.java_syntax.specs.declared.names.Typ.{Typ}
use Rattle.java_syntax.specs.declared.symbols.Symbol.{Symbol}
use Rattle.java_syntax.specs.declared.symbols.Symbol.TheVariants as symbols
use Rattle.java_syntax.specs.Derives.{Lexeme, Step}
use Rattle.java_syntax.specs.ExpressionTrees.{ExprTree}
use Rattle.java_syntax.specs.AnnotationTrees.{AnnoTree}
use Rattle.java_grammar.specs.declared.machine.DeriveFail.TheVariants as fails
use Rattle.java_grammar.specs.Fronts.{IsClosedFront, HasNoFront}
use Rattle.java_values.specs.Values.{ValueTree, AExpression, AType, AAnnotations}
use Rattle.java_values.specs.Outcomes.{Made, TooDeep}
use Rattle.java_values.specs.Lists.{none_of}
use Rattle.java_exprs.specs.Evaluation.{evaluate}

-- The first tokens, so many of them, are the closed front of the symbol, and on this stack its derivation leaves these values in these levels, the top first.
pub record IsFrontValues (symbol : Symbol) (limit : ℕ) (start : List ValueTree) (tokens : List Lexeme) (count : ℕ) (values : List ValueTree) : Type 0 where
  pub steps : List Step
  pub front : IsClosedFront false symbol tokens count steps
  pub evaluated : evaluate limit steps None start ≡ Made values

-- The first tokens, so many of them, are the closed front of the symbol, and its derivation leaves this tree alone.
pub record IsFrontTree {A : Type 0} (shows : A → List ValueTree → Type 0) (symbol : Symbol) (limit : ℕ) (start : List ValueTree) (tokens : List Lexeme) (count : ℕ) (tree : A) : Type 0 where
  pub values : List ValueTree
  pub front : IsFrontValues symbol limit start tokens count values
  pub seen : shows tree values

abbrev pub shows_expression : ExprTree → List ValueTree → Type 0
shows_expression tree s = (depth : ℕ) × (s ≡ AExpression (record { tree = tree; depth = depth }) ∷ [])

abbrev pub shows_type : Typ → List ValueTree → Type 0
shows_type typ s = s ≡ AType typ ∷ []

abbrev pub shows_annotations : List AnnoTree → List ValueTree → Type 0
shows_annotations all s = (depth : ℕ) × (s ≡ AAnnotations (record { tree = all; depth = depth }) ∷ [])

-- an expression (JLS 15)
abbrev pub IsExpressionFront : ℕ → List Lexeme → ℕ → ExprTree → Type 0
IsExpressionFront limit tokens count tree = IsFrontTree shows_expression symbols.Expression limit [] tokens count tree

-- a type (JLS 4)
abbrev pub IsTypeFront : List Lexeme → ℕ → Typ → Type 0
IsTypeFront tokens count typ = IsFrontTree shows_type symbols.Type 128 [] tokens count typ

-- annotations (JLS 9.7); at their begin there is none
abbrev pub no_annotation : List ValueTree
no_annotation = AAnnotations (none_of AnnoTree) ∷ []

abbrev pub IsAnnotationsFront : ℕ → List Lexeme → ℕ → List AnnoTree → Type 0
IsAnnotationsFront limit tokens count all = IsFrontTree shows_annotations symbols.Annotations limit no_annotation tokens count all

-- There is no closed front, and the place is that of the first token at which no sentence of the symbol goes on, or the end's.
pub record IsWrongFront (symbol : Symbol) (tokens : List Lexeme) (end : Pos) (r : Refusal) : Type 0 where
  pub code : r.code ≡ refused.Syntax
  pub at : ℕ
  pub none : HasNoFront false symbol tokens (fails.WrongAt at)
  pub place : r.pos ≡ slice_index_or (map (λ t. t.pos) tokens) at end

-- There is a closed front, and its tree has more levels than these.
pub record IsDeepFront (symbol : Symbol) (limit : ℕ) (start : List ValueTree) (tokens : List Lexeme) (r : Refusal) : Type 0 where
  pub code : r.code ≡ refused.TooDeep
  pub count : ℕ
  pub steps : List Step
  pub front : IsClosedFront false symbol tokens count steps
  pub deep : evaluate limit steps None start ≡ TooDeep

abbrev pub IsFrontStop : Symbol → ℕ → List ValueTree → List Lexeme → Pos → Stop → Type 0
IsFrontStop symbol limit start tokens end (stops.Refused r) = IsWrongFront symbol tokens end r
IsFrontStop symbol limit start tokens end (stops.TooMuch r) = IsDeepFront symbol limit start tokens r
IsFrontStop symbol limit start tokens end stops.NoMemory = ⊤
