-- A plan for each production is found by trying what each cell may be made of.
use Rattle.std.specs.Prelude.{◌≡◌, ℕ, true, List, [], ◌∷◌, ◌++◌, Option, Some, None, is_some}
use Rattle.std.proofs.Common.{refl, sym, ◌∙◌, ap, subst, arith, append_assoc, append-nil}
use Rattle.java_syntax.specs.declared.words.Word.{Word}
use Rattle.java_syntax.specs.declared.words.Word.TheVariants as word
use Rattle.java_syntax.specs.declared.symbols.Item.{Item}
use Rattle.java_syntax.specs.declared.symbols.Item.TheVariants.{Take, Read, Do}
use Rattle.java_syntax.specs.declared.actions.Action.{Action}
use Rattle.java_syntax.specs.declared.actions.ExpressionAction.{ExpressionAction}
use Rattle.java_syntax.specs.declared.actions.Action.TheVariants as action
use Rattle.java_syntax.specs.declared.productions.Production.{Production}
use Rattle.java_syntax.specs.declared.productions.Production.TheVariants.{Declare, State, Compute}
use Rattle.java_syntax.specs.declared.productions.DeclarationProduction.{DeclarationProduction}
use Rattle.java_syntax.specs.declared.productions.DeclarationProduction.TheVariants as declaration
use Rattle.java_syntax.specs.declared.productions.StatementProduction.{StatementProduction}
use Rattle.java_syntax.specs.declared.productions.StatementProduction.TheVariants as statement
use Rattle.java_syntax.specs.declared.productions.ExpressionProduction.{ExpressionProduction}
use Rattle.java_syntax.specs.declared.productions.ExpressionProduction.TheVariants as expression
use Rattle.java_syntax.specs.Derives.{Lexeme}
use Rattle.java_syntax.specs.Table.{body_of, head_of}
use Rattle.java_values.specs.Values.{ValueTree}
use Rattle.java_exprs.specs.Evaluation.{perform}
use Rattle.reading_laws.proofs.Cells.{Cell, word', kept, Holds, a_word, no_else}
use Rattle.reading_laws.proofs.Outcomes.{IfMade, weaker}
use Rattle.reading_laws.proofs.Moves.{recell, Turns, same_turns, equal_turns, both_turn, under, Acts}
use Rattle.reading_laws.proofs.Equal.{then, same_cell}
use Rattle.reading_laws.proofs.Sources.{Source, sources}
use Rattle.reading_laws.proofs.Tables.{other_expression_takes, other_expression_leaves, takes, leaves, token_takes, action_takes, action_leaves}
use Rattle.reading_laws.proofs.Plans.{Plan, ends, takes_word, reads, does}
use Rattle.reading_laws.proofs.ActionActs.{action_acts}
use Rattle.reading_laws.proofs.ExpressionActs.{other_expression_acts}

abbrev pub or : {A : Type 0} → Option A → Option A → Option A
or None b = b
or (Some x) b = Some x

abbrev pub Stripped : List Cell → List Cell → Type 0
Stripped from cs = (rest : List Cell) × (cs ≡ from ++ rest)

pub strip_both : (c d : Cell) (from cs rest : List Cell) → c ≡ d → cs ≡ from ++ rest → d ∷ cs ≡ c ∷ from ++ rest
strip_both c d from cs rest e f = ap (λ x. x ∷ cs) (sym e) ∙ ap (λ xs. c ∷ xs) f

abbrev pub strip : (from cs : List Cell) → Option (Stripped from cs)
strip [] cs = Some (cs, refl)
strip (c ∷ from) [] = None
strip (c ∷ from) (d ∷ cs) = then (same_cell c d) (λ e. then (strip from cs) (λ r. Some (r.0, strip_both c d from cs r.0 e r.1)))

abbrev pub Turned : List Cell → List Cell → Type 0
Turned from cs = (rest : List Cell) × Turns cs (from ++ rest)

pub source_turns : (c : Cell) (s : Source c) (cs rest : List Cell) → cs ≡ s.from ++ rest → Turns cs (c ∷ s.left ++ rest)
source_turns c s cs rest e = both_turn cs (s.from ++ rest) (c ∷ s.left ++ rest) (equal_turns cs (s.from ++ rest) e) (s.turns rest)

abbrev pub by_source : (c : Cell) (cs : List Cell) (s : Source c) → Option (Stripped s.from cs) → Option (Turned (c ∷ []) cs)
by_source c cs s None = None
by_source c cs s (Some r) = Some (s.left ++ r.0, source_turns c s cs r.0 r.1)

abbrev pub try_sources : (c : Cell) (cs : List Cell) → List (Source c) → Option (Turned (c ∷ []) cs)
try_sources c cs [] = None
try_sources c cs (s ∷ ss) = or (by_source c cs s (strip s.from cs)) (try_sources c cs ss)

abbrev pub as_it_is : (c : Cell) (cs : List Cell) → Option (Stripped (c ∷ []) cs) → Option (Turned (c ∷ []) cs)
as_it_is c cs None = None
as_it_is c cs (Some r) = Some (r.0, equal_turns cs (c ∷ r.0) r.1)

abbrev pub turn_cell : (c : Cell) (cs : List Cell) → Option (Turned (c ∷ []) cs)
turn_cell c cs = or (as_it_is c cs (strip (c ∷ []) cs)) (try_sources c cs (sources c))

pub turn_more : (c : Cell) (from cs more rest : List Cell) → Turns cs (c ∷ more) → Turns more (from ++ rest) → Turns cs (c ∷ from ++ rest)
turn_more c from cs more rest t u = both_turn cs (c ∷ more) (c ∷ from ++ rest) t (under c more (from ++ rest) u)

abbrev pub turn : (from cs : List Cell) → Option (Turned from cs)
turn [] cs = Some (cs, same_turns cs)
turn (c ∷ from) cs = then (turn_cell c cs) (λ r. then (turn from r.0) (λ s. Some (s.0, turn_more c from cs r.0 s.0 r.1 s.1)))

-- actions

-- the class of the first token among the cells that is in no value yet, or that decides
abbrev pub hint : List Cell → Word
hint [] = word.Other
hint (word' w ∷ cs) = w
hint (kept w ∷ cs) = w
hint (c ∷ cs) = hint cs

abbrev pub Done : List Cell → Action → Type 0
Done cs x = (ds : List Cell) × Acts cs x ds

pub does_by : (x : Action) (w : Word) (cs rest : List Cell) → Turns cs (action_takes x w ++ rest) → Acts cs x (action_leaves x w ++ rest)
does_by x w cs rest t file ns vs l to limit h =
    weaker (perform limit x l vs) (λ ws g. recell (sym (append_assoc (action_leaves x w) rest ns)) g)
    (action_acts x w file (rest ++ ns) vs l to limit (recell (append_assoc (action_takes x w) rest ns) (t file ns vs l to h)))

abbrev pub does_at_once : (x : Action) (w : Word) (cs : List Cell) → Option (Turned (action_takes x w) cs) → Option (Done cs x)
does_at_once x w cs None = None
does_at_once x w cs (Some r) = Some (action_leaves x w ++ r.0, does_by x w cs r.0 r.1)

abbrev pub IsBlind : Action → Type 0
IsBlind (action.Token x) = ⊥
IsBlind _ = Unit {0}

blind : (limit : ℕ) (x : Action) (l m : Option Lexeme) (vs : List ValueTree) → IsBlind x → perform limit x l vs ≡ perform limit x m vs
blind limit (action.Token x) l m vs b = absurd b
blind limit (action.Compute x) l m vs b = refl
blind limit (action.Annotate x) l m vs b = refl
blind limit (action.State x) l m vs b = refl
blind limit (action.Declare x) l m vs b = refl

-- An action that doesn't look at the last token is done below tokens that are in no value yet.
pub does_below : (w : Word) (cs : List Cell) (x : Action) (ds : List Cell) → IsBlind x → Acts cs x ds → Acts (word' w ∷ cs) x (word' w ∷ ds)
does_below w cs x ds b t file ns vs m to limit (a_word {l = l} y q h) =
    weaker (perform limit x (Some y) vs) (λ ws g. a_word y q g)
    (subst (λ o. IfMade (List ValueTree) (λ ws. Holds file (ds ++ ns) ws l (y ∷ to)) o) (blind limit x l (Some y) vs b) (t file ns vs l (y ∷ to) limit h))

abbrev pub wrap : (w : Word) (cs : List Cell) (x : Action) → IsBlind x → Option (Done cs x) → Option (Done (word' w ∷ cs) x)
wrap w cs x b None = None
wrap w cs x b (Some r) = Some (word' w ∷ r.0, does_below w cs x r.0 b r.1)

abbrev pub does_somewhere : (x : Action) → IsBlind x → (cs : List Cell) → Option (Done cs x)
does_somewhere x b [] = does_at_once x (hint []) [] (turn (action_takes x (hint [])) [])
does_somewhere x b (word' w ∷ cs) = or (does_at_once x w (word' w ∷ cs) (turn (action_takes x w) (word' w ∷ cs))) (wrap w cs x b (does_somewhere x b cs))
does_somewhere x b (c ∷ cs) = does_at_once x (hint (c ∷ cs)) (c ∷ cs) (turn (action_takes x (hint (c ∷ cs))) (c ∷ cs))

pub does_otherwise : (x : ExpressionAction) (cs rest : List Cell) → Turns cs (other_expression_takes x ++ rest) → Acts cs (action.Compute x) (other_expression_leaves x ++ rest)
does_otherwise x cs rest t file ns vs l to limit h =
    weaker (perform limit (action.Compute x) l vs) (λ ws g. recell (sym (append_assoc (other_expression_leaves x) rest ns)) g)
    (other_expression_acts x file (rest ++ ns) vs l to limit (recell (append_assoc (other_expression_takes x) rest ns) (t file ns vs l to h)))

abbrev pub does_other : (x : ExpressionAction) (cs : List Cell) → Option (Turned (other_expression_takes x) cs) → Option (Done cs (action.Compute x))
does_other x cs None = None
does_other x cs (Some r) = Some (other_expression_leaves x ++ r.0, does_otherwise x cs r.0 r.1)

abbrev pub act : (x : Action) (cs : List Cell) → Option (Done cs x)
act (action.Token x) cs = does_at_once (action.Token x) (hint cs) cs (turn (token_takes x (hint cs)) cs)
act (action.Compute x) cs = or (does_somewhere (action.Compute x) tt cs) (does_other x cs (turn (other_expression_takes x) cs))
act (action.Annotate x) cs = does_somewhere (action.Annotate x) tt cs
act (action.State x) cs = does_somewhere (action.State x) tt cs
act (action.Declare x) cs = does_somewhere (action.Declare x) tt cs

-- productions

pub to_goal : (goal cs : List Cell) → Turns cs (goal ++ []) → Turns cs goal
to_goal goal cs t = both_turn cs (goal ++ []) goal t (equal_turns (goal ++ []) goal (append-nil goal))

abbrev pub at_end : (goal cs : List Cell) → Option (Turned goal cs) → Option (Plan cs [] goal)
at_end goal cs None = None
at_end goal cs (Some ([], t)) = Some (ends (to_goal goal cs t))
at_end goal cs (Some (c ∷ rest, t)) = None

abbrev pub plan : (cs : List Cell) (is : List Item) (goal : List Cell) → Option (Plan cs is goal)
plan cs [] goal = at_end goal cs (turn goal cs)
plan cs (Take w e ∷ is) goal = then (plan (word' w ∷ cs) is goal) (λ p. Some (takes_word p))
plan cs (Read x ∷ is) goal = then (turn (takes x) cs) (λ r. then (plan (leaves x ++ r.0) is goal) (λ p. Some (reads r.0 r.1 p)))
plan cs (Do x ∷ is) goal = then (act x cs) (λ r. then (plan r.0 is goal) (λ p. Some (does r.0 r.1 p)))

-- where an `if` has no `else`, none stands behind it
abbrev pub entry : Production → List Cell
entry (State statement.NoElse) = no_else ∷ []
entry _ = []

declaration_fits : (p : DeclarationProduction) → is_some (plan (entry (Declare p) ++ takes (head_of (Declare p))) (body_of (Declare p)) (leaves (head_of (Declare p)))) ≡ true
declaration_fits declaration.UnitOf = refl
declaration_fits _ = refl

statement_fits : (p : StatementProduction) → is_some (plan (entry (State p) ++ takes (head_of (State p))) (body_of (State p)) (leaves (head_of (State p)))) ≡ true
statement_fits statement.BlockOf = refl
statement_fits _ = refl

expression_fits : (p : ExpressionProduction) → is_some (plan (entry (Compute p) ++ takes (head_of (Compute p))) (body_of (Compute p)) (leaves (head_of (Compute p)))) ≡ true
expression_fits expression.NameExpression = refl
expression_fits _ = refl

fits : (p : Production) → is_some (plan (entry p ++ takes (head_of p)) (body_of p) (leaves (head_of p))) ≡ true
fits (Declare p) = declaration_fits p
fits (State p) = statement_fits p
fits (Compute p) = expression_fits p

found : {A : Type 0} (o : Option A) → is_some o ≡ true → A
found None h = let e : ⊥ = grind arith in absurd e
found (Some x) h = x

pub plan_of : (p : Production) → Plan (entry p ++ takes (head_of p)) (body_of p) (leaves (head_of p))
plan_of p = found (plan (entry p ++ takes (head_of p)) (body_of p) (leaves (head_of p))) (fits p)
