-- What stands first at a control: its steps are all of that action, or none of them is an operation that throws.
use Rattle.std.proofs.Common.{◌≡◌, ℕ, zero, suc, ◌+◌, Bool, true, false, Option, Some, None, List, [], ◌∷◌, map, slice_get, option_map, refl, sym, ap, ◌∙◌, if◌then◌else◌}
use Rattle.std.proofs.lemmas.Option.{slice_get-map}
use Rattle.program_model.specs.declared.kinds.BodyId.{BodyId}
use Rattle.program_model.specs.declared.kinds.ClassId.{ClassId}
use Rattle.program_model.specs.declared.kinds.ExprId.{ExprId}
use Rattle.program_model.specs.declared.kinds.StmtId.{StmtId}
use Rattle.program_model.specs.declared.program.Program.{Program}
use Rattle.program_model.specs.declared.tree.Body.{Body}
use Rattle.program_model.specs.declared.tree.CatchClause.{CatchClause}
use Rattle.program_model.specs.declared.tree.TExpr.{TExpr}
use Rattle.program_model.specs.declared.tree.TStmt.{TStmt}
use Rattle.program_model.specs.Lookups.{body_at, expression_at, statement_at}
use Rattle.rlc_base.specs.declared.place.Pos.{Pos}
use Rattle.java_control.specs.Completions.{at_catch, at_loop, at_supp, ends, out}
use Rattle.java_control.specs.Control.{Step, control_place, expression_ways, for_ways, loop_ways, next_of, statement_ways, step_at, steps_in, ways}
use Rattle.java_control.specs.Exceptions.{action_ways, caught, clauses_in, enters, exceptions_of, may_take, takes_wholly, throws}
use Rattle.java_control.specs.Remaining.{Todo, Do, Ev, Act, NullFork, BoolFork, LoopEnd, For, Catch, Supp, Out, Ended, Way}
use Rattle.control_actions.specs.declared.action.Action.{Action}
use Rattle.control_actions.specs.declared.action.Action.TheVariants as actions
use Rattle.control_actions.specs.declared.action.Completion.{Completion}
use Rattle.control_actions.specs.declared.action.Completion.TheVariants as completions
use Rattle.ledger_state.specs.Contents.{HeapContents}
use Rattle.ledger_state.specs.declared.array.ArrayObject.{ArrayObject}
use Rattle.ledger_state.specs.declared.locals.Locals.{Locals}
use Rattle.ledger_moves.specs.Operations.{thrown_by_operation}
use Rattle.ledger_moves.specs.declared.standing.FirstAction.{FirstAction}
use Rattle.ledger_moves.specs.Moves.{standing}

-- the action is an operation that may throw
abbrev pub may_throw : Action → Bool
may_throw (actions.Op k d n) = true
may_throw (actions.Get f d this) = true
may_throw (actions.Put f d this) = true
may_throw (actions.Cast t d) = true
may_throw (actions.Raise d c) = true
may_throw a = false

abbrev AllTake : Action → List Way → Type 0
AllTake a [] = Unit {0}
AllTake a (w ∷ ws) = (w.action ≡ a) × AllTake a ws

abbrev NoneThrows : List Way → Type 0
NoneThrows [] = Unit {0}
NoneThrows (w ∷ ws) = (may_throw w.action ≡ false) × NoneThrows ws

abbrev IsFirst : Option FirstAction → List Way → Type 0
IsFirst None ws = NoneThrows ws
IsFirst (Some a) ws = AllTake a.action ws

no_way : (i : ℕ) (w : Way) → slice_get [] i ≡ Some w → ⊥
no_way zero w is = let never : None ≡ Some w = is in cc
no_way (suc i) w is = let never : None ≡ Some w = is in cc

takes : (a : Action) (ws : List Way) (i : ℕ) (w : Way) → AllTake a ws → slice_get ws i ≡ Some w → w.action ≡ a
takes a [] i w all at = absurd (no_way i w at)
takes a (v ∷ ws) zero w all at = let same : v ≡ w = (let both : Some v ≡ Some w = at in cc) in ap (λ (x : Way). x.action) (sym same) ∙ all.0
takes a (v ∷ ws) (suc i) w all at = takes a ws i w all.1 at

throws_not : (ws : List Way) (i : ℕ) (w : Way) → NoneThrows ws → slice_get ws i ≡ Some w → may_throw w.action ≡ false
throws_not [] i w all at = absurd (no_way i w at)
throws_not (v ∷ ws) zero w all at = let same : v ≡ w = (let both : Some v ≡ Some w = at in cc) in ap (λ (x : Way). may_throw x.action) (sym same) ∙ all.0
throws_not (v ∷ ws) (suc i) w all at = throws_not ws i w all.1 at

-- ---- the ways of each item

all_throw : (a : Action) (pos : Pos) (k : List Todo) (cs : List ClassId) → AllTake a (map (throws a pos k) cs)
all_throw a pos k [] = tt
all_throw a pos k (c ∷ cs) = (refl, all_throw a pos k cs)

all_act : (p : Program) (a : Action) (pos : Pos) (k : List Todo) → AllTake a (action_ways p a pos k)
all_act p actions.Skip pos k = (refl, all_throw actions.Skip pos k (exceptions_of p actions.Skip))
all_act p (actions.Raise d c) pos k = all_throw (actions.Raise d c) pos k (exceptions_of p (actions.Raise d c))
all_act p a pos k = (refl, all_throw a pos k (exceptions_of p a))

quiet_catches : (p : Program) (body : Body) (s : StmtId) (i : ℕ) (xs : List CatchClause) (b d : ℕ) (t : ClassId) (pos : Pos) (k : List Todo) → NoneThrows (caught p body s i xs b d t pos k)
quiet_catches p body s i [] b d t pos k = (refl, tt)
quiet_catches p body s i (x ∷ xs) b d t pos k = go (takes_wholly p t x) (may_take p t x) (quiet_catches p body s (i + 1) xs b d t pos k)
  where
    go : (y z : Bool) → NoneThrows (caught p body s (i + 1) xs b d t pos k)
        → NoneThrows (if y then enters body s i b d x k ∷ [] else (if z then enters body s i b d x k ∷ caught p body s (i + 1) xs b d t pos k else caught p body s (i + 1) xs b d t pos k))
    go true z rest = (refl, tt)
    go false true rest = (refl, rest)
    go false false rest = rest

quiet_statement : (b : Body) (s : StmtId) (d : ℕ) (x : Option TStmt) (k : List Todo) → NoneThrows (statement_ways b s d x k)
quiet_statement b s d None k = tt
quiet_statement b s d (Some x) k = (refl, tt)

quiet_expression : (p : Program) (b : Body) (e : ExprId) (d : ℕ) (x : Option TExpr) (k : List Todo) → NoneThrows (expression_ways p b e d x k)
quiet_expression p b e d None k = tt
quiet_expression p b e d (Some x) k = (refl, tt)

quiet_loop : (b : Body) (w : StmtId) (d : ℕ) (x : Option TStmt) (k : List Todo) → NoneThrows (loop_ways b w d x k)
quiet_loop b w d None k = tt
quiet_loop b w d (Some x) k = (refl, tt)

quiet_for : (w : StmtId) (d : ℕ) (x : Option TStmt) (k : List Todo) → NoneThrows (for_ways w d x k)
quiet_for w d None k = tt
quiet_for w d (Some x) k = (refl, tt)

quiet_end : (c : Completion) → NoneThrows (ends c)
quiet_end (completions.Break pos) = tt
quiet_end (completions.Continue pos) = tt
quiet_end c = (refl, tt)

quiet_at_loop : (c : Completion) (w : StmtId) (d : ℕ) (k : List Todo) → NoneThrows (at_loop c w d k)
quiet_at_loop (completions.Break pos) w d k = (refl, tt)
quiet_at_loop c w d k = (refl, tt)

quiet_at_catch : (c : Completion) (p : Program) (body : Body) (s : StmtId) (b : ℕ) (k : List Todo) → NoneThrows (at_catch c p body s b k)
quiet_at_catch (completions.Break pos) p body s b k = (refl, tt)
quiet_at_catch (completions.Throw d t pos) p body s b k = quiet_catches p body s 0 (clauses_in (statement_at body s)) b d t pos k
quiet_at_catch c p body s b k = (refl, tt)

quiet_at_supp : (waiting c : Completion) (b : ℕ) (k : List Todo) → NoneThrows (at_supp waiting c b k)
quiet_at_supp (completions.Break pos) c b k = (refl, tt)
quiet_at_supp waiting c b k = (refl, tt)

quiet_out : (p : Program) (body : Body) (c : Completion) (k : List Todo) → NoneThrows (out p body c k)
quiet_out p body c [] = quiet_end c
quiet_out p body c (LoopEnd w d ∷ k) = quiet_at_loop c w d k
quiet_out p body c (Catch s b ∷ k) = quiet_at_catch c p body s b k
quiet_out p body c (Supp waiting b s ∷ k) = quiet_at_supp waiting c b k
quiet_out p body c (x ∷ k) = (refl, tt)

first : (p : Program) (b : Body) (control : List Todo) → IsFirst (standing (slice_get control 0)) (ways p b control)
first p b [] = (refl, tt)
first p b (Do s d ∷ k) = quiet_statement b s d (statement_at b s) k
first p b (Ev e d ∷ k) = quiet_expression p b e d (expression_at b e) k
first p b (Act a pos ∷ k) = all_act p a pos k
first p b (NullFork pos d x y ∷ k) = (refl, (refl, tt))
first p b (BoolFork pos d x y ∷ k) = (refl, (refl, tt))
first p b (LoopEnd w d ∷ k) = quiet_loop b w d (statement_at b w) k
first p b (For w d ∷ k) = quiet_for w d (statement_at b w) k
first p b (Out c ∷ k) = quiet_out p b c k
first p b (Ended ∷ k) = tt
first p b (x ∷ k) = (refl, tt)

-- ---- steps

way_of_step : (pos : Pos) (ws : List Way) (i : ℕ) (t : Step) → slice_get (map (step_at pos) ws) i ≡ Some t → (w : Way) × (slice_get ws i ≡ Some w) × (w.action ≡ t.action)
way_of_step pos ws i t at = go (slice_get ws i) refl (sym (slice_get-map (step_at pos) ws i) ∙ at)
  where
    go : (w : Option Way) → slice_get ws i ≡ w → option_map (step_at pos) w ≡ Some t → (w : Way) × (slice_get ws i ≡ Some w) × (w.action ≡ t.action)
    go None before same = absurd (let never : None ≡ Some t = same in cc)
    go (Some w) before same = (w, before, (let both : step_at pos w ≡ t = cc in ap (λ (s : Step). s.action) both))

abbrev pub IsAfterFirst : Option FirstAction → Action → Type 0
IsAfterFirst None a = may_throw a ≡ false
IsAfterFirst (Some b) a = a ≡ b.action

by_ways : (x : Option FirstAction) (ws : List Way) (i : ℕ) (w : Way) (a : Action) → IsFirst x ws → slice_get ws i ≡ Some w → w.action ≡ a → IsAfterFirst x a
by_ways None ws i w a all at same = ap may_throw (sym same) ∙ throws_not ws i w all at
by_ways (Some b) ws i w a all at same = sym same ∙ takes b.action ws i w all at

by_body : (p : Program) (body : Option Body) (control : List Todo) (i : ℕ) (t : Step) → slice_get (steps_in p body control) i ≡ Some t → IsAfterFirst (standing (slice_get control 0)) t.action
by_body p None control i t at = absurd (nothing i t at)
  where
    nothing : (i : ℕ) (t : Step) → slice_get [] i ≡ Some t → ⊥
    nothing zero t is = let never : None ≡ Some t = is in cc
    nothing (suc i) t is = let never : None ≡ Some t = is in cc
by_body p (Some b) control i t at =
    let w = way_of_step (control_place b control) (ways p b control) i t at in
    by_ways (standing (slice_get control 0)) (ways p b control) i w.0 t.action (first p b control) w.1 w.2

-- where an action stands first, each step takes it
pub step_after_first : (p : Program) (b : BodyId) (control : List Todo) (i : ℕ) (t : Step) → slice_get (next_of p b control) i ≡ Some t → IsAfterFirst (standing (slice_get control 0)) t.action
unfolding next_of
step_after_first p b control i t at = by_body p (body_at p b) control i t at

-- what is no operation that throws throws nothing
pub throws_nothing : (p : Program) (h : HeapContents) (arrays : List ArrayObject) (l : Locals) (a : Action) → may_throw a ≡ false → thrown_by_operation p h arrays l a ≡ None
throws_nothing p h arrays l actions.Skip is = refl
throws_nothing p h arrays l (actions.Op k d n) is = absurd (let never : true ≡ false = is in cc)
throws_nothing p h arrays l (actions.Get f d this) is = absurd (let never : true ≡ false = is in cc)
throws_nothing p h arrays l (actions.Put f d this) is = absurd (let never : true ≡ false = is in cc)
throws_nothing p h arrays l (actions.Cast t d) is = absurd (let never : true ≡ false = is in cc)
throws_nothing p h arrays l (actions.Raise d c) is = absurd (let never : true ≡ false = is in cc)
throws_nothing p h arrays l a is = refl
