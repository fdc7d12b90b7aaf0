-- The ways of a control: none of them calls, or all take one action.
use Rattle.std.proofs.Common.{◌≡◌, ◌⊎◌, inl, inr, ℕ, zero, suc, ◌+◌, Bool, true, false, Option, Some, None, List, [], ◌∷◌, map, slice_get, option_map, refl, sym, ap, ◌∙◌, true≢false, if◌then◌else◌}
use Rattle.std.proofs.lemmas.Option.{slice_get-map}
use Rattle.program_model.specs.declared.kinds.BodyId.{BodyId}
use Rattle.program_model.specs.declared.kinds.ClassId.{ClassId}
use Rattle.program_model.specs.declared.kinds.ExprId.{ExprId}
use Rattle.program_model.specs.declared.kinds.StmtId.{StmtId}
use Rattle.program_model.specs.declared.program.Program.{Program}
use Rattle.program_model.specs.declared.tree.Body.{Body}
use Rattle.program_model.specs.declared.tree.CatchClause.{CatchClause}
use Rattle.program_model.specs.declared.tree.TExpr.{TExpr}
use Rattle.program_model.specs.declared.tree.TStmt.{TStmt}
use Rattle.program_model.specs.Lookups.{body_at, expression_at, statement_at}
use Rattle.rlc_base.specs.declared.place.Pos.{Pos}
use Rattle.java_control.specs.Completions.{at_catch, at_loop, at_supp, ends, out}
use Rattle.java_control.specs.Control.{Step, control_place, expression_ways, for_ways, loop_ways, next_of, statement_ways, step_at, steps_in, ways}
use Rattle.java_control.specs.Exceptions.{action_ways, caught, clauses_in, enters, exceptions_of, may_take, takes_wholly, throws}
use Rattle.java_control.specs.Remaining.{Todo, Do, Ev, Act, NullFork, BoolFork, LoopEnd, For, Catch, Supp, Out, Ended, Way}
use Rattle.control_actions.specs.declared.action.Action.{Action}
use Rattle.control_actions.specs.declared.action.Action.TheVariants as actions
use Rattle.control_actions.specs.declared.action.Completion.{Completion}
use Rattle.control_actions.specs.declared.action.Completion.TheVariants as completions
use Rattle.step_laws.specs.Calling.{may_call}

abbrev pub AllTake : Action → List Way → Type 0
AllTake a [] = Unit {0}
AllTake a (w ∷ ws) = (w.action ≡ a) × AllTake a ws

abbrev pub AllAreQuiet : List Way → Type 0
AllAreQuiet [] = Unit {0}
AllAreQuiet (w ∷ ws) = (may_call w.action ≡ false) × AllAreQuiet ws

abbrev pub IsOne : List Way → Type 0
IsOne ws = AllAreQuiet ws ⊎ ((a : Action) × AllTake a ws)

takes : (a : Action) (ws : List Way) (i : ℕ) (w : Way) → AllTake a ws → slice_get ws i ≡ Some w → w.action ≡ a
takes a [] i w all at = absurd (no_way i w at)
  where
    no_way : (i : ℕ) (w : Way) → slice_get [] i ≡ Some w → ⊥
    no_way zero w is = let never : None ≡ Some w = is in cc
    no_way (suc i) w is = let never : None ≡ Some w = is in cc
takes a (v ∷ ws) zero w all at = let same : v ≡ w = (let both : Some v ≡ Some w = at in cc) in ap (λ (x : Way). x.action) (sym same) ∙ all.0
takes a (v ∷ ws) (suc i) w all at = takes a ws i w all.1 at

is_quiet : (ws : List Way) (i : ℕ) (w : Way) → AllAreQuiet ws → slice_get ws i ≡ Some w → may_call w.action ≡ false
is_quiet [] i w all at = absurd (no_way i w at)
  where
    no_way : (i : ℕ) (w : Way) → slice_get [] i ≡ Some w → ⊥
    no_way zero w is = let never : None ≡ Some w = is in cc
    no_way (suc i) w is = let never : None ≡ Some w = is in cc
is_quiet (v ∷ ws) zero w all at = let same : v ≡ w = (let both : Some v ≡ Some w = at in cc) in ap (λ (x : Way). may_call x.action) (sym same) ∙ all.0
is_quiet (v ∷ ws) (suc i) w all at = is_quiet ws i w all.1 at

no_ways : IsOne []
no_ways = inl tt

-- ---- the ways of each item

all_throw : (a : Action) (pos : Pos) (k : List Todo) (cs : List ClassId) → AllTake a (map (throws a pos k) cs)
all_throw a pos k [] = tt
all_throw a pos k (c ∷ cs) = (refl, all_throw a pos k cs)

all_act : (p : Program) (a : Action) (pos : Pos) (k : List Todo) → AllTake a (action_ways p a pos k)
all_act p actions.Skip pos k = (refl, all_throw actions.Skip pos k (exceptions_of p actions.Skip))
all_act p (actions.Raise d c) pos k = all_throw (actions.Raise d c) pos k (exceptions_of p (actions.Raise d c))
all_act p a pos k = (refl, all_throw a pos k (exceptions_of p a))

quiet_catches : (p : Program) (body : Body) (s : StmtId) (i : ℕ) (xs : List CatchClause) (b d : ℕ) (t : ClassId) (pos : Pos) (k : List Todo) → AllAreQuiet (caught p body s i xs b d t pos k)
quiet_catches p body s i [] b d t pos k = (refl, tt)
quiet_catches p body s i (x ∷ xs) b d t pos k = go (takes_wholly p t x) (may_take p t x) (quiet_catches p body s (i + 1) xs b d t pos k)
  where
    go : (y z : Bool) → AllAreQuiet (caught p body s (i + 1) xs b d t pos k)
        → AllAreQuiet (if y then enters body s i b d x k ∷ [] else (if z then enters body s i b d x k ∷ caught p body s (i + 1) xs b d t pos k else caught p body s (i + 1) xs b d t pos k))
    go true z rest = (refl, tt)
    go false true rest = (refl, rest)
    go false false rest = rest

one_statement : (b : Body) (s : StmtId) (d : ℕ) (x : Option TStmt) (k : List Todo) → IsOne (statement_ways b s d x k)
one_statement b s d None k = no_ways
one_statement b s d (Some x) k = inl (refl, tt)

one_expression : (p : Program) (b : Body) (e : ExprId) (d : ℕ) (x : Option TExpr) (k : List Todo) → IsOne (expression_ways p b e d x k)
one_expression p b e d None k = no_ways
one_expression p b e d (Some x) k = inl (refl, tt)

one_loop : (b : Body) (w : StmtId) (d : ℕ) (x : Option TStmt) (k : List Todo) → IsOne (loop_ways b w d x k)
one_loop b w d None k = no_ways
one_loop b w d (Some x) k = inl (refl, tt)

one_for : (w : StmtId) (d : ℕ) (x : Option TStmt) (k : List Todo) → IsOne (for_ways w d x k)
one_for w d None k = no_ways
one_for w d (Some x) k = inl (refl, tt)

one_end : (c : Completion) → IsOne (ends c)
one_end (completions.Break pos) = no_ways
one_end (completions.Continue pos) = no_ways
one_end c = inl (refl, tt)

one_at_loop : (c : Completion) (w : StmtId) (d : ℕ) (k : List Todo) → IsOne (at_loop c w d k)
one_at_loop (completions.Break pos) w d k = inl (refl, tt)
one_at_loop c w d k = inl (refl, tt)

one_at_catch : (c : Completion) (p : Program) (body : Body) (s : StmtId) (b : ℕ) (k : List Todo) → IsOne (at_catch c p body s b k)
one_at_catch (completions.Break pos) p body s b k = inl (refl, tt)
one_at_catch (completions.Throw d t pos) p body s b k = inl (quiet_catches p body s 0 (clauses_in (statement_at body s)) b d t pos k)
one_at_catch c p body s b k = inl (refl, tt)

one_at_supp : (waiting c : Completion) (b : ℕ) (k : List Todo) → IsOne (at_supp waiting c b k)
one_at_supp (completions.Break pos) c b k = inl (refl, tt)
one_at_supp waiting c b k = inl (refl, tt)

one_out : (p : Program) (body : Body) (c : Completion) (k : List Todo) → IsOne (out p body c k)
one_out p body c [] = one_end c
one_out p body c (LoopEnd w d ∷ k) = one_at_loop c w d k
one_out p body c (Catch s b ∷ k) = one_at_catch c p body s b k
one_out p body c (Supp waiting b s ∷ k) = one_at_supp waiting c b k
one_out p body c (x ∷ k) = inl (refl, tt)

one : (p : Program) (b : Body) (control : List Todo) → IsOne (ways p b control)
one p b [] = inl (refl, tt)
one p b (Do s d ∷ k) = one_statement b s d (statement_at b s) k
one p b (Ev e d ∷ k) = one_expression p b e d (expression_at b e) k
one p b (Act a pos ∷ k) = inr (a, all_act p a pos k)
one p b (NullFork pos d x y ∷ k) = inl (refl, (refl, tt))
one p b (BoolFork pos d x y ∷ k) = inl (refl, (refl, tt))
one p b (LoopEnd w d ∷ k) = one_loop b w d (statement_at b w) k
one p b (For w d ∷ k) = one_for w d (statement_at b w) k
one p b (Out c ∷ k) = one_out p b c k
one p b (Ended ∷ k) = no_ways
one p b (x ∷ k) = inl (refl, tt)

-- ---- steps

way_of_step : (pos : Pos) (ws : List Way) (i : ℕ) (t : Step) → slice_get (map (step_at pos) ws) i ≡ Some t → (w : Way) × (slice_get ws i ≡ Some w) × (w.action ≡ t.action)
way_of_step pos ws i t at = go (slice_get ws i) refl (sym (slice_get-map (step_at pos) ws i) ∙ at)
  where
    go : (w : Option Way) → slice_get ws i ≡ w → option_map (step_at pos) w ≡ Some t → (w : Way) × (slice_get ws i ≡ Some w) × (w.action ≡ t.action)
    go None before same = absurd (let never : None ≡ Some t = same in cc)
    go (Some w) before same = (w, before, (let both : step_at pos w ≡ t = cc in ap (λ (s : Step). s.action) both))

one_of_ways : (ws : List Way) (i j : ℕ) (v w : Way) → IsOne ws → slice_get ws i ≡ Some v → slice_get ws j ≡ Some w → may_call v.action ≡ true → w.action ≡ v.action
one_of_ways ws i j v w (inl all) at there call = absurd (true≢false (sym call ∙ is_quiet ws i v all at))
one_of_ways ws i j v w (inr (a, all)) at there call = takes a ws j w all there ∙ sym (takes a ws i v all at)

by_body : (p : Program) (body : Option Body) (control : List Todo) (i j : ℕ) (t u : Step) → slice_get (steps_in p body control) i ≡ Some t → slice_get (steps_in p body control) j ≡ Some u
    → may_call t.action ≡ true → u.action ≡ t.action
by_body p None control i j t u at there call = absurd (nothing i t at)
  where
    nothing : (i : ℕ) (t : Step) → slice_get [] i ≡ Some t → ⊥
    nothing zero t is = let never : None ≡ Some t = is in cc
    nothing (suc i) t is = let never : None ≡ Some t = is in cc
by_body p (Some b) control i j t u at there call =
    let v = way_of_step (control_place b control) (ways p b control) i t at in
    let w = way_of_step (control_place b control) (ways p b control) j u there in
    sym w.2 ∙ one_of_ways (ways p b control) i j v.0 w.0 (one p b control) v.1 w.1 (ap may_call v.2 ∙ call) ∙ v.2

pub one_action : (p : Program) (b : BodyId) (control : List Todo) (i j : ℕ) (t u : Step) → slice_get (next_of p b control) i ≡ Some t → slice_get (next_of p b control) j ≡ Some u
    → may_call t.action ≡ true → u.action ≡ t.action
unfolding next_of
one_action p b control i j t u at there call = by_body p (body_at p b) control i j t u at there call
