-- Each step of a control that finds `this` leaves one that does.
use Rattle.std.proofs.Common.{append-nil, ◌≡◌, ℕ, zero, suc, ◌+◌, Bool, true, false, Option, Some, None, List, [], ◌∷◌, ◌++◌, map, slice_get, option_map, refl, sym, ap, ◌∙◌, subst, if◌then◌else◌}
use Rattle.std.proofs.lemmas.Option.{slice_get-map}
use Rattle.program_model.specs.declared.kinds.BodyId.{BodyId}
use Rattle.program_model.specs.declared.kinds.ClassId.{ClassId}
use Rattle.program_model.specs.declared.kinds.ExprId.{ExprId}
use Rattle.program_model.specs.declared.kinds.StmtId.{StmtId}
use Rattle.program_model.specs.declared.program.Program.{Program}
use Rattle.program_model.specs.declared.tree.Body.{Body}
use Rattle.program_model.specs.declared.tree.CatchClause.{CatchClause}
use Rattle.program_model.specs.declared.tree.StatementKind.{StatementKind}
use Rattle.program_model.specs.declared.tree.StatementKind.TheVariants as statements
use Rattle.program_model.specs.declared.tree.TExpr.{TExpr}
use Rattle.program_model.specs.declared.tree.TStmt.{TStmt}
use Rattle.program_model.specs.Lookups.{body_at, expression_at, statement_at}
use Rattle.program_model.specs.Typing.{IsTypedStatement}
use Rattle.program_model.specs.Validity.{IsTypedProgram, IsValidBody}
use Rattle.rlc_base.specs.declared.place.Pos.{Pos}
use Rattle.java_control.specs.Completions.{at_catch, at_depth, at_loop, at_supp, ends, out}
use Rattle.java_control.specs.Control.{Step, control_place, expression_ways, for_ways, loop_ways, next_of, start_in, start_of, statement_ways, step_at, steps_in, ways}
use Rattle.java_control.specs.Exceptions.{action_ways, caught, clauses_in, enters, exceptions_of, goes_on, may_take, takes_wholly, throws}
use Rattle.java_control.specs.Owned.{is_this_node}
use Rattle.java_control.specs.Remaining.{Todo, Do, Ev, Act, Cond, NullFork, BoolFork, LoopEnd, For, Leave, Catch, Fin, Close, Finish, Supp, Out, Ended, Way}
use Rattle.java_control.specs.Statements.{first_items, first_items_at, listed_front}
use Rattle.control_actions.specs.declared.action.Action.{Action}
use Rattle.control_actions.specs.declared.action.Action.TheVariants as actions
use Rattle.control_actions.specs.declared.action.Completion.{Completion}
use Rattle.control_actions.specs.declared.action.Completion.TheVariants as completions
use Rattle.step_laws.specs.Targets.{FindsAside, FindsIt, FindsThis, after, below, evaluated, nowhere_held}
use Rattle.step_laws.proofs.TargetConditions.{condition_finds}
use Rattle.step_laws.proofs.TargetFronts.{expression_finds}
use Rattle.step_laws.proofs.TargetItems.{finds_aside, from_none, items_found}
use Rattle.step_laws.proofs.TargetStatements.{Serves, both_serve, close_serves, for_turn_serves, loop_turn_serves, none_serves, statement_expression, statement_serves, super_serves}

-- the way takes an action that finds `this`, and leaves items that do
abbrev pub LeavesFound : Program → Body → (ℕ → Type 0) → Way → Type 0
LeavesFound p b h w = FindsIt p b w.action h × FindsThis p b w.to (after w.action h)

abbrev pub AllLeaveFound : Program → Body → (ℕ → Type 0) → List Way → Type 0
AllLeaveFound p b h [] = Unit {0}
AllLeaveFound p b h (w ∷ ws) = LeavesFound p b h w × AllLeaveFound p b h ws

ways_both : (p : Program) (b : Body) (h : ℕ → Type 0) (vs ws : List Way) → AllLeaveFound p b h vs → AllLeaveFound p b h ws → AllLeaveFound p b h (vs ++ ws)
ways_both p b h [] ws first second = second
ways_both p b h (v ∷ vs) ws first second = (first.0, ways_both p b h vs ws first.1 second)

way_at : (p : Program) (b : Body) (h : ℕ → Type 0) (ws : List Way) (i : ℕ) (w : Way) → AllLeaveFound p b h ws → slice_get ws i ≡ Some w → LeavesFound p b h w
way_at p b h [] i w all at = absurd (no_way i w at)
  where
    no_way : (i : ℕ) (w : Way) → slice_get [] i ≡ Some w → ⊥
    no_way zero w is = let never : None ≡ Some w = is in cc
    no_way (suc i) w is = let never : None ≡ Some w = is in cc
way_at p b h (v ∷ ws) zero w all at = subst (LeavesFound p b h) (let both : Some v ≡ Some w = at in (let same : v ≡ w = cc in same)) all.0
way_at p b h (v ∷ ws) (suc i) w all at = way_at p b h ws i w all.1 at

module _ (p : Program) (b : Body) (n : BodyId) (valid : IsValidBody p n b) (h : ℕ → Type 0) where
  throwing : (a : Action) (pos : Pos) (k : List Todo) (cs : List ClassId) → FindsIt p b a h → FindsAside p b k → AllLeaveFound p b h (map (throws a pos k) cs)
  throwing a pos k [] it aside = tt
  throwing a pos k (c ∷ cs) it aside = ((it, aside), throwing a pos k cs it aside)

  going : (a : Action) (k : List Todo) → FindsIt p b a h → FindsThis p b k (after a h) → AllLeaveFound p b h (goes_on a k)
  going actions.Skip k it finds = ((it, finds), tt)
  going (actions.Raise d c) k it finds = tt
  going a k it finds = ((it, finds), tt)

  acting : (a : Action) (pos : Pos) (k : List Todo) → FindsIt p b a h → FindsThis p b k (after a h) → AllLeaveFound p b h (action_ways p a pos k)
  acting a pos k it finds =
      ways_both p b h (goes_on a k) (map (throws a pos k) (exceptions_of p a)) (going a k it finds)
      (throwing a pos k (exceptions_of p a) it (finds_aside p b k (after a h) finds))

  in_statement : (s : StmtId) (d : ℕ) (x : Option TStmt) (k : List Todo) → statement_at b s ≡ x → FindsThis p b k nowhere_held → AllLeaveFound p b h (statement_ways b s d x k)
  in_statement s d None k at finds = tt
  in_statement s d (Some x) k at finds = ((tt, statement_serves p b x.kind s d x.pos (valid.statements s x at).typed k h finds), tt)

  in_expression : (e : ExprId) (d : ℕ) (x : Option TExpr) (k : List Todo) → expression_at b e ≡ x → FindsThis p b k (evaluated b e d h) → AllLeaveFound p b h (expression_ways p b e d x k)
  in_expression e d None k at finds = tt
  in_expression e d (Some x) k at finds =
      ((tt, expression_finds p b n valid x.kind e x.vtype d x.pos k h (ap is_this_node at) (valid.expressions e x at).typed finds), tt)

  in_loop : (w : StmtId) (d : ℕ) (x : Option TStmt) (k : List Todo) → FindsThis p b k nowhere_held → AllLeaveFound p b h (loop_ways b w d x k)
  in_loop w d None k finds = tt
  in_loop w d (Some x) k finds = ((tt, loop_turn_serves p b x.kind w d k h finds), tt)

  in_for : (w : StmtId) (d : ℕ) (x : Option TStmt) (k : List Todo) → FindsThis p b k nowhere_held → AllLeaveFound p b h (for_ways w d x k)
  in_for w d None k finds = tt
  in_for w d (Some x) k finds = ((tt, for_turn_serves p b x.kind w d x.pos k h finds), tt)

  ending : (c : Completion) → AllLeaveFound p b h (ends c)
  ending (completions.Break pos) = tt
  ending (completions.Continue pos) = tt
  ending c = ((tt, tt), tt)

  looping : (c : Completion) (w : StmtId) (d : ℕ) (k : List Todo) → FindsThis p b k nowhere_held → AllLeaveFound p b h (at_loop c w d k)
  looping (completions.Break pos) w d k finds = ((tt, from_none p b k h finds), tt)
  looping (completions.Continue pos) w d k finds = ((tt, finds), tt)
  looping c w d k finds = ((tt, finds_aside p b k nowhere_held finds), tt)

  catching : (s : StmtId) (i : ℕ) (xs : List CatchClause) (d e : ℕ) (t : ClassId) (pos : Pos) (k : List Todo) → FindsThis p b k nowhere_held → AllLeaveFound p b h (caught p b s i xs d e t pos k)
  catching s i [] d e t pos k finds = ((tt, finds_aside p b k nowhere_held finds), tt)
  catching s i (x ∷ xs) d e t pos k finds = go (takes_wholly p t x) (may_take p t x) (tt, finds) (catching s (i + 1) xs d e t pos k finds)
    where
      go : (y z : Bool) → LeavesFound p b h (enters b s i d e x k) → AllLeaveFound p b h (caught p b s (i + 1) xs d e t pos k)
          → AllLeaveFound p b h (if y then enters b s i d e x k ∷ [] else (if z then enters b s i d e x k ∷ caught p b s (i + 1) xs d e t pos k else caught p b s (i + 1) xs d e t pos k))
      go true z here rest = (here, tt)
      go false true here rest = (here, rest)
      go false false here rest = rest

  at_catches : (c : Completion) (s : StmtId) (d : ℕ) (k : List Todo) → FindsThis p b k nowhere_held → AllLeaveFound p b h (at_catch c p b s d k)
  at_catches (completions.Break pos) s d k finds = ((tt, finds_aside p b k nowhere_held finds), tt)
  at_catches (completions.Throw e t pos) s d k finds = catching s 0 (clauses_in (statement_at b s)) d e t pos k finds
  at_catches c s d k finds = ((tt, finds_aside p b k nowhere_held finds), tt)

  at_supps : (waiting c : Completion) (d : ℕ) (k : List Todo) → FindsThis p b k nowhere_held → AllLeaveFound p b h (at_supp waiting c d k)
  at_supps (completions.Break pos) c d k finds = ((tt, finds_aside p b k nowhere_held finds), tt)
  at_supps waiting c d k finds = ((tt, finds_aside p b k nowhere_held finds), tt)

  going_out : (c : Completion) (k : List Todo) → FindsAside p b k → AllLeaveFound p b h (out p b c k)
  going_out c [] aside = ending c
  going_out c (LoopEnd w d ∷ k) aside = looping c w d k aside
  going_out c (Leave x pos ∷ k) aside = ((tt, aside), tt)
  going_out c (Catch s d ∷ k) aside = at_catches c s d k aside
  going_out c (Fin f d ∷ k) aside = ((tt, aside), tt)
  going_out c (Close r d ∷ k) aside = ((tt, close_serves p b r (d + 1) (Supp (at_depth c d) d r.statement ∷ k) (below d h) aside), tt)
  going_out c (Finish waiting d f ∷ k) aside = ((tt, finds_aside p b k nowhere_held aside), tt)
  going_out c (Supp waiting d s ∷ k) aside = at_supps waiting c d k aside
  going_out c (x ∷ k) aside = ((tt, aside), tt)

  pub all_ways : (k : List Todo) → FindsThis p b k h → AllLeaveFound p b h (ways p b k)
  all_ways [] finds = ((tt, tt), tt)
  all_ways (Do s d ∷ k) finds = in_statement s d (statement_at b s) k refl finds
  all_ways (Ev e d ∷ k) finds = in_expression e d (expression_at b e) k refl finds
  all_ways (Act a pos ∷ k) finds = acting a pos k finds.0 finds.1
  all_ways (Cond c d x y ∷ k) finds = ((tt, condition_finds p b x y k d h finds.0 finds.1 c), tt)
  all_ways (NullFork pos d x y ∷ k) finds = ((tt, items_found p b x k (below d h) (below d h) (λ z under. under) finds.0), ((tt, items_found p b y k (below d h) (below d h) (λ z under. under) finds.1), tt))
  all_ways (BoolFork pos d x y ∷ k) finds = ((tt, items_found p b x k (below d h) (below d h) (λ z under. under) finds.0), ((tt, items_found p b y k (below d h) (below d h) (λ z under. under) finds.1), tt))
  all_ways (LoopEnd w d ∷ k) finds = in_loop w d (statement_at b w) k finds
  all_ways (For w d ∷ k) finds = in_for w d (statement_at b w) k finds
  all_ways (Leave x pos ∷ k) finds = ((tt, finds), tt)
  all_ways (Catch s d ∷ k) finds = ((tt, from_none p b k h finds), tt)
  all_ways (Fin f d ∷ k) finds = ((tt, finds), tt)
  all_ways (Close r d ∷ k) finds = ((tt, close_serves p b r d k h finds), tt)
  all_ways (Finish c d f ∷ k) finds = ((tt, finds_aside p b k nowhere_held finds), tt)
  all_ways (Supp c d s ∷ k) finds = ((tt, finds_aside p b k nowhere_held finds), tt)
  all_ways (Out c ∷ k) finds = going_out c k finds
  all_ways (Ended ∷ k) finds = tt

module _ (p : Program) (b : Body) (n : BodyId) (valid : IsValidBody p n b) where
  first_serves : (j : StatementKind) (s : StmtId) (pos : Pos) → IsTypedStatement p b j → Serves p b (first_items j s pos)
  first_serves (statements.Block ss end) s pos is k h finds = finds
  first_serves (statements.SuperCall c) s pos is k h finds = super_serves p b c 0 pos is k h finds
  first_serves (statements.FieldInitializer e) s pos is k h finds = statement_expression p b e 0 pos k h finds
  first_serves j s pos is k h finds = finds

  first_at : (s : StmtId) (x : Option TStmt) → statement_at b s ≡ x → Serves p b (first_items_at s x)
  first_at s None at k h finds = finds
  first_at s (Some x) at k h finds = first_serves x.kind s x.pos (valid.statements s x at).typed k h finds

  pub start_serves : (ss : List StmtId) → Serves p b (listed_front b ss)
  start_serves [] = none_serves p b
  start_serves (s ∷ ss) = both_serve p b (first_items_at s (statement_at b s)) (listed_front b ss) (first_at s (statement_at b s) refl) (start_serves ss)

-- ---- steps

step_of_way : (pos : Pos) (ws : List Way) (i : ℕ) (t : Step) → slice_get (map (step_at pos) ws) i ≡ Some t → (w : Way) × (slice_get ws i ≡ Some w) × (step_at pos w ≡ t)
step_of_way pos ws i t at = go (slice_get ws i) refl (sym (slice_get-map (step_at pos) ws i) ∙ at)
  where
    go : (w : Option Way) → slice_get ws i ≡ w → option_map (step_at pos) w ≡ Some t → (w : Way) × (slice_get ws i ≡ Some w) × (step_at pos w ≡ t)
    go None before same = absurd (let never : None ≡ Some t = same in cc)
    go (Some w) before same = (w, before, (let both : step_at pos w ≡ t = cc in both))

pub step_finds : (p : Program) → IsTypedProgram p → (n : BodyId) (b : Body) (k : List Todo) (i : ℕ) (t : Step) (h : ℕ → Type 0) → body_at p n ≡ Some b → FindsThis p b k h
    → slice_get (next_of p n k) i ≡ Some t → FindsIt p b t.action h × FindsThis p b t.to (after t.action h)
unfolding next_of
step_finds p typed n b k i t h at finds there =
    let w = step_of_way (control_place b k) (ways p b k) i t (ap (λ (y : Option Body). slice_get (steps_in p y k) i) (sym at) ∙ there) in
    let leaves = way_at p b h (ways p b k) i w.0 (all_ways p b n (typed.bodies n b at) h k finds) w.1 in
    subst (λ (s : Step). FindsIt p b s.action h × FindsThis p b s.to (after s.action h)) w.2 leaves

pub start_finds : (p : Program) → IsTypedProgram p → (n : BodyId) (b : Body) (h : ℕ → Type 0) → body_at p n ≡ Some b → FindsThis p b (start_of p n) h
unfolding start_of
start_finds p typed n b h at =
    subst (λ (y : Option Body). FindsThis p b (start_in y) h) (sym at)
    (subst (λ (k : List Todo). FindsThis p b k h) (append-nil (listed_front b b.stmts.items)) (start_serves p b n (typed.bodies n b at) b.stmts.items [] h tt))

-- ---- the laws

pub start_finds_this : (p : Program) → IsTypedProgram p → (n : BodyId) (b : Body) → body_at p n ≡ Some b → FindsThis p b (start_of p n) nowhere_held
start_finds_this p typed n b at = start_finds p typed n b nowhere_held at

pub steps_find_this : (p : Program) → IsTypedProgram p → (n : BodyId) (b : Body) (k : List Todo) (i : ℕ) (t : Step) (held : ℕ → Bool) → body_at p n ≡ Some b
    → FindsThis p b k (λ d. held d ≡ true) → slice_get (next_of p n k) i ≡ Some t
    → FindsIt p b t.action (λ d. held d ≡ true) × FindsThis p b t.to (after t.action (λ d. held d ≡ true))
steps_find_this p typed n b k i t held at finds there = step_finds p typed n b k i t (λ d. held d ≡ true) at finds there
