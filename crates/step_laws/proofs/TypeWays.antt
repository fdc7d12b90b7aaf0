-- Each step of a control that finds the values that it asks leaves one that does.
use Rattle.std.proofs.Common.{append-nil, ◌≡◌, ℕ, zero, suc, ◌+◌, ◌<◌, Bool, true, false, true≢false, Option, Some, None, List, [], ◌∷◌, ◌++◌, All, IsSomeAnd, length, map, slice_get, option_map, inl, inr, refl, sym, ap, ◌∙◌, subst, arith, if◌then◌else◌}
use Rattle.std.proofs.lemmas.List.Elements.{All-head, All-tail}
use Rattle.std.proofs.lemmas.Option.{slice_get-map}
use Rattle.program_model.specs.declared.kinds.BodyId.{BodyId}
use Rattle.program_model.specs.declared.kinds.ClassId.{ClassId}
use Rattle.program_model.specs.declared.kinds.ExprId.{ExprId}
use Rattle.program_model.specs.declared.kinds.StmtId.{StmtId}
use Rattle.program_model.specs.declared.kinds.VType.{VType}
use Rattle.program_model.specs.declared.kinds.VType.TheVariants as types
use Rattle.program_model.specs.declared.program.Program.{Program}
use Rattle.program_model.specs.declared.tree.Body.{Body}
use Rattle.program_model.specs.declared.tree.CatchClause.{CatchClause}
use Rattle.program_model.specs.declared.tree.StatementKind.{StatementKind}
use Rattle.program_model.specs.declared.tree.StatementKind.TheVariants as statements
use Rattle.program_model.specs.declared.tree.TExpr.{TExpr}
use Rattle.program_model.specs.declared.tree.TStmt.{TStmt}
use Rattle.program_model.specs.Hierarchy.{HasClass, IsUnder}
use Rattle.program_model.specs.Lookups.{body_at, expression_at, statement_at, type_in, variable_type}
use Rattle.program_model.specs.Typing.{IsAssignable, IsCatchClause, IsTypedStatement}
use Rattle.program_model.specs.Validity.{IsTypedProgram, IsValidBody, is_class_type}
use Rattle.rlc_base.specs.declared.place.Pos.{Pos}
use Rattle.java_control.specs.Completions.{at_catch, at_depth, at_loop, at_supp, ends, out}
use Rattle.java_control.specs.Control.{Step, control_place, expression_ways, for_ways, loop_ways, next_of, start_in, start_of, statement_ways, step_at, steps_in, ways}
use Rattle.java_control.specs.Exceptions.{action_ways, caught, clauses_in, clauses_of_kind, enters, exceptions_of, goes_on, may_take, takes_wholly, throws}
use Rattle.java_control.specs.Remaining.{Todo, Do, Ev, Act, Cond, NullFork, BoolFork, LoopEnd, For, Leave, Catch, Fin, Close, Finish, Supp, Out, Ended, Way}
use Rattle.java_control.specs.Statements.{first_items, first_items_at, listed_front}
use Rattle.control_actions.specs.declared.action.Action.{Action}
use Rattle.control_actions.specs.declared.action.Action.TheVariants as actions
use Rattle.control_actions.specs.declared.action.Completion.{Completion}
use Rattle.control_actions.specs.declared.action.Completion.TheVariants as completions
use Rattle.control_actions.specs.declared.action.Scope.{Scope}
use Rattle.control_actions.specs.declared.action.Scope.TheVariants as scopes
use Rattle.step_laws.specs.Operands.{FindsAside, FindsTypes, Fits, GivesNoneAt, NoObject, Returns, after, below, below_and_at, evaluated, leaves_names, left_held, nowhere_held, rests, thrown_after, throws_past}
use Rattle.step_laws.proofs.TypeConditions.{condition_finds}
use Rattle.step_laws.proofs.TypeFronts.{expression_finds, twice}
use Rattle.step_laws.proofs.TypeItems.{finds_more, items_found, past_more, same_within}
use Rattle.step_laws.proofs.TypeStatements.{Serves, all_temps, both_serve, close_serves, for_turn_serves, loop_turn_serves, none_serves, statement_expression, statement_serves, super_serves}
use Rattle.step_laws.proofs.OperandTypes.{assignable_none}

-- the way takes an action that finds the values that it asks, and leaves items that do
abbrev pub LeavesFound : Program → Body → (ℕ → Type 0) → Way → Type 0
LeavesFound p b h w = Fits p b w.action h × FindsTypes p b w.to (left_held p b w.action w.edge h)

abbrev pub AllLeaveFound : Program → Body → (ℕ → Type 0) → List Way → Type 0
AllLeaveFound p b h [] = Unit {0}
AllLeaveFound p b h (w ∷ ws) = LeavesFound p b h w × AllLeaveFound p b h ws

ways_both : (p : Program) (b : Body) (h : ℕ → Type 0) (vs ws : List Way) → AllLeaveFound p b h vs → AllLeaveFound p b h ws → AllLeaveFound p b h (vs ++ ws)
ways_both p b h [] ws first second = second
ways_both p b h (v ∷ vs) ws first second = (first.0, ways_both p b h vs ws first.1 second)

way_at : (p : Program) (b : Body) (h : ℕ → Type 0) (ws : List Way) (i : ℕ) (w : Way) → AllLeaveFound p b h ws → slice_get ws i ≡ Some w → LeavesFound p b h w
way_at p b h [] i w all at = absurd (no_way i w at)
  where
    no_way : (i : ℕ) (w : Way) → slice_get [] i ≡ Some w → ⊥
    no_way zero w is = let never : None ≡ Some w = is in cc
    no_way (suc i) w is = let never : None ≡ Some w = is in cc
way_at p b h (v ∷ ws) zero w all at = subst (LeavesFound p b h) (let both : Some v ≡ Some w = at in (let same : v ≡ w = cc in same)) all.0
way_at p b h (v ∷ ws) (suc i) w all at = way_at p b h ws i w all.1 at

-- ---- catch clauses

-- a catch clause's variable has a class type
caught_object : (p : Program) (t : VType) (cs : List ClassId) → 0 < length cs → All (λ d. HasClass p d × IsUnder p d p.core.throwable × IsAssignable p (types.Obj d) t) cs → is_class_type t ≡ false → ⊥
caught_object p t [] some all none = (let never : ⊥ = omega (arith, some) in never)
caught_object p t (c ∷ cs) some all none =
    true≢false (assignable_none p (types.Obj c) t (All-head (λ d. HasClass p d × IsUnder p d p.core.throwable × IsAssignable p (types.Obj d) t) c cs all).2 none)

enters_object : (p : Program) (b : Body) (x : CatchClause) → IsCatchClause p b x → NoObject (variable_type b x.variable) → ⊥
enters_object p b x is none = go (variable_type b x.variable) is.1 none
  where
    go : (t : Option VType) → IsSomeAnd t (λ t. All (λ d. HasClass p d × IsUnder p d p.core.throwable × IsAssignable p (types.Obj d) t) x.classes.items) → NoObject t → ⊥
    go None are none = are
    go (Some t) are none = caught_object p t x.classes.items is.0 are none

no_clauses : (p : Program) (b : Body) → All (IsCatchClause p b) []
no_clauses p b k d within = absurd (let never : ⊥ = omega (arith, within) in never)

clauses_typed : (p : Program) (b : Body) (j : StatementKind) → IsTypedStatement p b j → All (IsCatchClause p b) (clauses_of_kind j)
clauses_typed p b (statements.Try t) is = is.1
clauses_typed p b statements.Empty is = no_clauses p b
clauses_typed p b j is = no_clauses p b

module _ (p : Program) (typed : IsTypedProgram p) (b : Body) (n : BodyId) (valid : IsValidBody p n b) (h : ℕ → Type 0) where
  -- ---- actions

  throwing_each : (a : Action) (pos : Pos) (k : List Todo) (cs : List ClassId) → Fits p b a h → FindsAside p b k (thrown_after a h) → AllLeaveFound p b h (map (throws a pos k) cs)
  throwing_each a pos k [] fits past = tt
  throwing_each a pos k (c ∷ cs) fits past = ((fits, (tt, past)), throwing_each a pos k cs fits past)

  throwing : (a : Action) (pos : Pos) (k : List Todo) → Fits p b a h → throws_past a (FindsAside p b k) h → AllLeaveFound p b h (map (throws a pos k) (exceptions_of p a))
  throwing (actions.Op o d m) pos k fits past = throwing_each (actions.Op o d m) pos k (exceptions_of p (actions.Op o d m)) fits past
  throwing (actions.Get f d this) pos k fits past = throwing_each (actions.Get f d this) pos k (exceptions_of p (actions.Get f d this)) fits past
  throwing (actions.Put f d this) pos k fits past = throwing_each (actions.Put f d this) pos k (exceptions_of p (actions.Put f d this)) fits past
  throwing (actions.Cast t d) pos k fits past = throwing_each (actions.Cast t d) pos k (exceptions_of p (actions.Cast t d)) fits past
  throwing (actions.Call m d c form) pos k fits past = throwing_each (actions.Call m d c form) pos k (exceptions_of p (actions.Call m d c form)) fits past
  throwing (actions.New m d c) pos k fits past = throwing_each (actions.New m d c) pos k (exceptions_of p (actions.New m d c)) fits past
  throwing (actions.Super m d c) pos k fits past = throwing_each (actions.Super m d c) pos k (exceptions_of p (actions.Super m d c)) fits past
  throwing (actions.Raise d c) pos k fits past = throwing_each (actions.Raise d c) pos k (exceptions_of p (actions.Raise d c)) fits past
  throwing actions.Skip pos k fits past = tt
  throwing a pos k fits past = tt

  going : (a : Action) (k : List Todo) → Fits p b a h → FindsTypes p b k (after p b a h) → AllLeaveFound p b h (goes_on a k)
  going actions.Skip k fits finds = ((fits, finds), tt)
  going (actions.Raise d c) k fits finds = tt
  going a k fits finds = ((fits, finds), tt)

  acting : (a : Action) (pos : Pos) (k : List Todo) → Fits p b a h → FindsTypes p b k (after p b a h) → throws_past a (FindsAside p b k) h → AllLeaveFound p b h (action_ways p a pos k)
  acting a pos k fits finds past = ways_both p b h (goes_on a k) (map (throws a pos k) (exceptions_of p a)) (going a k fits finds) (throwing a pos k fits past)

  -- ---- statements and expressions

  in_statement : (s : StmtId) (d : ℕ) (x : Option TStmt) (k : List Todo) → statement_at b s ≡ x → rests (FindsTypes p b k) (FindsAside p b k) d h → AllLeaveFound p b h (statement_ways b s d x k)
  in_statement s d None k at finds = tt
  in_statement s d (Some x) k at finds = ((tt, (statement_serves p typed b x.kind s d x.pos (valid.statements s x at).typed k h finds.0 finds.1).0), tt)

  in_expression : (e : ExprId) (d : ℕ) (x : Option TExpr) (k : List Todo) → expression_at b e ≡ x → FindsTypes p b k (evaluated b e d h) → FindsAside p b k (below d h) → AllLeaveFound p b h (expression_ways p b e d x k)
  in_expression e d None k at finds past = tt
  in_expression e d (Some x) k at finds past =
      ((tt, expression_finds p typed b x.kind e x.vtype d x.pos k h (ap type_in at) (valid.expressions e x at).typed finds past), tt)

  in_loop : (w : StmtId) (d : ℕ) (x : Option TStmt) (k : List Todo) → rests (FindsTypes p b k) (FindsAside p b k) d h → AllLeaveFound p b h (loop_ways b w d x k)
  in_loop w d None k finds = tt
  in_loop w d (Some x) k finds = ((tt, (loop_turn_serves p typed b x.kind w d k h finds.0 finds.1).0), tt)

  in_for : (w : StmtId) (d : ℕ) (x : Option TStmt) (k : List Todo) → rests (FindsTypes p b k) (FindsAside p b k) d h → AllLeaveFound p b h (for_ways w d x k)
  in_for w d None k finds = tt
  in_for w d (Some x) k finds = ((tt, (for_turn_serves p typed b x.kind w d x.pos k h finds.0 finds.1).0), tt)

  -- ---- completions

  past_all : (d : ℕ) (k : List Todo) → FindsAside p b k (below d h) → FindsAside p b k h
  past_all d k past = past_more p b k (below d h) h (λ x under. under.1) past

  ending : (c : Completion) → Returns p b c h → AllLeaveFound p b h (ends c)
  ending (completions.Break pos) returns = tt
  ending (completions.Continue pos) returns = tt
  ending c returns = ((returns, tt), tt)

  looping : (c : Completion) (w : StmtId) (d : ℕ) (k : List Todo) → Returns p b c h → rests (FindsTypes p b k) (FindsAside p b k) d h → AllLeaveFound p b h (at_loop c w d k)
  looping (completions.Break pos) w d k returns finds = ((tt, all_temps p typed b d k h finds.0), tt)
  looping (completions.Continue pos) w d k returns finds = ((tt, finds), tt)
  looping c w d k returns finds = ((tt, (returns, past_all d k finds.1)), tt)

  catching : (s : StmtId) (i : ℕ) (xs : List CatchClause) (d e : ℕ) (t : ClassId) (pos : Pos) (k : List Todo) → All (IsCatchClause p b) xs → rests (FindsTypes p b k) (FindsAside p b k) d h
      → AllLeaveFound p b h (caught p b s i xs d e t pos k)
  catching s i [] d e t pos k are finds = ((tt, (tt, past_all d k finds.1)), tt)
  catching s i (x ∷ xs) d e t pos k are finds =
      go (takes_wholly p t x) (may_take p t x) entering (catching s (i + 1) xs d e t pos k (All-tail (IsCatchClause p b) x xs are) finds)
    where
      entering : LeavesFound p b h (enters b s i d e x k)
      entering = (
        enters_object p b x (All-head (IsCatchClause p b) x xs are),
        (finds_more p b k (below d h) (below d (below d h)) (twice d h) finds.0, past_more p b k (below d h) (below d (below d h)) (twice d h) finds.1),
      )

      go : (y z : Bool) → LeavesFound p b h (enters b s i d e x k) → AllLeaveFound p b h (caught p b s (i + 1) xs d e t pos k)
          → AllLeaveFound p b h (if y then enters b s i d e x k ∷ [] else (if z then enters b s i d e x k ∷ caught p b s (i + 1) xs d e t pos k else caught p b s (i + 1) xs d e t pos k))
      go true z here rest = (here, tt)
      go false true here rest = (here, rest)
      go false false here rest = rest

  clauses_at : (s : StmtId) (x : Option TStmt) → statement_at b s ≡ x → All (IsCatchClause p b) (clauses_in x)
  clauses_at s None at = no_clauses p b
  clauses_at s (Some x) at = clauses_typed p b x.kind (valid.statements s x at).typed

  at_catches : (c : Completion) (s : StmtId) (d : ℕ) (k : List Todo) → Returns p b c h → rests (FindsTypes p b k) (FindsAside p b k) d h → AllLeaveFound p b h (at_catch c p b s d k)
  at_catches (completions.Break pos) s d k returns finds = ((tt, (tt, past_all d k finds.1)), tt)
  at_catches (completions.Throw e t pos) s d k returns finds = catching s 0 (clauses_in (statement_at b s)) d e t pos k (clauses_at s (statement_at b s) refl) finds
  at_catches c s d k returns finds = ((tt, (returns, past_all d k finds.1)), tt)

  returns_at : (c : Completion) (d : ℕ) (g : ℕ → Type 0) → (GivesNoneAt c h → g d) → Returns p b c h → Returns p b (at_depth c d) g
  returns_at (completions.ReturnValue e pos) d g there returns = λ none. there (returns none)
  returns_at (completions.Break pos) d g there returns = tt
  returns_at c d g there returns = tt

  -- t(d) takes the completion's value
  module _ (c : Completion) (d : ℕ) (k : List Todo) (returns : Returns p b c h) (past : FindsAside p b k (below d h)) where
    abbrev settled : ℕ → Type 0
    settled = below_and_at d (GivesNoneAt c h) h

    settled_far : Returns p b (at_depth c d) (below (d + 1) settled)
    settled_far = returns_at c d (below (d + 1) settled) (λ gives. (omega arith, inr (refl, gives))) returns

    settled_past : FindsAside p b k (below d (below (d + 1) settled))
    settled_past = past_more p b k (below d h) (below d (below (d + 1) settled)) (λ x under. (under.0, (omega (arith, under.0), inl under))) past

    settled_out : FindsTypes p b (Out (at_depth c d) ∷ k) settled
    settled_out = (returns_at c d settled (λ gives. inr (refl, gives)) returns, past_more p b k (below d h) settled (λ x under. inl under) past)

  at_supps : (waiting c : Completion) (d : ℕ) (k : List Todo) → Returns p b c h → FindsAside p b k (below d h) → AllLeaveFound p b h (at_supp waiting c d k)
  at_supps (completions.Break pos) c d k returns past = ((tt, settled_out c d k returns past), tt)
  at_supps (completions.Throw e t pos) c d k returns past = ((tt, (tt, past)), tt)
  at_supps waiting c d k returns past = ((tt, settled_out c d k returns past), tt)

  leaving : (c : Completion) (x : Scope) (pos : Pos) (k : List Todo) → Returns p b c h → leaves_names x (FindsAside p b k h) → AllLeaveFound p b h (out p b c (Leave x pos ∷ k))
  leaving c (scopes.Declared s) pos k returns past = ((tt, (returns, past)), tt)
  leaving c (scopes.Variable y) pos k returns past = ((tt, (returns, past)), tt)
  leaving c (scopes.Temp d) pos k returns past = absurd past
  leaving c (scopes.TempsAbove d) pos k returns past = absurd past

  going_out : (c : Completion) (k : List Todo) → Returns p b c h → FindsAside p b k h → AllLeaveFound p b h (out p b c k)
  going_out c [] returns aside = ending c returns
  going_out c (LoopEnd w d ∷ k) returns aside = looping c w d k returns aside
  going_out c (Leave x pos ∷ k) returns aside = leaving c x pos k returns aside
  going_out c (Catch s d ∷ k) returns aside = at_catches c s d k returns aside
  going_out c (Fin f d ∷ k) returns aside = ((tt, ((settled_far c d k returns aside.1, settled_past c d k returns aside.1), settled_past c d k returns aside.1)), tt)
  going_out c (Close r d ∷ k) returns aside = (
    (
      tt,
      (close_serves p typed b r (d + 1) aside.0 (Supp (at_depth c d) d r.statement ∷ k) (settled c d k returns aside.1.1) (settled_far c d k returns aside.1.1, settled_past c d k returns aside.1.1)
          (settled_past c d k returns aside.1.1)).0,
    ),
    tt,
  )
  going_out c (Finish waiting d f ∷ k) returns aside = ((tt, settled_out c d k returns aside), tt)
  going_out c (Supp waiting d s ∷ k) returns aside = at_supps waiting c d k returns aside
  going_out c (x ∷ k) returns aside = ((tt, (returns, aside)), tt)

  left_by : (x : Scope) (pos : Pos) (k : List Todo) → leaves_names x (FindsTypes p b k h) → AllLeaveFound p b h (ways p b (Leave x pos ∷ k))
  left_by (scopes.Declared s) pos k finds = ((tt, finds), tt)
  left_by (scopes.Variable y) pos k finds = ((tt, finds), tt)
  left_by (scopes.Temp d) pos k finds = absurd finds
  left_by (scopes.TempsAbove d) pos k finds = absurd finds

  pub all_ways : (k : List Todo) → FindsTypes p b k h → AllLeaveFound p b h (ways p b k)
  all_ways [] finds = ((tt, tt), tt)
  all_ways (Do s d ∷ k) finds = in_statement s d (statement_at b s) k refl finds
  all_ways (Ev e d ∷ k) finds = in_expression e d (expression_at b e) k refl finds.0 finds.1
  all_ways (Act a pos ∷ k) finds = acting a pos k finds.0 finds.1 finds.2
  all_ways (Cond c d x y ∷ k) finds = ((tt, condition_finds p b x y k d h finds.0 finds.1 finds.2 c), tt)
  all_ways (NullFork pos d x y ∷ k) finds =
      ((tt, items_found p b x k (below d h) (below d h) (same_within (below d h)) finds.0), ((tt, items_found p b y k (below d h) (below d h) (same_within (below d h)) finds.1), tt))
  all_ways (BoolFork pos d x y ∷ k) finds =
      ((tt, items_found p b x k (below d h) (below d h) (same_within (below d h)) finds.0), ((tt, items_found p b y k (below d h) (below d h) (same_within (below d h)) finds.1), tt))
  all_ways (LoopEnd w d ∷ k) finds = in_loop w d (statement_at b w) k finds
  all_ways (For w d ∷ k) finds = in_for w d (statement_at b w) k finds
  all_ways (Leave x pos ∷ k) finds = left_by x pos k finds
  all_ways (Catch s d ∷ k) finds = ((tt, all_temps p typed b d k h finds.0), tt)
  all_ways (Fin f d ∷ k) finds = ((tt, finds), tt)
  all_ways (Close r d ∷ k) finds = ((tt, (close_serves p typed b r d finds.0 k h finds.1.0 finds.1.1).0), tt)
  all_ways (Finish c d f ∷ k) finds = ((tt, (finds.0, past_all d k finds.1)), tt)
  all_ways (Supp c d s ∷ k) finds = ((tt, (finds.0, past_all d k finds.1)), tt)
  all_ways (Out c ∷ k) finds = going_out c k finds.0 finds.1
  all_ways (Ended ∷ k) finds = tt

module _ (p : Program) (typed : IsTypedProgram p) (b : Body) (n : BodyId) (valid : IsValidBody p n b) where
  one_serves : (s : StmtId) → Serves p b 0 (Do s 0 ∷ [])
  one_serves s k h finds past = ((finds, past), past)

  first_serves : (j : StatementKind) (s : StmtId) (pos : Pos) → IsTypedStatement p b j → Serves p b 0 (first_items j s pos)
  first_serves (statements.Block ss end) s pos is = one_serves s
  first_serves (statements.SuperCall c) s pos is = super_serves p typed b c 0 pos is
  first_serves (statements.FieldInitializer e) s pos is = statement_expression p typed b e 0 pos
  first_serves j s pos is = one_serves s

  first_at : (s : StmtId) (x : Option TStmt) → statement_at b s ≡ x → Serves p b 0 (first_items_at s x)
  first_at s None at = one_serves s
  first_at s (Some x) at = first_serves x.kind s x.pos (valid.statements s x at).typed

  pub start_serves : (ss : List StmtId) → Serves p b 0 (listed_front b ss)
  start_serves [] = none_serves p typed b 0
  start_serves (s ∷ ss) = both_serve p typed b 0 (first_items_at s (statement_at b s)) (listed_front b ss) (first_at s (statement_at b s) refl) (start_serves ss)

-- ---- steps

step_of_way : (pos : Pos) (ws : List Way) (i : ℕ) (t : Step) → slice_get (map (step_at pos) ws) i ≡ Some t → (w : Way) × (slice_get ws i ≡ Some w) × (step_at pos w ≡ t)
step_of_way pos ws i t at = go (slice_get ws i) refl (sym (slice_get-map (step_at pos) ws i) ∙ at)
  where
    go : (w : Option Way) → slice_get ws i ≡ w → option_map (step_at pos) w ≡ Some t → (w : Way) × (slice_get ws i ≡ Some w) × (step_at pos w ≡ t)
    go None before same = absurd (let never : None ≡ Some t = same in cc)
    go (Some w) before same = (w, before, (let both : step_at pos w ≡ t = cc in both))

pub step_finds : (p : Program) → IsTypedProgram p → (n : BodyId) (b : Body) (k : List Todo) (i : ℕ) (t : Step) (h : ℕ → Type 0) → body_at p n ≡ Some b → FindsTypes p b k h
    → slice_get (next_of p n k) i ≡ Some t → Fits p b t.action h × FindsTypes p b t.to (left_held p b t.action t.edge h)
unfolding next_of
step_finds p typed n b k i t h at finds there =
    let w = step_of_way (control_place b k) (ways p b k) i t (ap (λ (y : Option Body). slice_get (steps_in p y k) i) (sym at) ∙ there) in
    let leaves = way_at p b h (ways p b k) i w.0 (all_ways p typed b n (typed.bodies n b at) h k finds) w.1 in
    subst (λ (s : Step). Fits p b s.action h × FindsTypes p b s.to (left_held p b s.action s.edge h)) w.2 leaves

pub start_finds : (p : Program) → IsTypedProgram p → (n : BodyId) (b : Body) (h : ℕ → Type 0) → body_at p n ≡ Some b → FindsTypes p b (start_of p n) h
unfolding start_of
start_finds p typed n b h at =
    subst (λ (y : Option Body). FindsTypes p b (start_in y) h) (sym at)
    (subst (λ (k : List Todo). FindsTypes p b k h) (append-nil (listed_front b b.stmts.items)) (start_serves p typed b n (typed.bodies n b at) b.stmts.items [] h tt tt).0)

-- ---- the laws

pub start_finds_types : (p : Program) → IsTypedProgram p → (n : BodyId) (b : Body) → body_at p n ≡ Some b → FindsTypes p b (start_of p n) nowhere_held
start_finds_types p typed n b at = start_finds p typed n b nowhere_held at

pub steps_find_types : (p : Program) → IsTypedProgram p → (n : BodyId) (b : Body) (k : List Todo) (i : ℕ) (t : Step) (held : ℕ → Bool) → body_at p n ≡ Some b
    → FindsTypes p b k (λ d. held d ≡ true) → slice_get (next_of p n k) i ≡ Some t
    → Fits p b t.action (λ d. held d ≡ true) × FindsTypes p b t.to (left_held p b t.action t.edge (λ d. held d ≡ true))
steps_find_types p typed n b k i t held at finds there = step_finds p typed n b k i t (λ d. held d ≡ true) at finds there
