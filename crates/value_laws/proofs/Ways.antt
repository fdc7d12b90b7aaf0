-- Each step of what is left to run keeps the exceptions that wait or are on their way out.
use Rattle.std.proofs.Common.{◌≡◌, ℕ, zero, suc, ◌+◌, ◌<◌, ◌≤◌, Bool, true, false, Option, Some, None, List, [], ◌∷◌, ◌++◌, map, slice_get, option_map, refl, sym, ap, ◌∙◌, subst, inl, inr, arith, append-nil, if◌then◌else◌}
use Rattle.std.proofs.lemmas.Bool.{cases_lt}
use Rattle.std.proofs.lemmas.Option.{slice_get-map}
use Rattle.rlc_base.specs.declared.place.Pos.{Pos}
use Rattle.program_model.specs.Lookups.{body_at, expression_at, statement_at}
use Rattle.program_model.specs.declared.kinds.BodyId.{BodyId}
use Rattle.program_model.specs.declared.kinds.ClassId.{ClassId}
use Rattle.program_model.specs.declared.kinds.ExprId.{ExprId}
use Rattle.program_model.specs.declared.kinds.StmtId.{StmtId}
use Rattle.program_model.specs.declared.program.Program.{Program}
use Rattle.program_model.specs.declared.tree.Body.{Body}
use Rattle.program_model.specs.declared.tree.CatchClause.{CatchClause}
use Rattle.program_model.specs.declared.tree.TExpr.{TExpr}
use Rattle.program_model.specs.declared.tree.TStmt.{TStmt}
use Rattle.control_actions.specs.declared.action.Action.{Action}
use Rattle.control_actions.specs.declared.action.Action.TheVariants as actions
use Rattle.control_actions.specs.declared.action.Completion.{Completion}
use Rattle.control_actions.specs.declared.action.Completion.TheVariants as completions
use Rattle.control_actions.specs.declared.action.Edge.{Edge}
use Rattle.control_actions.specs.declared.action.Edge.TheVariants as edges
use Rattle.control_actions.specs.declared.action.Scope.{Scope}
use Rattle.control_actions.specs.declared.action.Scope.TheVariants as scopes
use Rattle.control_actions.specs.declared.place.Place.TheVariants as places
use Rattle.control_actions.specs.declared.item.Closing.{Closing}
use Rattle.java_control.specs.Calls.{completion_temp}
use Rattle.java_control.specs.Completions.{at_catch, at_depth, at_loop, at_supp, ends, out}
use Rattle.java_control.specs.Conditions.{condition_front}
use Rattle.java_control.specs.Control.{Step, control_place, expression_ways, for_ways, loop_ways, next_of, start_in, start_of, statement_ways, step_at, steps_in, ways}
use Rattle.java_control.specs.Exceptions.{action_ways, caught, clause_at, clauses_in, enters, exception_depth, exceptions_of, goes_on, may_take, takes_wholly, throws}
use Rattle.java_control.specs.Expressions.{expression_front}
use Rattle.java_control.specs.Remaining.{Todo, todos, Do, Ev, Act, Cond, NullFork, BoolFork, LoopEnd, For, Leave, Catch, Fin, Close, Finish, Supp, Out, Ended, Way, skip, statement_place}
use Rattle.java_control.specs.Sources.{emptied, source}
use Rattle.java_control.specs.Statements.{close_front, for_turn, listed_front, loop_turn, statement_front}
use Rattle.ledger_moves.specs.LedgerFramesFrames.{made_place}
use Rattle.value_laws.specs.Thrown.{ActsFrom, AllFrom, HasVariables, HeldAt, HeldOut, IsFrom, IsNoException, KeepsThrown, Waits, floor}
use Rattle.value_laws.proofs.Fronts.{condition_from, expression_from, todos_from}
use Rattle.value_laws.proofs.Kept.{lt_self, temp_stays}
use Rattle.value_laws.proofs.Statements.{close_from, for_turn_from, loop_turn_from, start_from, statement_from}

-- What is known of the temps after a step: those that keep their values are held as they were, one to which the value of a completion goes is
-- held as that was, and that of a thrown exception is held. Nothing is said of temps as deep as 64.
pub record IsAfter (p : Program) (b : Body) (held later : ℕ → Type 0) (a : Action) (e : Edge) : Type 0 where
  pub stays : (x : ℕ) → x < 64 → source p b a e (places.Temp x) ≡ Some (places.Temp x) → held x → later x
  pub settled : (d y : ℕ) (c : Completion) → d < 64 → a ≡ actions.Settle d c → completion_temp c ≡ Some y → held y → later d
  pub deep : (x : ℕ) → 64 ≤ x → later x
  pub thrown : (c : ClassId) → e ≡ edges.Throws c → made_place a ≡ Some (places.Temp (exception_depth a)) → later (exception_depth a)

-- where the action ends the frame by an exception, that is held
abbrev pub EndsHeld : (ℕ → Type 0) → Action → Type 0
EndsHeld held actions.Skip = Unit {0}
EndsHeld held (actions.End c) = HeldOut held c
EndsHeld held a = Unit {0}

module _ (p : Program) (b : Body) (held later : ℕ → Type 0) where
  abbrev Leaves : Way → Type 0
  Leaves w = (IsAfter p b held later w.action w.edge → KeepsThrown later w.to) × EndsHeld held w.action

  abbrev AllLeave : List Way → Type 0
  AllLeave [] = Unit {0}
  AllLeave (w ∷ ws) = Leaves w × AllLeave ws

  both_leave : (vs ws : List Way) → AllLeave vs → AllLeave ws → AllLeave (vs ++ ws)
  both_leave [] ws first second = second
  both_leave (v ∷ vs) ws first second = (first.0, both_leave vs ws first.1 second)

  way_at : (ws : List Way) (i : ℕ) (w : Way) → AllLeave ws → slice_get ws i ≡ Some w → Leaves w
  way_at [] i w all at = absurd (let never : None ≡ Some w = at in cc)
  way_at (v ∷ ws) zero w all at = subst (λ (u : Way). Leaves u) (let both : Some v ≡ Some w = at in (let same : v ≡ w = cc in same)) all.0
  way_at (v ∷ ws) (suc i) w all at = way_at ws i w all.1 at

  -- ---- temps

  kept_below : (n : ℕ) (a : Action) (e : Edge) → ActsFrom n a → IsAfter p b held later a e → (x : ℕ) → x < n → held x → later x
  kept_below n a e from after x low has = elim (cases_lt x 64) [
    | inl small ↦ after.stays x small (temp_stays p b n x low small a e from) has
    | inr far ↦ after.deep x far
  ]

  passed : (e : Edge) → IsAfter p b held later actions.Skip e → (x : ℕ) → held x → later x
  passed e after x has = elim (cases_lt x 64) [
    | inl small ↦ after.stays x small refl has
    | inr far ↦ after.deep x far
  ]

  -- ---- what is left

  at_later : (c : Completion) (d : ℕ) → (held d → later d) → HeldAt held c d → HeldAt later c d
  at_later (completions.Break pos) d more is = tt
  at_later (completions.Throw e t pos) d more is = (is.0, more is.1)
  at_later c d more is = tt

  waits_later : (k : List Todo) → ((x : ℕ) → x < floor k → held x → later x) → Waits held k → Waits later k
  waits_later [] more w = tt
  waits_later (Finish c d f ∷ k) more w =
      (w.0, at_later c d (more d (omega arith)) w.1, waits_later k (λ x low. more x (let under = w.0 in omega (arith, low, under))) w.2)
  waits_later (Supp c d s ∷ k) more w =
      (w.0, at_later c d (more d (omega arith)) w.1, waits_later k (λ x low. more x (let under = w.0 in omega (arith, low, under))) w.2)
  waits_later (x ∷ k) more w = (w.0, waits_later k more w.1)

  held_out : (c : Completion) → IsNoException c → HeldOut later c
  held_out (completions.Break pos) none = tt
  held_out (completions.Throw d t pos) none = absurd none
  held_out c none = tt

  waits_keeps : (k : List Todo) → Waits later k → KeepsThrown later k
  waits_keeps [] w = tt
  waits_keeps (Out c ∷ k) w = (held_out c w.0, w.1)
  waits_keeps (x ∷ k) w = w

  floor_front : (n : ℕ) (xs k : List Todo) → AllFrom n xs → floor (xs ++ k) ≡ floor k
  floor_front n [] k all = refl
  floor_front n (Finish c d f ∷ xs) k all = absurd all.0
  floor_front n (Supp c d s ∷ xs) k all = absurd all.0
  floor_front n (x ∷ xs) k all = floor_front n xs k all.1

  front_waits : (xs k : List Todo) → AllFrom (floor k) xs → Waits later k → Waits later (xs ++ k)
  front_waits [] k all w = w
  front_waits (Finish c d f ∷ xs) k all w = absurd all.0
  front_waits (Supp c d s ∷ xs) k all w = absurd all.0
  front_waits (x ∷ xs) k all w = (subst (λ (n : ℕ). IsFrom n x) (sym (floor_front (floor k) xs k all.1)) all.0, front_waits xs k all.1 w)

  -- ---- actions

  acts_end : (n : ℕ) (a : Action) → ActsFrom n a → EndsHeld held a
  acts_end n actions.Skip from = tt
  acts_end n (actions.End c) from = absurd from
  acts_end n a from = tt

  module _ (k : List Todo) (w : Waits held k) where
    rest : (a : Action) (e : Edge) → ActsFrom (floor k) a → IsAfter p b held later a e → Waits later k
    rest a e from after = waits_later k (kept_below (floor k) a e from after) w

    -- a step that does nothing, or one that goes by the edge, to these items
    skips : (xs : List Todo) → AllFrom (floor k) xs → AllLeave (skip (xs ++ k))
    skips xs from = (((λ after. waits_keeps (xs ++ k) (front_waits xs k from (rest actions.Skip edges.Go tt after))), tt), tt)

    goes : (a : Action) (e : Edge) (xs : List Todo) → ActsFrom (floor k) a → AllFrom (floor k) xs → Leaves (record { action = a; edge = e; to = xs ++ k })
    goes a e xs acts from = ((λ after. waits_keeps (xs ++ k) (front_waits xs k from (rest a e acts after))), acts_end (floor k) a acts)

    throwing : (a : Action) (pos : Pos) (cs : List ClassId) → ActsFrom (floor k) a → made_place a ≡ Some (places.Temp (exception_depth a)) → AllLeave (map (throws a pos k) cs)
    throwing a pos [] acts made = tt
    throwing a pos (c ∷ cs) acts made = (((λ after. (after.thrown c refl made, rest a (edges.Throws c) acts after)), acts_end (floor k) a acts), throwing a pos cs acts made)

    going : (a : Action) → ActsFrom (floor k) a → AllLeave (goes_on a k)
    going actions.Skip acts = (goes actions.Skip edges.Go [] acts tt, tt)
    going (actions.Raise d c) acts = tt
    going a acts = (goes a edges.Go [] acts tt, tt)

    thrown_by : (a : Action) (pos : Pos) → ActsFrom (floor k) a → AllLeave (map (throws a pos k) (exceptions_of p a))
    thrown_by actions.Skip pos acts = tt
    thrown_by (actions.Op o d m) pos acts = throwing (actions.Op o d m) pos (exceptions_of p (actions.Op o d m)) acts refl
    thrown_by (actions.Get f d this) pos acts = throwing (actions.Get f d this) pos (exceptions_of p (actions.Get f d this)) acts refl
    thrown_by (actions.Put f d this) pos acts = throwing (actions.Put f d this) pos (exceptions_of p (actions.Put f d this)) acts refl
    thrown_by (actions.Cast t d) pos acts = throwing (actions.Cast t d) pos (exceptions_of p (actions.Cast t d)) acts refl
    thrown_by (actions.Call m d n form) pos acts = throwing (actions.Call m d n form) pos (exceptions_of p (actions.Call m d n form)) acts refl
    thrown_by (actions.New m d n) pos acts = throwing (actions.New m d n) pos (exceptions_of p (actions.New m d n)) acts refl
    thrown_by (actions.Super m d n) pos acts = throwing (actions.Super m d n) pos (exceptions_of p (actions.Super m d n)) acts refl
    thrown_by (actions.Raise d c) pos acts = throwing (actions.Raise d c) pos (exceptions_of p (actions.Raise d c)) acts refl
    thrown_by a pos acts = tt

    acting : (a : Action) (pos : Pos) → ActsFrom (floor k) a → AllLeave (action_ways p a pos k)
    acting a pos acts = both_leave (goes_on a k) (map (throws a pos k) (exceptions_of p a)) (going a acts) (thrown_by a pos acts)

    -- ---- fronts

    in_statement : (s : StmtId) (d : ℕ) (x : Option TStmt) → floor k ≤ d → AllLeave (statement_ways b s d x k)
    in_statement s d None deep = tt
    in_statement s d (Some x) deep = skips (statement_front x.kind b s d x.pos) (statement_from (floor k) b x.kind s d x.pos deep)

    in_expression : (e : ExprId) (d : ℕ) (x : Option TExpr) → floor k ≤ d → AllLeave (expression_ways p b e d x k)
    in_expression e d None deep = tt
    in_expression e d (Some x) deep = skips (expression_front x.kind p b e x.vtype d x.pos) (expression_from (floor k) p b x.kind e x.vtype d x.pos deep)

    in_loop : (s : StmtId) (d : ℕ) (x : Option TStmt) → floor k ≤ d → AllLeave (loop_ways b s d x k)
    in_loop s d None deep = tt
    in_loop s d (Some x) deep = skips (loop_turn x.kind b s d) (loop_turn_from (floor k) b x.kind s d deep)

    in_for : (s : StmtId) (d : ℕ) (x : Option TStmt) → floor k ≤ d → AllLeave (for_ways s d x k)
    in_for s d None deep = tt
    in_for s d (Some x) deep = skips (for_turn x.kind s d x.pos) (for_turn_from (floor k) b x.kind s d x.pos deep)

    -- ---- completions

    -- an exception that is on its way out stays where it stands
    out_later : (c : Completion) → ((x : ℕ) → held x → later x) → HeldOut held c → HeldOut later c
    out_later (completions.Break pos) more is = tt
    out_later (completions.Throw d t pos) more is = more d is
    out_later c more is = tt

    goes_out : (c : Completion) → HeldOut held c → AllLeave (skip (Out c ∷ k))
    goes_out c is = (((λ after. (out_later c (passed edges.Go after) is, rest actions.Skip edges.Go tt after)), tt), tt)

    -- its value goes to the depth
    settled_at : (c : Completion) (d : ℕ) → HeldOut held c → IsAfter p b held later (actions.Settle d c) edges.Go → HeldAt later (at_depth c d) d
    settled_at (completions.Break pos) d is after = tt
    settled_at (completions.Throw e t pos) d is after = (
      refl,
      elim (cases_lt d 64) [
        | inl small ↦ after.settled d e (completions.Throw e t pos) small refl refl is
        | inr far ↦ after.deep d far
      ],
    )
    settled_at c d is after = tt

    settled_out : (c : Completion) (d : ℕ) → HeldOut held c → IsAfter p b held later (actions.Settle d c) edges.Go → HeldOut later (at_depth c d)
    settled_out (completions.Break pos) d is after = tt
    settled_out (completions.Throw e t pos) d is after = elim (cases_lt d 64) [
      | inl small ↦ after.settled d e (completions.Throw e t pos) small refl refl is
      | inr far ↦ after.deep d far
    ]
    settled_out c d is after = tt

    settling : (c : Completion) (d : ℕ) → floor k ≤ d → HeldOut held c → AllLeave (record { action = actions.Settle d c; edge = edges.Go; to = Out (at_depth c d) ∷ k } ∷ [])
    settling c d deep is = (((λ after. (settled_out c d is after, rest (actions.Settle d c) edges.Go deep after)), tt), tt)

    looping : (c : Completion) (s : StmtId) (d : ℕ) → floor k ≤ d → HeldOut held c → AllLeave (at_loop c s d k)
    looping (completions.Break pos) s d deep is = skips [] tt
    looping (completions.Continue pos) s d deep is = skips (LoopEnd s d ∷ []) (deep, tt)
    looping c s d deep is = goes_out c is

    catching : (s : StmtId) (i : ℕ) (xs : List CatchClause) (d e : ℕ) (t : ClassId) (pos : Pos) → floor k ≤ d → held e → AllLeave (caught p b s i xs d e t pos k)
    catching s i [] d e t pos deep is = goes_out (completions.Throw e t pos) is
    catching s i (x ∷ xs) d e t pos deep is = go (takes_wholly p t x) (may_take p t x) entered (catching s (i + 1) xs d e t pos deep is)
      where
        entered : Leaves (enters b s i d e x k)
        entered = goes (actions.Enter (clause_at s i) x.variable d e) edges.Go (Do x.block d ∷ Leave (scopes.Variable x.variable) (statement_place b x.block) ∷ []) deep (deep, (tt, tt))

        go : (y z : Bool) → Leaves (enters b s i d e x k) → AllLeave (caught p b s (i + 1) xs d e t pos k)
            → AllLeave (if y then enters b s i d e x k ∷ [] else (if z then enters b s i d e x k ∷ caught p b s (i + 1) xs d e t pos k else caught p b s (i + 1) xs d e t pos k))
        go true z first others = (first, tt)
        go false true first others = (first, others)
        go false false first others = others

    at_catches : (c : Completion) (s : StmtId) (d : ℕ) → floor k ≤ d → HeldOut held c → AllLeave (at_catch c p b s d k)
    at_catches (completions.Break pos) s d deep is = goes_out (completions.Break pos) is
    at_catches (completions.Throw e t pos) s d deep is = catching s 0 (clauses_in (statement_at b s)) d e t pos deep is
    at_catches c s d deep is = goes_out c is

    -- the exception that waited stays, and the temps above it are dropped
    waited : (d : ℕ) (t : ClassId) (pos : Pos) → floor k ≤ d → held d → AllLeave (record { action = actions.Drop (scopes.TempsAbove d); edge = edges.Go; to = Out (completions.Throw d t pos) ∷ k } ∷ [])
    waited d t pos deep is = (((λ after. (still after, rest (actions.Drop (scopes.TempsAbove d)) edges.Go (omega (arith, deep)) after)), tt), tt)
      where
        still : IsAfter p b held later (actions.Drop (scopes.TempsAbove d)) edges.Go → later d
        still after = elim (cases_lt d 64) [
          | inl small ↦ after.stays d small (ap (λ (c : Bool). emptied c (places.Temp d)) (lt_self d)) is
          | inr far ↦ after.deep d far
        ]

    at_supps : (waiting c : Completion) (d : ℕ) → floor k ≤ d → HeldAt held waiting d → HeldOut held c → AllLeave (at_supp waiting c d k)
    at_supps (completions.Break pos) c d deep at is = settling c d deep is
    at_supps (completions.Throw e t pos) c d deep at is =
        subst (λ (y : ℕ). AllLeave (record { action = actions.Drop (scopes.TempsAbove d); edge = edges.Go; to = Out (completions.Throw y t pos) ∷ k } ∷ [])) (sym at.0) (waited d t pos deep at.1)
    at_supps waiting c d deep at is = settling c d deep is

    -- a completion that waited goes on
    waiting_out : (c : Completion) (d : ℕ) → HeldAt held c d → AllLeave (skip (Out c ∷ k))
    waiting_out (completions.Break pos) d at = goes_out (completions.Break pos) tt
    waiting_out (completions.Throw e t pos) d at = goes_out (completions.Throw e t pos) (subst (λ (y : ℕ). held y) (sym at.0) at.1)
    waiting_out (completions.Continue pos) d at = goes_out (completions.Continue pos) tt
    waiting_out (completions.Return pos) d at = goes_out (completions.Return pos) tt
    waiting_out (completions.ReturnValue e pos) d at = goes_out (completions.ReturnValue e pos) tt

    -- and one that begins to wait
    begins_finally : (c : Completion) (f : StmtId) (d : ℕ) → floor k ≤ d → HeldOut held c → AllLeave (record { action = actions.Settle d c; edge = edges.Go; to = Do f (d + 1) ∷ Finish (at_depth c d) d f ∷ k } ∷ [])
    begins_finally c f d deep is = (((λ after. (omega arith, (deep, settled_at c d is after, rest (actions.Settle d c) edges.Go deep after))), tt), tt)

  begins_close : (c : Completion) (r : Closing) (d : ℕ) (k : List Todo) → floor k ≤ d → HeldOut held c → Waits held k
      → AllLeave (record { action = actions.Settle d c; edge = edges.Go; to = close_front r (d + 1) ++ Supp (at_depth c d) d r.statement ∷ k } ∷ [])
  begins_close c r d k deep is w = (
    (
      (λ after.
          let waits : Waits later (Supp (at_depth c d) d r.statement ∷ k) = (deep, settled_at k w c d is after, rest k w (actions.Settle d c) edges.Go deep after) in
          waits_keeps (close_front r (d + 1) ++ Supp (at_depth c d) d r.statement ∷ k)
          (front_waits (close_front r (d + 1)) (Supp (at_depth c d) d r.statement ∷ k) (close_from (d + 1) b r (d + 1) (omega arith)) waits)),
      tt,
    ),
    tt,
  )

  ending : (c : Completion) → HeldOut held c → AllLeave (ends c)
  ending (completions.Break pos) is = tt
  ending (completions.Continue pos) is = tt
  ending (completions.Return pos) is = (((λ after. (tt, tt)), tt), tt)
  ending (completions.ReturnValue d pos) is = (((λ after. (tt, tt)), tt), tt)
  ending (completions.Throw d t pos) is = (((λ after. (tt, tt)), is), tt)

  -- ---- past an item

  going_out : (c : Completion) (k : List Todo) → HeldOut held c → Waits held k → AllLeave (out p b c k)
  going_out c [] is w = ending c is
  going_out c (LoopEnd s d ∷ k) is w = looping k w.1 c s d w.0 is
  going_out c (Leave x pos ∷ k) is w = dropping x w.0
    where
      dropping : (s : Scope) → HasVariables s → AllLeave (record { action = actions.Drop s; edge = edges.Go; to = Out c ∷ k } ∷ [])
      dropping (scopes.Declared s) has = (((λ after. (out_later k w.1 c (λ y. more s after y) is, rest k w.1 (actions.Drop (scopes.Declared s)) edges.Go tt after)), tt), tt)
        where
          more : (s' : StmtId) → IsAfter p b held later (actions.Drop (scopes.Declared s')) edges.Go → (y : ℕ) → held y → later y
          more s' after y has' = kept_below (y + 1) (actions.Drop (scopes.Declared s')) edges.Go tt after y (omega arith) has'
      dropping (scopes.Variable z) has = (((λ after. (out_later k w.1 c (λ y. more after y) is, rest k w.1 (actions.Drop (scopes.Variable z)) edges.Go tt after)), tt), tt)
        where
          more : IsAfter p b held later (actions.Drop (scopes.Variable z)) edges.Go → (y : ℕ) → held y → later y
          more after y has' = kept_below (y + 1) (actions.Drop (scopes.Variable z)) edges.Go tt after y (omega arith) has'
      dropping (scopes.Temp d) has = absurd has
      dropping (scopes.TempsAbove d) has = absurd has
  going_out c (Catch s d ∷ k) is w = at_catches k w.1 c s d w.0 is
  going_out c (Fin f d ∷ k) is w = begins_finally k w.1 c f d w.0 is
  going_out c (Close r d ∷ k) is w = begins_close c r d k w.0 is w.1
  going_out c (Finish waiting d f ∷ k) is w = settling k w.2 c d w.0 is
  going_out c (Supp waiting d s ∷ k) is w = at_supps k w.2 waiting c d w.0 w.1 is
  going_out c (x ∷ k) is w = goes_out k w.1 c is

  all_ways : (k : List Todo) → KeepsThrown held k → AllLeave (ways p b k)
  all_ways [] keeps = (((λ after. (tt, tt)), tt), tt)
  all_ways (Do s d ∷ k) keeps = in_statement k keeps.1 s d (statement_at b s) keeps.0
  all_ways (Ev e d ∷ k) keeps = in_expression k keeps.1 e d (expression_at b e) keeps.0
  all_ways (Act a pos ∷ k) keeps = acting k keeps.1 a pos keeps.0
  all_ways (Cond c d x y ∷ k) keeps = skips k keeps.1 (condition_front b c d x y) (condition_from (floor k) p b x y d keeps.0.0 keeps.0.1 keeps.0.2 c)
  all_ways (NullFork pos d x y ∷ k) keeps = (
    goes k keeps.1 (actions.Test d) edges.Null (todos x) keeps.0.0 (todos_from (floor k) p b x keeps.0.1),
    (goes k keeps.1 (actions.Test d) edges.NonNull (todos y) keeps.0.0 (todos_from (floor k) p b y keeps.0.2), tt),
  )
  all_ways (BoolFork pos d x y ∷ k) keeps = (
    goes k keeps.1 (actions.Test d) edges.True (todos x) keeps.0.0 (todos_from (floor k) p b x keeps.0.1),
    (goes k keeps.1 (actions.Test d) edges.False (todos y) keeps.0.0 (todos_from (floor k) p b y keeps.0.2), tt),
  )
  all_ways (LoopEnd s d ∷ k) keeps = in_loop k keeps.1 s d (statement_at b s) keeps.0
  all_ways (For s d ∷ k) keeps = in_for k keeps.1 s d (statement_at b s) keeps.0
  all_ways (Leave x pos ∷ k) keeps = (leaving x keeps.0, tt)
    where
      leaving : (s : Scope) → HasVariables s → Leaves (record { action = actions.Drop s; edge = edges.Go; to = k })
      leaving (scopes.Declared s) has = goes k keeps.1 (actions.Drop (scopes.Declared s)) edges.Go [] tt tt
      leaving (scopes.Variable z) has = goes k keeps.1 (actions.Drop (scopes.Variable z)) edges.Go [] tt tt
      leaving (scopes.Temp d) has = absurd has
      leaving (scopes.TempsAbove d) has = absurd has
  all_ways (Catch s d ∷ k) keeps = skips k keeps.1 [] tt
  all_ways (Fin f d ∷ k) keeps = skips k keeps.1 (Do f d ∷ []) (keeps.0, tt)
  all_ways (Close r d ∷ k) keeps = skips k keeps.1 (close_front r d) (close_from (floor k) b r d keeps.0)
  all_ways (Finish c d f ∷ k) keeps = waiting_out k keeps.2 c d keeps.1
  all_ways (Supp c d s ∷ k) keeps = waiting_out k keeps.2 c d keeps.1
  all_ways (Out c ∷ k) keeps = going_out c k keeps.0 keeps.1
  all_ways (Ended ∷ k) keeps = tt

  -- ---- steps

  step_of_way : (pos : Pos) (ws : List Way) (i : ℕ) (t : Step) → slice_get (map (step_at pos) ws) i ≡ Some t → (w : Way) × (slice_get ws i ≡ Some w) × (step_at pos w ≡ t)
  step_of_way pos ws i t at = go (slice_get ws i) refl (sym (slice_get-map (step_at pos) ws i) ∙ at)
    where
      go : (w : Option Way) → slice_get ws i ≡ w → option_map (step_at pos) w ≡ Some t → (w : Way) × (slice_get ws i ≡ Some w) × (step_at pos w ≡ t)
      go None before same = absurd (let never : None ≡ Some t = same in cc)
      go (Some w) before same = (w, before, (let both : step_at pos w ≡ t = cc in both))

  pub step_keeps : (n : BodyId) (k : List Todo) (i : ℕ) (t : Step) → body_at p n ≡ Some b → KeepsThrown held k → slice_get (next_of p n k) i ≡ Some t
      → (IsAfter p b held later t.action t.edge → KeepsThrown later t.to) × EndsHeld held t.action
  unfolding next_of
  step_keeps n k i t at keeps there =
      let w = step_of_way (control_place b k) (ways p b k) i t (ap (λ (y : Option Body). slice_get (steps_in p y k) i) (sym at) ∙ there) in
      let leaves = way_at (ways p b k) i w.0 (all_ways k keeps) w.1 in
      subst (λ (s : Step). (IsAfter p b held later s.action s.edge → KeepsThrown later s.to) × EndsHeld held s.action) w.2 leaves

-- no exception is on its way as a body begins
pub start_keeps : (p : Program) (n : BodyId) (held : ℕ → Type 0) → KeepsThrown held (start_of p n)
unfolding start_of
start_keeps p n held = go (body_at p n)
  where
    go : (x : Option Body) → KeepsThrown held (start_in x)
    go None = tt
    go (Some b) =
        subst (λ (k : List Todo). KeepsThrown held k) (append-nil (listed_front b b.stmts.items))
        (waits_keeps p b held held (listed_front b b.stmts.items ++ []) (front_waits p b held held (listed_front b b.stmts.items) [] (start_from b b.stmts.items) tt))
