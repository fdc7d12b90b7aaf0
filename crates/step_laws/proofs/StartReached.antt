-- Each control that a body reaches is before the call of the super constructor, or behind it; only behind it an owning field of `this` is stored.
use Rattle.std.proofs.Common.{◌≡◌, inl, inr, ℕ, zero, suc, Bool, true, false, Option, Some, None, List, [], ◌∷◌, map, slice_get, option_map, refl, sym, ap, ◌∙◌, subst, true≢false}
use Rattle.std.proofs.lemmas.Option.{slice_get-map}
use Rattle.program_model.specs.declared.kinds.BodyId.{BodyId}
use Rattle.program_model.specs.declared.kinds.FieldId.{FieldId}
use Rattle.program_model.specs.declared.program.Program.{Program}
use Rattle.program_model.specs.declared.tree.Body.{Body}
use Rattle.program_model.specs.Lookups.{body_at}
use Rattle.program_model.specs.Validity.{IsTypedProgram}
use Rattle.rlc_base.specs.declared.place.Pos.{Pos}
use Rattle.java_control.specs.Calls.{is_reset_of_this}
use Rattle.java_control.specs.Control.{Step, control_place, next_of, start_in, start_of, step_at, steps_in, ways}
use Rattle.java_control.specs.Remaining.{Todo, Way}
use Rattle.control_actions.specs.declared.action.Action.{Action}
use Rattle.control_actions.specs.declared.action.Action.TheVariants as actions
use Rattle.control_actions.specs.declared.action.TargetForm.TheVariants as target_forms
use Rattle.accepted_programs.specs.Paths.{Comes, Move, move_of, on, relation_of, start}
use Rattle.step_laws.specs.Starts.{LeadsTo, here, is_super}
use Rattle.step_laws.specs.Starts as starts
use Rattle.step_laws.specs.SuperArguments.{SuperCallsPassNoThis}
use Rattle.step_laws.proofs.StartItems.{IsDue}
use Rattle.step_laws.proofs.Orders.{IsBehind, IsSorted, sorted_start, ways_before, ways_behind}
use Rattle.step_laws.proofs.StartWays.{AllLeaveGood, LeavesGood}

way_at : (early : Bool) (S : List Todo → Type 0) (ws : List Way) (i : ℕ) (w : Way) → AllLeaveGood early S ws → slice_get ws i ≡ Some w → LeavesGood early S w
way_at early S [] i w all at = absurd (no_way i w at)
  where
    no_way : (i : ℕ) (w : Way) → slice_get [] i ≡ Some w → ⊥
    no_way zero w is = let never : None ≡ Some w = is in cc
    no_way (suc i) w is = let never : None ≡ Some w = is in cc
way_at early S (v ∷ ws) zero w all at = subst (LeavesGood early S) (let both : Some v ≡ Some w = at in (let same : v ≡ w = cc in same)) all.0
way_at early S (v ∷ ws) (suc i) w all at = way_at early S ws i w all.1 at

step_of_way : (pos : Pos) (ws : List Way) (i : ℕ) (t : Step) → slice_get (map (step_at pos) ws) i ≡ Some t → (w : Way) × (slice_get ws i ≡ Some w) × (step_at pos w ≡ t)
step_of_way pos ws i t at = go (slice_get ws i) refl (sym (slice_get-map (step_at pos) ws i) ∙ at)
  where
    go : (w : Option Way) → slice_get ws i ≡ w → option_map (step_at pos) w ≡ Some t → (w : Way) × (slice_get ws i ≡ Some w) × (step_at pos w ≡ t)
    go None before same = absurd (let never : None ≡ Some t = same in cc)
    go (Some w) before same = (w, before, (let both : step_at pos w ≡ t = cc in both))

stores_none : (a : Action) (f : FieldId) (d : ℕ) → IsDue true a → a ≡ actions.PutOwn f d → ⊥
stores_none a f d due is = true≢false (subst (IsDue true) is due)

calls_nothing : (p : Program) (a : Action) → IsDue true a → is_reset_of_this p a ≡ true → ⊥
calls_nothing p (actions.Call m d n target_forms.This) due lends = true≢false due
calls_nothing p (actions.Call m d n target_forms.Super) due lends = true≢false due
calls_nothing p (actions.Call m d n target_forms.Static) due lends = true≢false (sym lends)
calls_nothing p (actions.Call m d n target_forms.Other) due lends = true≢false (sym lends)
calls_nothing p actions.Skip due lends = true≢false (sym lends)
calls_nothing p a due lends = true≢false (sym lends)

calls_none : (a : Action) → IsDue false a → is_super a ≡ false
calls_none (actions.Super m d n) due = absurd (true≢false (sym due))
calls_none a due = refl

-- a step goes to such a control, by an action that is due
abbrev GoesGood : Body → Bool → (List Todo → Type 0) → Move (List Todo) → Type 0
GoesGood x early S t = IsDue early t.action × S t.to

module _ (p : Program) (typed : IsTypedProgram p) (b : BodyId) (x : Body) (at : body_at p b ≡ Some x) where
  good_step : (early : Bool) (S : List Todo → Type 0) (k : List Todo) (i : ℕ) (t : Step) → AllLeaveGood early S (ways p x k) → slice_get (next_of p b k) i ≡ Some t → IsDue early t.action × S t.to
  unfolding next_of
  good_step early S k i t good there =
      let w = step_of_way (control_place x k) (ways p x k) i t (ap (λ (y : Option Body). slice_get (steps_in p y k) i) (sym at) ∙ there) in
      subst (λ (s : Step). IsDue early s.action × S s.to) w.2 (way_at early S (ways p x k) i w.0 good w.1)

  move_back : (k : List Todo) (i : ℕ) (t : Move (List Todo)) → slice_get ((relation_of p b).next k) i ≡ Some t → (s : Step) × (slice_get (next_of p b k) i ≡ Some s) × (move_of s ≡ t)
  move_back k i t there = go (slice_get (next_of p b k) i) refl (sym (slice_get-map move_of (next_of p b k) i) ∙ there)
    where
      go : (s : Option Step) → slice_get (next_of p b k) i ≡ s → option_map move_of s ≡ Some t → (s : Step) × (slice_get (next_of p b k) i ≡ Some s) × (move_of s ≡ t)
      go None before same = absurd (let never : None ≡ Some t = same in cc)
      go (Some s) before same = (s, before, (let both : move_of s ≡ t = cc in both))

  good_move : (early : Bool) (S : List Todo → Type 0) (k : List Todo) (i : ℕ) (t : Move (List Todo)) → AllLeaveGood early S (ways p x k) → slice_get ((relation_of p b).next k) i ≡ Some t
      → GoesGood x early S t
  good_move early S k i t good there =
      let s = move_back k i t there in
      subst (GoesGood x early S) s.2 (good_step early S k i s.0 good s.1)

  -- from a control behind the call
  pub moves_behind : (k : List Todo) (i : ℕ) (t : Move (List Todo)) → IsBehind x k → slice_get ((relation_of p b).next k) i ≡ Some t → (is_super t.action ≡ false) × IsBehind x t.to
  moves_behind k i t behind there =
      let good = good_move false (IsBehind x) k i t (ways_behind p x b (typed.bodies b x at) k behind) there in
      (calls_none t.action good.0, good.1)

  moves_sorted : (k : List Todo) (i : ℕ) (t : Move (List Todo)) → IsSorted x k → slice_get ((relation_of p b).next k) i ≡ Some t → IsSorted x t.to
  moves_sorted k i t (inl before) there = (good_move true (IsSorted x) k i t (ways_before p x b (typed.bodies b x at) k before) there).1
  moves_sorted k i t (inr behind) there = inr (moves_behind k i t behind there).1

  module _ (passes : SuperCallsPassNoThis p) where
    start_is_sorted : IsSorted x (start_of p b)
    unfolding start_of
    start_is_sorted =
        subst (λ (y : Option Body). IsSorted x (start_in y)) (sym at)
        (sorted_start p x b (typed.bodies b x at) (λ s y there. passes b x s y at there) x.stmts.items (typed.bodies b x at).super_call)

    reached_is_sorted : (k : List Todo) → Comes (relation_of p b) k → IsSorted x k
    reached_is_sorted k start = start_is_sorted
    reached_is_sorted k (on i t before there) = moves_sorted _ i t (reached_is_sorted _ before) there

    -- a store into an owning field of `this` leads behind the call
    pub store_is_behind : (k : List Todo) (i : ℕ) (t : Move (List Todo)) (f : FieldId) (d : ℕ) → Comes (relation_of p b) k → slice_get ((relation_of p b).next k) i ≡ Some t
        → t.action ≡ actions.PutOwn f d → IsBehind x t.to
    store_is_behind k i t f d comes there is = go (reached_is_sorted k comes)
      where
        go : IsSorted x k → IsBehind x t.to
        go (inl before) = absurd (stores_none t.action f d (good_move true (IsSorted x) k i t (ways_before p x b (typed.bodies b x at) k before) there).0 is)
        go (inr behind) = (moves_behind k i t behind there).1

    -- so does a call that creates the obligation of `this` anew
    pub reset_is_behind : (k : List Todo) (i : ℕ) (t : Move (List Todo)) → Comes (relation_of p b) k → slice_get ((relation_of p b).next k) i ≡ Some t → is_reset_of_this p t.action ≡ true → IsBehind x t.to
    reset_is_behind k i t comes there lends = go (reached_is_sorted k comes)
      where
        go : IsSorted x k → IsBehind x t.to
        go (inl before) = absurd (calls_nothing p t.action (good_move true (IsSorted x) k i t (ways_before p x b (typed.bodies b x at) k before) there).0 lends)
        go (inr behind) = (moves_behind k i t behind there).1

    behind_after : (k l : List Todo) → IsBehind x k → LeadsTo (relation_of p b) k l → IsBehind x l
    behind_after k l behind here = behind
    behind_after k l behind (starts.on i t before there) = (moves_behind _ i t (behind_after k _ behind before) there).1

-- a body that takes a step is there
pub body_there : (p : Program) (b : BodyId) (k : List Todo) (i : ℕ) (t : Move (List Todo)) → slice_get ((relation_of p b).next k) i ≡ Some t → (x : Body) × (body_at p b ≡ Some x)
unfolding next_of
body_there p b k i t there = go (body_at p b) refl there
  where
    go : (x : Option Body) → body_at p b ≡ x → slice_get (map move_of (steps_in p x k)) i ≡ Some t → (x : Body) × (body_at p b ≡ Some x)
    go None at step = absurd (none i step)
      where
        none : (n : ℕ) → slice_get [] n ≡ Some t → ⊥
        none zero is = let never : None ≡ Some t = is in cc
        none (suc n) is = let never : None ≡ Some t = is in cc
    go (Some x) at step = (x, at)

pub follows : (p : Program) → IsTypedProgram p → SuperCallsPassNoThis p → (b : BodyId) (k l : List Todo) (i j : ℕ) (t u : Move (List Todo)) (f : FieldId) (d : ℕ)
    → Comes (relation_of p b) k → slice_get ((relation_of p b).next k) i ≡ Some t → t.action ≡ actions.PutOwn f d
    → LeadsTo (relation_of p b) t.to l → slice_get ((relation_of p b).next l) j ≡ Some u → is_super u.action ≡ false
follows p typed passes b k l i j t u f d comes first is leads second =
    let x = body_there p b k i t first in
    let behind = store_is_behind p typed b x.0 x.1 passes k i t f d comes first is in
    (moves_behind p typed b x.0 x.1 l j u (behind_after p typed b x.0 x.1 passes t.to l behind leads) second).0
