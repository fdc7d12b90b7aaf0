-- All steps at a control are steps of one call, where one is: so a frame lends `this` where a step that it takes creates the obligation of `this` anew, and nowhere else.
use Rattle.std.specs.Prelude.{◌&&◌, ◌||◌}
use Rattle.std.specs.List.{list_any}
use Rattle.std.proofs.Common.{◌≡◌, ℕ, zero, suc, Bool, true, false, Some, None, List, [], ◌∷◌, slice_get, refl, sym, ap, ◌∙◌, true≢false}
use Rattle.program_model.specs.declared.program.Program.{Program}
use Rattle.java_control.specs.Calls.{is_reset_of_this}
use Rattle.java_control.specs.Control.{Step}
use Rattle.control_actions.specs.declared.action.Action.{Action}
use Rattle.control_actions.specs.declared.action.Action.TheVariants as actions
use Rattle.control_actions.specs.declared.place.Place.{Place}
use Rattle.ledger_moves.specs.Configuration.{Frame}
use Rattle.ledger_moves.specs.Choosing.{frame_steps}
use Rattle.fact_laws.specs.Calling.{may_call}
use Rattle.fact_laws.proofs.CallWays.{one_action}
use Rattle.agreement.specs.Agreement.{Stands}
use Rattle.agreement.specs.PlaceFacts.{is_field_place, is_lent_place}
use Rattle.agreement.specs.Renewing.{lends_this}
use Rattle.frame_laws.proofs.Ready.{step_here}

-- one passes the test: so it is of all
passes : {X : Type 0} (f : X → Bool) (xs : List X) (i : ℕ) (x : X) → slice_get xs i ≡ Some x → f x ≡ true → list_any f xs ≡ true
passes f [] i x at is = absurd (let never : None ≡ Some x = at in cc)
passes f (y ∷ ys) zero x at is = let same : y ≡ x = (let both : Some y ≡ Some x = at in cc) in ap (λ (b : Bool). b || list_any f ys) (ap f same ∙ is)
passes f (y ∷ ys) (suc i) x at is = go (f y) (passes f ys i x at is)
  where
    go : (b : Bool) → list_any f ys ≡ true → (b || list_any f ys) ≡ true
    go true rest = refl
    go false rest = rest

none_passes : {X : Type 0} (f : X → Bool) (xs : List X) → ((i : ℕ) (x : X) → slice_get xs i ≡ Some x → f x ≡ false) → list_any f xs ≡ false
none_passes f [] all = refl
none_passes f (y ∷ ys) all = go (f y) (all zero y refl) (none_passes f ys (λ i x at. all (suc i) x at))
  where
    go : (b : Bool) → b ≡ false → list_any f ys ≡ false → (b || list_any f ys) ≡ false
    go true is rest = absurd (true≢false is)
    go false is rest = rest

-- what creates the obligation of `this` anew is a call
reset_calls : (p : Program) (a : Action) → is_reset_of_this p a ≡ true → may_call a ≡ true
reset_calls p (actions.Call m d n form) is = refl
reset_calls p actions.Skip is = absurd (true≢false (sym is))
reset_calls p (actions.Copy x y) is = absurd (true≢false (sym is))
reset_calls p (actions.Move x y) is = absurd (true≢false (sym is))
reset_calls p (actions.Plain x v) is = absurd (true≢false (sym is))
reset_calls p (actions.Drop s) is = absurd (true≢false (sym is))
reset_calls p (actions.Settle d c) is = absurd (true≢false (sym is))
reset_calls p (actions.Enter clause x d from) is = absurd (true≢false (sym is))
reset_calls p (actions.Test d) is = absurd (true≢false (sym is))
reset_calls p (actions.Op k d n) is = absurd (true≢false (sym is))
reset_calls p (actions.Get g d this) is = absurd (true≢false (sym is))
reset_calls p (actions.Put g d this) is = absurd (true≢false (sym is))
reset_calls p (actions.Cast t d) is = absurd (true≢false (sym is))
reset_calls p (actions.PutOwn g d) is = absurd (true≢false (sym is))
reset_calls p (actions.New m d n) is = absurd (true≢false (sym is))
reset_calls p (actions.Super m d n) is = absurd (true≢false (sym is))
reset_calls p (actions.Raise d c) is = absurd (true≢false (sym is))
reset_calls p (actions.End c) is = absurd (true≢false (sym is))

module _ (p : Program) (fr : Frame) (st : Stands p fr) (i : ℕ) (s : Step) (here : slice_get (frame_steps p fr) i ≡ Some s) where
  pub lends_by : is_reset_of_this p s.action ≡ true → lends_this p fr ≡ true
  lends_by is = passes (λ (t : Step). is_reset_of_this p t.action) (frame_steps p fr) i s here is

  pub keeps_this : is_reset_of_this p s.action ≡ false → lends_this p fr ≡ false
  keeps_this is = none_passes (λ (t : Step). is_reset_of_this p t.action) (frame_steps p fr) other
    where
      other : (j : ℕ) (t : Step) → slice_get (frame_steps p fr) j ≡ Some t → is_reset_of_this p t.action ≡ false
      other j t there = go (is_reset_of_this p t.action) refl
        where
          go : (b : Bool) → is_reset_of_this p t.action ≡ b → is_reset_of_this p t.action ≡ false
          go false none = none
          go true resets =
              let same = one_action p st.number fr.control j i t s (step_here p fr st j t there) (step_here p fr st i s here) (reset_calls p t.action resets) in
              absurd (true≢false (sym resets ∙ ap (is_reset_of_this p) (sym same) ∙ is))

  -- so no place is lent then
  pub keeps_place : is_reset_of_this p s.action ≡ false → (q : Place) → is_lent_place p fr q ≡ false
  keeps_place is q = go (is_field_place q) (lends_this p fr) (keeps_this is)
    where
      go : (a b : Bool) → b ≡ false → (a && b) ≡ false
      go true b none = none
      go false b none = refl
