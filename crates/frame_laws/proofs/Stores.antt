-- A store into an owning field: an owned fact that has not the value goes on as it is, and the class of one that has it fits the
-- field's type.
use Rattle.std.proofs.Common.{◌≡◌, ℕ, ◌<◌, Bool, true, false, not, ◌||◌, Some, slice_get, refl, sym, ap, ◌∙◌, subst, true≢false, if◌then◌else◌}
use Rattle.std.specs.FinSet as set
use Rattle.program_model.specs.declared.kinds.BodyId.{BodyId}
use Rattle.program_model.specs.declared.kinds.FieldId.{FieldId}
use Rattle.program_model.specs.declared.program.Program.{Program}
use Rattle.ledger_steps.specs.MustCallSets.{fits, fits_type, beyond_type, is_empty, is_heavy_class, must_of, must_of_optional}
use Rattle.ownership_rules.specs.Signatures.{field_type}
use Rattle.java_control.specs.Control.{Step}
use Rattle.java_control.specs.Owned.{place_of_field}
use Rattle.java_control.specs.PlaceNumbers.{IsSmall}
use Rattle.java_control.specs.Sources.{source}
use Rattle.control_actions.specs.declared.action.Action.{Action}
use Rattle.control_actions.specs.declared.action.Action.TheVariants as actions
use Rattle.control_actions.specs.declared.action.Edge.{Edge}
use Rattle.control_actions.specs.declared.fact.Fact.{Fact}
use Rattle.control_actions.specs.declared.fact.Mode.TheVariants as modes
use Rattle.control_actions.specs.declared.fact.Origin.{Origin}
use Rattle.control_actions.specs.declared.fact.Outcome.TheVariants.{Next, Fault}
use Rattle.control_actions.specs.declared.fact.Rule.TheVariants as rules
use Rattle.control_actions.specs.declared.place.Place.{Place}
use Rattle.control_actions.specs.declared.place.Place.TheVariants as places
use Rattle.ownership_rules.specs.Facts.{has, need}
use Rattle.ownership_rules.specs.SmallActions.{IsSmallAction}
use Rattle.fact_laws.specs.OwningFieldsStores.{heavy_stored, is_heavy_store, keeps_other, lacks_reset, may_store, object_stored, stored_over, with_field}
use Rattle.fact_laws.specs.Flow.{flow}
use Rattle.fact_laws.specs.Paths.{Reach, flowed, move_of, relation_of}
use Rattle.fact_laws.specs.Accept.{Accept}
use Rattle.ledger_state.specs.Contents.{HeapContents}
use Rattle.ledger_state.specs.Heaps.{root_of}
use Rattle.ledger_state.specs.Locals.{temp_value}
use Rattle.ledger_state.specs.declared.object.Object.{Object}
use Rattle.ledger_state.specs.declared.value.Value.{Value}
use Rattle.ledger_steps.specs.Obligations.{is_unmet}
use Rattle.agreement.specs.Places.{place_value}
use Rattle.ledger_moves.specs.Configuration.{Frame}
use Rattle.ledger_moves.specs.Choosing.{body_by, body_id, frame_steps}
use Rattle.ledger_moves.specs.LedgerFramesFrames.{frame_after}
use Rattle.rlc_base.proofs.SetLaws.{within_trans}
use Rattle.agreement.specs.Heaps.{GoesOn}
use Rattle.frame_laws.specs.Steps.{RootsStay}
use Rattle.agreement.specs.PlacePlaces.{HasTarget, is_local}
use Rattle.fact_laws.proofs.PlaceLaws.{value_comes_from_source}
use Rattle.agreement.specs.Agreement.{Stands, Tracks}
use Rattle.fact_laws.specs.Outcomes.{IsFault}
use Rattle.frame_laws.proofs.Births.{heavy_by_unmet}
use Rattle.frame_laws.proofs.CallNames.{HasLocals, not_among}
use Rattle.frame_laws.proofs.Carried.{still_bounded}
use Rattle.frame_laws.proofs.Following.{breaks_nothing}
use Rattle.frame_laws.proofs.Ready.{step_there}
use Rattle.frame_laws.proofs.Tracking.{same_body}

-- ---- the row

-- a fact that has neither `this`, nor the value, nor the field
stays : (p : Program) (b : BodyId) (o : Origin) (g : FieldId) (d : ℕ) (e : Edge) (f : Fact) → has f.places places.This ≡ false → has f.places (places.Temp d) ≡ false
    → has f.places (place_of_field p g) ≡ false → flow p b o (actions.PutOwn g d) e f ≡ Next f
stays p b o g d e f this value field = rw (this, value, field) refl

module _ (p : Program) (b : BodyId) (o : Origin) (g : FieldId) (d : ℕ) (e : Edge) (f : Fact) (value : has f.places (places.Temp d) ≡ true) (field : has f.places (place_of_field p g) ≡ false)
    (heavy : is_heavy_class p o.class ≡ true) (narrow : fits_type p o.class (field_type p g) ≡ false) where
  heavy_store : is_heavy_store p o g ≡ true
  heavy_store = ap (λ (x : Bool). x || not (is_empty (must_of_optional p (field_type p g)))) heavy

  same : object_stored p b o g f ≡ heavy_stored p b o g f
  same =
      ap (λ (x : Bool). if x then Next f else (if is_heavy_store p o g then heavy_stored p b o g f else Next (with_field p g f.mode f))) field
      ∙ ap (λ (x : Bool). if x then heavy_stored p b o g f else Next (with_field p g f.mode f)) heavy_store

  by_rule : (x y : Bool) → IsFault (if x then Fault rules.AliasKept (must_of p o.class)
      else (if not y then Fault rules.NotOwned (must_of p o.class)
      else (if not (fits_type p o.class (field_type p g)) then Fault rules.Narrow (beyond_type p o.class (field_type p g)) else Next (with_field p g modes.Held f))))
  by_rule true y = tt
  by_rule false false = tt
  by_rule false true = rw narrow tt

  -- an object whose class does not fit the field's type
  narrow_faults : IsFault (flow p b o (actions.PutOwn g d) e f)
  narrow_faults = go (lacks_reset p b g f)
    where
      go : (x : Bool) → IsFault (if x then Fault rules.ResetMissing (must_of p o.class) else (if has f.places (places.Temp d) then object_stored p b o g f else stored_over p o g f))
      go true = tt
      go false = subst (λ (x : Bool). IsFault (if x then object_stored p b o g f else stored_over p o g f)) (sym value)
          (subst IsFault (sym same) (by_rule (keeps_other p b o) (may_store p b o f)))

-- ---- the frame

module _ (p : Program) (ac : Accept p) (h : HeapContents) (fr : Frame) (st : Stands p fr) (i : ℕ) (s : Step) (here : slice_get (frame_steps p fr) i ≡ Some s) (g : FieldId) (d : ℕ)
    (is : s.action ≡ actions.PutOwn g d) (o : ℕ) (x : Object) (t : Tracks p h fr o x) where
  reached : Reach p st.number (relation_of p st.number) t.origin fr.control t.fact
  reached = subst (λ (b : BodyId). Reach p b (relation_of p b) t.origin fr.control t.fact) (same_body t.body st.number (body_id p fr.method) t.id st.id) t.reached

  locals : HasLocals t.fact.places
  locals q small has' = (t.follows.places q small has').0

  small : (d < 64) × IsSmall (place_of_field p g)
  small = subst (IsSmallAction p) is ((ac.fits st.number).steps i (move_of s) st.control (step_there p fr st i s here))

  no_field : has t.fact.places (place_of_field p g) ≡ false
  no_field = not_among t.fact.places (place_of_field p g) locals small.1 refl

  -- the value of the store is the object of a fact that has it: its class fits the field's type
  pub store_fits : is_unmet x ≡ true → has t.fact.places (places.Temp d) ≡ true
      → (root_of h (temp_value fr.locals d) ≡ Some o) × (set.is_subset (must_of p x.class) (must_of_optional p (field_type p g)) ≡ true)
  store_fits unmet value = ((t.follows.places (places.Temp d) small.0 value).1, go (fits_type p t.origin.class (field_type p g)) refl)
    where
      go : (b : Bool) → fits_type p t.origin.class (field_type p g) ≡ b → set.is_subset (must_of p x.class) (must_of_optional p (field_type p g)) ≡ true
      go true fit = within_trans (must_of p x.class) (must_of p t.origin.class) (must_of_optional p (field_type p g)) t.follows.class fit
      go false narrow = absurd (breaks_nothing p ac st.number t.origin i (move_of s) t.fact reached (step_there p fr st i s here)
          (subst (λ (a : Action). IsFault (flow p st.number t.origin a s.edge t.fact)) (sym is)
          (narrow_faults p st.number t.origin g d s.edge t.fact value no_field
          (heavy_by_unmet p t.origin.class x unmet (within_trans x.must (must_of p x.class) (must_of p t.origin.class) t.follows.bounded t.follows.class)) narrow)))

  -- a fact that has it not goes on as it is
  pub tracks_store : (k : HeapContents) (v : Value) (y : Object) → RootsStay h k o → GoesOn x y → has t.fact.places (places.Temp d) ≡ false → Tracks p k (frame_after p h fr s v) o y
  tracks_store k v y stay goes other = record {
    body = st.number;
    id = st.id;
    origin = t.origin;
    fact = t.fact;
    reached = flowed i (move_of s) reached (step_there p fr st i s here)
        (subst (λ (a : Action). flow p st.number t.origin a s.edge t.fact ≡ Next t.fact) (sym is)
        (stays p st.number t.origin g d s.edge t.fact (not_among t.fact.places places.This locals tt refl) other no_field));
    follows = record {
      own = t.follows.own;
      class = ap (λ c. fits p c t.origin.class) goes.class ∙ t.follows.class;
      bounded = still_bounded p x y goes t.follows.bounded;
      need = ap (λ m. set.is_subset m (need t.origin t.fact)) goes.must ∙ t.follows.need;
      called = within_trans t.fact.called x.called y.called t.follows.called goes.called;
      some = t.follows.some;
      alone = t.follows.alone;
      places = λ q room held.
          let was = t.follows.places q room held in (
            was.0,
            ap (root_of k)
                (value_comes_from_source p h k fr.method st.body fr.locals s.action s.edge v q q o (ap (body_by p) st.id ∙ st.at) room was.0 (subst (HasTarget fr.locals) (sym is) tt)
                (ap (λ (a : Action). source p st.body a s.edge q) is ∙ itself q was.0) was.1)
                ∙ stay (place_value p h fr.method fr.locals q) was.1,
          );
    };
  }
    where
      itself : (q : Place) → is_local q ≡ true → source p st.body (actions.PutOwn g d) s.edge q ≡ Some q
      itself (places.Var n) local = refl
      itself (places.Temp n) local = refl
      itself places.This local = absurd (true≢false (sym local))
      itself (places.Field n) local = absurd (true≢false (sym local))
      itself places.Super local = absurd (true≢false (sym local))
