-- A call creates the obligation of an object anew that the frame tracks: the frame goes on to track it, with no name called and all that its
-- class asks for needed.
use Rattle.std.proofs.Common.{◌≡◌, ◌⊎◌, inl, inr, ℕ, Bool, true, false, Some, slice_get, refl, sym, ap, ◌∙◌, subst}
use Rattle.std.specs.FinSet as set
use Rattle.program_model.specs.declared.kinds.BodyId.{BodyId}
use Rattle.program_model.specs.declared.program.Program.{Program}
use Rattle.java_control.specs.Control.{Step}
use Rattle.control_actions.specs.declared.action.Action.{Action}
use Rattle.control_actions.specs.declared.fact.Fact.{Fact}
use Rattle.control_actions.specs.declared.fact.Mode.TheVariants as modes
use Rattle.ownership_rules.specs.Facts.{PlaceSet, is_nowhere, need}
use Rattle.ledger_obligations.specs.MustCallSets.{fits, must_of, no_names}
use Rattle.value_laws.specs.Aliases.{gives_alias}
use Rattle.value_laws.specs.PlaceRows.{places_after}
use Rattle.ledger_obligations.specs.Obligations.{is_unmet}
use Rattle.value_laws.specs.Accept.{Accept}
use Rattle.value_laws.specs.Paths.{Reach, move_of, relation_of}
use Rattle.ledger_state.specs.Contents.{HeapContents}
use Rattle.ledger_state.specs.Heaps.{root_of}
use Rattle.ledger_state.specs.declared.object.Object.{Object}
use Rattle.ledger_state.specs.declared.value.Value.{Value}
use Rattle.value_laws.specs.Configuration.{Frame}
use Rattle.value_laws.specs.Choosing.{body_id, frame_steps}
use Rattle.value_laws.specs.LedgerFramesFrames.{frame_after, locals_after}
use Rattle.rlc_base.proofs.SetLaws.{empty_within, within_self, within_trans}
use Rattle.value_laws.specs.Heaps.{GoesOn}
use Rattle.value_laws.specs.PlacePlaces.{IsWay}
use Rattle.value_laws.specs.Agreement.{Follows, Stands, Tracks, TracksAs}
use Rattle.value_laws.specs.Renewing.{fact_as}
use Rattle.value_laws.specs.PlainForms.{HasPlainForms}
use Rattle.value_laws.specs.Outcomes.{IsCallRow}
use Rattle.value_laws.proofs.OwedFacts.{owed}
use Rattle.value_laws.specs.Anew.{is_target}
use Rattle.value_laws.proofs.Resetting.{anew_row}
use Rattle.value_laws.proofs.Needs.{origin_needs_all}
use Rattle.value_laws.specs.Steps.{RootsStay}
use Rattle.value_laws.proofs.Carried.{carried}
use Rattle.value_laws.proofs.Readings.{mode_as, read_as}
use Rattle.value_laws.proofs.FrameFollowing.{followed}
use Rattle.value_laws.proofs.Ready.{call_sets, ready, step_there}
use Rattle.value_laws.proofs.Tracking.{same_body}

pub target_or_not : (p : Program) (a : Action) (held : PlaceSet) → (is_target p a held ≡ true) ⊎ (is_target p a held ≡ false)
target_or_not p a held = go (is_target p a held) refl
  where
    go : (b : Bool) → is_target p a held ≡ b → (is_target p a held ≡ true) ⊎ (is_target p a held ≡ false)
    go true is = inl is
    go false is = inr is

itself_on : (x : Object) → GoesOn x x
itself_on x = record { class = refl; link = refl; finished = refl; must = refl; called = within_self x.called }

module _ (p : Program) (ac : Accept p) (forms : HasPlainForms p) (h k : HeapContents)
    (fr : Frame) (st : Stands p fr) (i : ℕ) (s : Step) (here : slice_get (frame_steps p fr) i ≡ Some s) (way : IsWay s.action s.edge) (v : Value)
    (o : ℕ) (x y : Object) (stay : RootsStay h k o) (class : y.class ≡ x.class) (bounded : set.is_subset y.must (must_of p y.class) ≡ true) (unmet : is_unmet y ≡ true) (waits : Bool) (t : TracksAs p h waits fr o x) where
  reached : Reach p st.number (relation_of p st.number) t.origin fr.control t.fact
  reached = subst (λ (b : BodyId). Reach p b (relation_of p b) t.origin fr.control t.fact) (same_body t.body st.number (body_id p fr.method) t.id st.id) t.reached

  abbrev Goal : Fact → Type 0
  Goal g = Follows p k fr.method (locals_after p h fr.method fr.locals s.action s.edge v) o y t.origin g

  abbrev anew : Fact
  anew = record t.fact { places = places_after p st.number s.action s.edge t.fact.places; mode = modes.Own; called = no_names; full = true }

  its_class : fits p y.class t.origin.class ≡ true
  its_class = ap (λ c. fits p c t.origin.class) class ∙ t.follows.class

  needed : set.is_subset y.must t.origin.full ≡ true
  needed =
      ap (set.is_subset y.must) (origin_needs_all p st.number t.origin fr.control t.fact reached)
      ∙ within_trans y.must (must_of p y.class) (must_of p t.origin.class) bounded its_class

  wanting : set.is_subset t.origin.full no_names ≡ false
  wanting = owed y t.origin (record t.fact { called = no_names; full = true }) unmet needed (empty_within y.called)

  pub tracks_target : IsCallRow s.action → is_target p s.action t.fact.places ≡ true → (gives_alias p s.action s.edge t.fact.places ≡ true → root_of k v ≡ Some o) → Tracks p k (frame_after p h fr s v) o y
  tracks_target row target alias =
      let next = followed p ac st.number t.origin i (move_of s) t.fact Goal reached (step_there p fr st i s here)
      (anew_row p st.number t.origin t.fact Goal s.action s.edge row target (sym (mode_as waits t.fact) ∙ t.follows.own) wanting follows) in
      record { body = st.number; id = st.id; origin = t.origin; fact = next.0; reached = next.1; follows = next.2 }
    where
      followed_anew : Follows p h fr.method fr.locals o x t.origin (fact_as true t.fact)
      followed_anew = read_as p h fr.method fr.locals o x t.origin t.fact (origin_needs_all p st.number t.origin fr.control t.fact reached) waits true (λ one. refl) t.follows

      follows : is_nowhere (places_after p st.number s.action s.edge t.fact.places) ≡ false → Goal anew
      follows some =
          let on = carried p h k fr.method fr.locals st.number st.body s.action s.edge v (ready p ac forms fr st i s here way) (call_sets s.action row) o stay x x t.origin (fact_as true t.fact) followed_anew (itself_on x) alias
          no_names (empty_within x.called) some in
          record {
            own = refl;
            class = its_class;
            bounded = bounded;
            need = needed;
            called = empty_within y.called;
            some = some;
            alone = on.alone;
            places = on.places;
          }
