-- What a step gives to a place of the frame is covered by the fact that is born with it.
pub use Rattle.value_laws.proofs.FrameBirths.{heavy_by_unmet, made_tracks, new_tracks, result_tracks}
use Rattle.std.proofs.Common.{◌≡◌, ℕ, ◌<◌, Bool, true, Option, Some, ◌++◌, inl, inr, slice_get, eq-eqb, List, refl, sym, ap, ◌∙◌, subst, true≢false, false}
use Rattle.program_model.specs.declared.program.Program.{Program}
use Rattle.program_model.specs.Lookups.{optional, method_at}
use Rattle.ledger_obligations.specs.MustCallSets.{Names, no_names}
use Rattle.java_control.specs.Control.{Step}
use Rattle.java_control.specs.PlaceNumbers.{IsSmall}
use Rattle.java_control.specs.Remaining.{Todo}
use Rattle.java_control.specs.Sources.{is_place}
use Rattle.control_actions.specs.declared.fact.Fact.{Fact}
use Rattle.control_actions.specs.declared.fact.Mode.{Mode}
use Rattle.control_actions.specs.declared.fact.Mode.TheVariants as modes
use Rattle.control_actions.specs.declared.fact.Origin.{Origin}
use Rattle.control_actions.specs.declared.place.Place.{Place}
use Rattle.control_actions.specs.declared.place.Place.TheVariants as places
use Rattle.ownership_rules.specs.Facts.{has, is_held, is_this_origin}
use Rattle.ownership_rules.specs.Births.{birth_on, fact_at, reset_births}
use Rattle.value_laws.specs.Paths.{Reach, born, move_of, relation_of}
use Rattle.ledger_state.specs.Contents.{HeapContents}
use Rattle.ledger_state.specs.Heaps.{root_of}
use Rattle.ledger_state.specs.declared.object.Object.{Object}
use Rattle.value_laws.specs.Places.{place_value}
use Rattle.value_laws.specs.Configuration.{Frame}
use Rattle.value_laws.specs.Choosing.{body_id, frame_steps}
use Rattle.value_laws.specs.PlacePlaces.{is_local}
use Rattle.value_laws.proofs.PlaceLaws.{single_place-alone, single_place-has, single_place-same}
use Rattle.value_laws.specs.Agreement.{Stands}
use Rattle.value_laws.specs.PlaceFacts.{Covers, IsTrueOf, claims, is_lent, tells_calls}
use Rattle.covering_laws.proofs.Following.{step_there}
use Rattle.covering_laws.proofs.HeavyFields.{tells_by}
use Rattle.covering_laws.proofs.RenewedFacts.{true_as}
use Rattle.value_laws.proofs.Needs.{origin_needs_all}
use Rattle.program_model.specs.declared.program.Method.{Method}

-- a fact at one place that is no field's
module _ (q : Place) (small : IsSmall q) where
  pub at_itself : (mode : Mode) (names : Names) (full : Bool) → has (fact_at q mode names full).places q ≡ true
  at_itself mode names full = single_place-has q q small small ∙ same q
    where
      same : (z : Place) → is_place z z ≡ true
      same (places.Var i) = eq-eqb i i refl
      same (places.Temp d) = eq-eqb d d refl
      same (places.Field n) = eq-eqb n n refl
      same places.This = refl
      same places.Super = refl

  pub at_one : (mode : Mode) (names : Names) (full : Bool) (z : Place) → IsSmall z → has (fact_at q mode names full).places z ≡ true → q ≡ z
  at_one mode names full z small' is = single_place-same q z (sym (single_place-has q z small small') ∙ is)

  pub no_field : (mode : Mode) (names : Names) (full : Bool) → is_local q ≡ true → (n : ℕ) → n < 16 → has (fact_at q mode names full).places (places.Field n) ≡ true → ⊥
  no_field mode names full local n inside is = true≢false (sym local ∙ ap is_local (at_one mode names full (places.Field n) inside is))

module _ (p : Program) (k : HeapContents) (fr : Frame) (st : Stands p fr) (i : ℕ) (s : Step) (here : slice_get (frame_steps p fr) i ≡ Some s) (after : Frame) (old : ℕ → Bool) (frs : List Frame) where
  -- `after` is the frame after the step
  pub born_covers : (anew : Bool) (q : Place) (o : ℕ) (y : Object) (g : Origin) (mode : Mode) (full : Bool) → after.method ≡ fr.method → after.control ≡ s.to → IsSmall q → is_local q ≡ true
      → birth_on p s.action s.edge s.pos ≡ Some (g, fact_at q mode no_names full) → root_of k (place_value p k after.method after.locals q) ≡ Some o
      → ((m : Option Method) → is_lent p m g.kind ≡ false) → is_held mode ≡ false → (mode ≡ modes.Lent → ⊥) → is_this_origin g.kind ≡ false → (claims p (method_at p after.method) g (fact_at q mode no_names full) ≡ true → IsTrueOf p y g (fact_at q mode no_names full))
      → (c : Covers p k false anew old frs after o y) × (has c.fact.places q ≡ true) × (c.origin ≡ g) × (c.fact ≡ fact_at q mode no_names full)
  born_covers anew q o y g mode full method control small local birth root unlent unheld alone' aside truth =
      let covers : Covers p k false anew old frs after o y = record {
        body = st.number;
        id = ap (body_id p) method ∙ st.id;
        origin = g;
        fact = fact_at q mode no_names full;
        reached = there;
        alone = single_place-alone q small;
        places = λ kept z small' lent is. subst (λ (u : Place). root_of k (place_value p k after.method after.locals u) ≡ Some o) (at_one q small mode no_names full z small' is) root;
        true' = λ claimed mine keeps. true_as p anew y g (fact_at q mode no_names full) (origin_needs_all p st.number g after.control (fact_at q mode no_names full) there) (truth claimed);
        lends = λ lent done. absurd (alone' lent);
        makes = λ constructor this. absurd (true≢false (sym this ∙ aside));
        begun = λ lent. absurd (alone' lent);
        unrenewed = λ done tells apart. absurd (silent tells);
        lent = λ lent. absurd (true≢false (sym lent ∙ unlent (method_at p after.method)));
        free = λ done held answers keeps heavy. absurd (true≢false (sym held ∙ unheld));
        known = λ done tells apart stays. absurd (silent tells);
        fields = λ n inside wide is. absurd (no_field q small mode no_names full local n inside is);
        held = λ n inside is heavy. absurd (no_field q small mode no_names full local n inside is);
        outside = λ plain other n inside is. absurd (no_field q small mode no_names full local n inside is);
      } in
      (covers, at_itself q small mode no_names full, refl, refl)
    where
      there : Reach p st.number (relation_of p st.number) g after.control (fact_at q mode no_names full)
      there = subst (λ (t : List Todo). Reach p st.number (relation_of p st.number) g t (fact_at q mode no_names full)) (sym control) (born i 0 (move_of s) st.control (step_there p fr st i s here)
          (ap (λ (x : Option (Origin × Fact)). slice_get (optional x ++ reset_births p st.number s.action s.pos) 0) birth))

      -- what is born tells of no calls
      silent : tells_calls p after.method g (fact_at q mode no_names full) ≡ true → ⊥
      silent tells = elim (tells_by p after.method g (fact_at q mode no_names full) tells) [
        | inl lent ↦ true≢false (sym lent ∙ unlent (method_at p after.method))
        | inr held ↦ true≢false (sym held ∙ unheld)
      ]
