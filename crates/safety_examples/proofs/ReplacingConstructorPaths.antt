-- No path in the constructor breaks a rule.
use Rattle.std.proofs.Common.{◌≡◌, List, [], ◌∷◌, All, refl, sym, subst, lit<, arith}
use Rattle.java_control.specs.Control.{next_of, start_of}
use Rattle.java_control.specs.Remaining.{Todo}
use Rattle.control_actions.specs.declared.action.Action.TheVariants as actions
use Rattle.control_actions.specs.declared.action.Edge.TheVariants as edges
use Rattle.obligation_facts.specs.SmallActions.{IsSmallAction}
use Rattle.soundness_laws.specs.Births.{births_at_entry, births_of_step}
use Rattle.safety_examples.specs.Certificates.{IsCertificate, IsFollowed, IsListed, Placed, placed}
use Rattle.safety_examples.specs.CarefulPrograms.{in_source, no_names}
use Rattle.safety_examples.specs.ReplacingControls.{constructor_controls}
use Rattle.safety_examples.specs.ReplacingPrograms.{constructor_body, replacing}
use Rattle.safety_examples.specs.OwnerPrograms.{resource_constructor}
use Rattle.safety_examples.proofs.CarefulSets.{close_not_none}
use Rattle.safety_examples.proofs.Tests.{all_of}
use Rattle.safety_examples.proofs.ReplacingConstructorFlows.{drops, drops_beside_this, held_fact, in_field, in_temp, in_this, makes_beside_this, new_fact, other_names, resource_origin, returns, returns_this, stored, stores, stores_beside_this, this_fact, this_made, this_origin, this_stored}
use Rattle.safety_examples.proofs.ReplacingWalks.{AllActions, Bears, ComesTo, Follows, acts, bears, comes_to, control_in, follows, steps}

abbrev pub constructor_facts : List (Placed (List Todo))
constructor_facts =
    placed (control_in constructor_controls 4) resource_origin (new_fact in_temp)
    ∷ placed (control_in constructor_controls 5) resource_origin (held_fact in_field)
    ∷ placed (control_in constructor_controls 6) resource_origin (held_fact stored)
    ∷ placed (control_in constructor_controls 0) this_origin (this_fact in_this no_names)
    ∷ placed (control_in constructor_controls 1) this_origin (this_fact in_this no_names)
    ∷ placed (control_in constructor_controls 2) this_origin (this_fact in_this no_names)
    ∷ placed (control_in constructor_controls 3) this_origin (this_fact in_this no_names)
    ∷ placed (control_in constructor_controls 4) this_origin (this_fact this_made other_names)
    ∷ placed (control_in constructor_controls 5) this_origin (this_fact this_made other_names)
    ∷ placed (control_in constructor_controls 6) this_origin (this_fact this_stored other_names)
    ∷ []

-- `new` bears a fact
makes_resource_born : births_of_step replacing constructor_body (actions.New resource_constructor 0 0) edges.Go (in_source 4 28) ≡ (resource_origin, new_fact in_temp) ∷ []
makes_resource_born = simp close_not_none refl

makes_resource : All (IsListed constructor_facts (control_in constructor_controls 4)) (births_of_step replacing constructor_body (actions.New resource_constructor 0 0) edges.Go (in_source 4 28))
makes_resource =
    subst (All (IsListed constructor_facts (control_in constructor_controls 4))) (sym makes_resource_born)
    (all_of (IsListed constructor_facts (control_in constructor_controls 4)) ((resource_origin, new_fact in_temp) ∷ []) ((0, lit< tt, refl), tt))

come : All (λ k. All (ComesTo constructor_body constructor_controls) ((steps constructor_body).next k)) constructor_controls
unfolding next_of
come = all_of (λ k. All (ComesTo constructor_body constructor_controls) ((steps constructor_body).next k)) constructor_controls
    (comes_to constructor_body constructor_controls 0 ((1, lit< tt, refl), tt), (comes_to constructor_body constructor_controls 1 ((2, lit< tt, refl), tt), (comes_to constructor_body constructor_controls 2 ((3, lit< tt, refl), tt), (comes_to constructor_body constructor_controls 3 ((4, lit< tt, refl), tt), (comes_to constructor_body constructor_controls 4 ((5, lit< tt, refl), tt), (comes_to constructor_body constructor_controls 5 ((6, lit< tt, refl), tt), (comes_to constructor_body constructor_controls 6 ((7, lit< tt, refl), tt), (comes_to constructor_body constructor_controls 7 tt, tt))))))))

born : All (λ k. All (Bears constructor_body constructor_controls constructor_facts) ((steps constructor_body).next k)) constructor_controls
unfolding next_of
born = all_of (λ k. All (Bears constructor_body constructor_controls constructor_facts) ((steps constructor_body).next k)) constructor_controls
    (bears constructor_body constructor_controls constructor_facts 0 (λ k d within. absurd (omega arith), tt), (bears constructor_body constructor_controls constructor_facts 1 (λ k d within. absurd (omega arith), tt), (bears constructor_body constructor_controls constructor_facts 2 (λ k d within. absurd (omega arith), tt), (bears constructor_body constructor_controls constructor_facts 3 (makes_resource, tt), (bears constructor_body constructor_controls constructor_facts 4 (λ k d within. absurd (omega arith), tt), (bears constructor_body constructor_controls constructor_facts 5 (λ k d within. absurd (omega arith), tt), (bears constructor_body constructor_controls constructor_facts 6 (λ k d within. absurd (omega arith), tt), (bears constructor_body constructor_controls constructor_facts 7 tt, tt))))))))

followed : All (λ (x : Placed (List Todo)). All (Follows constructor_body constructor_controls constructor_facts x) ((steps constructor_body).next x.control)) constructor_facts
unfolding next_of
followed = all_of (λ (x : Placed (List Todo)). All (Follows constructor_body constructor_controls constructor_facts x) ((steps constructor_body).next x.control)) constructor_facts
    (follows constructor_body constructor_controls constructor_facts (placed (control_in constructor_controls 4) resource_origin (new_fact in_temp)) (subst (IsFollowed constructor_facts (control_in constructor_controls 5) resource_origin) (sym stores) (1, lit< tt, refl), tt), (follows constructor_body constructor_controls constructor_facts (placed (control_in constructor_controls 5) resource_origin (held_fact in_field)) (subst (IsFollowed constructor_facts (control_in constructor_controls 6) resource_origin) (sym drops) (2, lit< tt, refl), tt), (follows constructor_body constructor_controls constructor_facts (placed (control_in constructor_controls 6) resource_origin (held_fact stored)) (subst (IsFollowed constructor_facts (control_in constructor_controls 7) resource_origin) (sym returns) tt, tt), (follows constructor_body constructor_controls constructor_facts (placed (control_in constructor_controls 0) this_origin (this_fact in_this no_names)) ((4, lit< tt, refl), tt), (follows constructor_body constructor_controls constructor_facts (placed (control_in constructor_controls 1) this_origin (this_fact in_this no_names)) ((5, lit< tt, refl), tt), (follows constructor_body constructor_controls constructor_facts (placed (control_in constructor_controls 2) this_origin (this_fact in_this no_names)) ((6, lit< tt, refl), tt), (follows constructor_body constructor_controls constructor_facts (placed (control_in constructor_controls 3) this_origin (this_fact in_this no_names)) (subst (IsFollowed constructor_facts (control_in constructor_controls 4) this_origin) (sym makes_beside_this) (7, lit< tt, refl), tt), (follows constructor_body constructor_controls constructor_facts (placed (control_in constructor_controls 4) this_origin (this_fact this_made other_names)) (subst (IsFollowed constructor_facts (control_in constructor_controls 5) this_origin) (sym stores_beside_this) (8, lit< tt, refl), tt), (follows constructor_body constructor_controls constructor_facts (placed (control_in constructor_controls 5) this_origin (this_fact this_made other_names)) (subst (IsFollowed constructor_facts (control_in constructor_controls 6) this_origin) (sym drops_beside_this) (9, lit< tt, refl), tt), (follows constructor_body constructor_controls constructor_facts (placed (control_in constructor_controls 6) this_origin (this_fact this_stored other_names)) (subst (IsFollowed constructor_facts (control_in constructor_controls 7) this_origin) (sym returns_this) tt, tt), tt))))))))))

pub constructor_certificate : IsCertificate replacing constructor_body (steps constructor_body) constructor_controls constructor_facts
unfolding start_of
constructor_certificate = record {
  start = (0, lit< tt, refl);
  steps = come;
  entry = all_of (IsListed constructor_facts (steps constructor_body).start) (births_at_entry replacing constructor_body) ((3, lit< tt, refl), tt);
  births = born;
  flows = followed;
}

-- sets of places have room for all places that the steps name
pub constructor_small : All (AllActions constructor_body (IsSmallAction replacing)) constructor_controls
unfolding next_of
constructor_small = all_of (AllActions constructor_body (IsSmallAction replacing)) constructor_controls
    (acts constructor_body constructor_controls (IsSmallAction replacing) 0 (tt, tt), (acts constructor_body constructor_controls (IsSmallAction replacing) 1 (tt, tt), (acts constructor_body constructor_controls (IsSmallAction replacing) 2 (tt, tt), (acts constructor_body constructor_controls (IsSmallAction replacing) 3 (lit< tt, tt), (acts constructor_body constructor_controls (IsSmallAction replacing) 4 ((lit< tt, lit< tt), tt), (acts constructor_body constructor_controls (IsSmallAction replacing) 5 (lit< tt, tt), (acts constructor_body constructor_controls (IsSmallAction replacing) 6 (tt, tt), (acts constructor_body constructor_controls (IsSmallAction replacing) 7 tt, tt))))))))
