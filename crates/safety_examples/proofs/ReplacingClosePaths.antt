-- No path in `close` breaks a rule.
use Rattle.std.proofs.Common.{List, [], ◌∷◌, All, refl, sym, subst, lit<, arith, lit≤}
use Rattle.java_control.specs.Control.{next_of, start_of}
use Rattle.java_control.specs.Remaining.{Todo}
use Rattle.control_actions.specs.declared.fact.Mode.TheVariants as modes
use Rattle.obligation_facts.specs.SmallActions.{IsSmallAction}
use Rattle.soundness_laws.specs.Births.{births_at_entry}
use Rattle.safety_examples.specs.Certificates.{IsCertificate, IsFollowed, IsListed, Placed, placed}
use Rattle.safety_examples.specs.CarefulPrograms.{no_names}
use Rattle.safety_examples.specs.ReplacingControls.{close_controls}
use Rattle.safety_examples.specs.ReplacingPrograms.{close_body, replacing}
use Rattle.safety_examples.proofs.Tests.{all_of}
use Rattle.safety_examples.proofs.ReplacingConstructorFlows.{in_this}
use Rattle.safety_examples.proofs.ReplacingCloseFlows.{after_call, after_drop, calls, calls_beside_this, closed_names, copies, copies_over_this, drops, drops_beside_this, fact, field_origin, in_both, in_field, other_names, returns, returns_this, this_called, this_dropped, this_origin, this_read}
use Rattle.safety_examples.proofs.ReplacingWalks.{AllActions, Bears, ComesTo, Follows, acts, bears, comes_to, control_in, follows, steps}

abbrev pub close_facts : List (Placed (List Todo))
close_facts =
    placed (control_in close_controls 0) this_origin (fact in_this modes.None no_names)
    ∷ placed (control_in close_controls 1) this_origin (fact in_this modes.None no_names)
    ∷ placed (control_in close_controls 2) this_origin (fact in_this modes.None no_names)
    ∷ placed (control_in close_controls 3) this_origin (fact in_this modes.None no_names)
    ∷ placed (control_in close_controls 4) this_origin (fact this_read modes.None no_names)
    ∷ placed (control_in close_controls 5) this_origin (fact this_called modes.None other_names)
    ∷ placed (control_in close_controls 6) this_origin (fact this_dropped modes.None other_names)
    ∷ placed (control_in close_controls 0) field_origin (fact in_field modes.Held no_names)
    ∷ placed (control_in close_controls 1) field_origin (fact in_field modes.Held no_names)
    ∷ placed (control_in close_controls 2) field_origin (fact in_field modes.Held no_names)
    ∷ placed (control_in close_controls 3) field_origin (fact in_field modes.Held no_names)
    ∷ placed (control_in close_controls 4) field_origin (fact in_both modes.Held no_names)
    ∷ placed (control_in close_controls 5) field_origin (fact after_call modes.Held closed_names)
    ∷ placed (control_in close_controls 6) field_origin (fact after_drop modes.Held closed_names)
    ∷ []

come : All (λ k. All (ComesTo close_body close_controls) ((steps close_body).next k)) close_controls
unfolding next_of
come = all_of (λ k. All (ComesTo close_body close_controls) ((steps close_body).next k)) close_controls
    (comes_to close_body close_controls 0 ((1, lit< tt, refl), tt), (comes_to close_body close_controls 1 ((2, lit< tt, refl), tt), (comes_to close_body close_controls 2 ((3, lit< tt, refl), tt), (comes_to close_body close_controls 3 ((4, lit< tt, refl), tt), (comes_to close_body close_controls 4 ((5, lit< tt, refl), tt), (comes_to close_body close_controls 5 ((6, lit< tt, refl), tt), (comes_to close_body close_controls 6 ((7, lit< tt, refl), tt), (comes_to close_body close_controls 7 tt, tt))))))))

born : All (λ k. All (Bears close_body close_controls close_facts) ((steps close_body).next k)) close_controls
unfolding next_of
born = all_of (λ k. All (Bears close_body close_controls close_facts) ((steps close_body).next k)) close_controls
    (bears close_body close_controls close_facts 0 (λ k d within. absurd (omega arith), tt), (bears close_body close_controls close_facts 1 (λ k d within. absurd (omega arith), tt), (bears close_body close_controls close_facts 2 (λ k d within. absurd (omega arith), tt), (bears close_body close_controls close_facts 3 (λ k d within. absurd (omega arith), tt), (bears close_body close_controls close_facts 4 (λ k d within. absurd (omega arith), tt), (bears close_body close_controls close_facts 5 (λ k d within. absurd (omega arith), tt), (bears close_body close_controls close_facts 6 (λ k d within. absurd (omega arith), tt), (bears close_body close_controls close_facts 7 tt, tt))))))))

followed : All (λ (x : Placed (List Todo)). All (Follows close_body close_controls close_facts x) ((steps close_body).next x.control)) close_facts
unfolding next_of
followed = all_of (λ (x : Placed (List Todo)). All (Follows close_body close_controls close_facts x) ((steps close_body).next x.control)) close_facts
    (follows close_body close_controls close_facts (placed (control_in close_controls 0) this_origin (fact in_this modes.None no_names)) ((1, lit< tt, refl), tt), (follows close_body close_controls close_facts (placed (control_in close_controls 1) this_origin (fact in_this modes.None no_names)) ((2, lit< tt, refl), tt), (follows close_body close_controls close_facts (placed (control_in close_controls 2) this_origin (fact in_this modes.None no_names)) ((3, lit< tt, refl), tt), (follows close_body close_controls close_facts (placed (control_in close_controls 3) this_origin (fact in_this modes.None no_names)) (subst (IsFollowed close_facts (control_in close_controls 4) this_origin) (sym copies_over_this) (4, lit< tt, refl), tt), (follows close_body close_controls close_facts (placed (control_in close_controls 4) this_origin (fact this_read modes.None no_names)) (subst (IsFollowed close_facts (control_in close_controls 5) this_origin) (sym calls_beside_this) (5, lit< tt, refl), tt), (follows close_body close_controls close_facts (placed (control_in close_controls 5) this_origin (fact this_called modes.None other_names)) (subst (IsFollowed close_facts (control_in close_controls 6) this_origin) (sym drops_beside_this) (6, lit< tt, refl), tt), (follows close_body close_controls close_facts (placed (control_in close_controls 6) this_origin (fact this_dropped modes.None other_names)) (subst (IsFollowed close_facts (control_in close_controls 7) this_origin) (sym returns_this) tt, tt), (follows close_body close_controls close_facts (placed (control_in close_controls 0) field_origin (fact in_field modes.Held no_names)) ((8, lit< tt, refl), tt), (follows close_body close_controls close_facts (placed (control_in close_controls 1) field_origin (fact in_field modes.Held no_names)) ((9, lit< tt, refl), tt), (follows close_body close_controls close_facts (placed (control_in close_controls 2) field_origin (fact in_field modes.Held no_names)) ((10, lit< tt, refl), tt), (follows close_body close_controls close_facts (placed (control_in close_controls 3) field_origin (fact in_field modes.Held no_names)) (subst (IsFollowed close_facts (control_in close_controls 4) field_origin) (sym copies) (11, lit< tt, refl), tt), (follows close_body close_controls close_facts (placed (control_in close_controls 4) field_origin (fact in_both modes.Held no_names)) (subst (IsFollowed close_facts (control_in close_controls 5) field_origin) (sym calls) (12, lit< tt, refl), tt), (follows close_body close_controls close_facts (placed (control_in close_controls 5) field_origin (fact after_call modes.Held closed_names)) (subst (IsFollowed close_facts (control_in close_controls 6) field_origin) (sym drops) (13, lit< tt, refl), tt), (follows close_body close_controls close_facts (placed (control_in close_controls 6) field_origin (fact after_drop modes.Held closed_names)) (subst (IsFollowed close_facts (control_in close_controls 7) field_origin) (sym returns) tt, tt), tt))))))))))))))

pub close_certificate : IsCertificate replacing close_body (steps close_body) close_controls close_facts
unfolding start_of
close_certificate = record {
  start = (0, lit< tt, refl);
  steps = come;
  entry = all_of (IsListed close_facts (steps close_body).start) (births_at_entry replacing close_body) ((0, lit< tt, refl), ((7, lit< tt, refl), tt));
  births = born;
  flows = followed;
}

-- sets of places have room for all places that the steps name
pub close_small : All (AllActions close_body (IsSmallAction replacing)) close_controls
unfolding next_of
close_small = all_of (AllActions close_body (IsSmallAction replacing)) close_controls
    (acts close_body close_controls (IsSmallAction replacing) 0 (tt, tt), (acts close_body close_controls (IsSmallAction replacing) 1 (tt, tt), (acts close_body close_controls (IsSmallAction replacing) 2 (tt, tt), (acts close_body close_controls (IsSmallAction replacing) 3 ((lit< tt, lit< tt), tt), (acts close_body close_controls (IsSmallAction replacing) 4 ((lit< tt, lit≤ tt), tt), (acts close_body close_controls (IsSmallAction replacing) 5 (lit< tt, tt), (acts close_body close_controls (IsSmallAction replacing) 6 (tt, tt), (acts close_body close_controls (IsSmallAction replacing) 7 tt, tt))))))))
