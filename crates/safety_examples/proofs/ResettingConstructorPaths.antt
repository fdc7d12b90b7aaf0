-- No path in the constructor breaks a rule.
use Rattle.std.proofs.Common.{List, [], ◌∷◌, All, refl, sym, subst, lit<, arith, lit≤}
use Rattle.java_control.specs.Control.{next_of, start_of}
use Rattle.java_control.specs.Remaining.{Todo}
use Rattle.control_actions.specs.declared.fact.Mode.TheVariants as modes
use Rattle.obligation_facts.specs.SmallActions.{IsSmallAction}
use Rattle.soundness_laws.specs.Births.{births_at_entry}
use Rattle.safety_examples.specs.Certificates.{IsCertificate, IsFollowed, IsListed, Placed, placed}
use Rattle.safety_examples.specs.CarefulPrograms.{no_names}
use Rattle.safety_examples.specs.ResettingControls.{constructor_controls}
use Rattle.safety_examples.specs.ResettingPrograms.{constructor_body, resetting}
use Rattle.safety_examples.proofs.Tests.{all_of}
use Rattle.safety_examples.proofs.ResettingConstructorFlows.{after_drop, connected, connects, connects_beside_this, copies, copies_again, copies_over_this, copies_over_this_again, drops, drops_beside_this, fact, in_both, in_field, in_this, in_variable, leaves, leaves_beside_this, left, other_names, parameter_origin, read_again, returns, returns_this, stores, stores_beside_this, this_again, this_called, this_dropped, this_left, this_origin, this_read}
use Rattle.safety_examples.proofs.ResettingWalks.{AllActions, Bears, ComesTo, Follows, acts, bears, comes_to, control_in, follows, steps}

abbrev pub constructor_facts : List (Placed (List Todo))
constructor_facts =
    placed (control_in constructor_controls 0) parameter_origin (fact in_variable modes.Own no_names)
    ∷ placed (control_in constructor_controls 1) parameter_origin (fact in_variable modes.Own no_names)
    ∷ placed (control_in constructor_controls 2) parameter_origin (fact in_variable modes.Own no_names)
    ∷ placed (control_in constructor_controls 3) parameter_origin (fact in_variable modes.Own no_names)
    ∷ placed (control_in constructor_controls 4) parameter_origin (fact in_both modes.Own no_names)
    ∷ placed (control_in constructor_controls 5) parameter_origin (fact connected modes.Own no_names)
    ∷ placed (control_in constructor_controls 6) parameter_origin (fact left modes.Own no_names)
    ∷ placed (control_in constructor_controls 7) parameter_origin (fact left modes.Own no_names)
    ∷ placed (control_in constructor_controls 8) parameter_origin (fact left modes.Own no_names)
    ∷ placed (control_in constructor_controls 9) parameter_origin (fact left modes.Own no_names)
    ∷ placed (control_in constructor_controls 10) parameter_origin (fact read_again modes.Own no_names)
    ∷ placed (control_in constructor_controls 11) parameter_origin (fact in_field modes.Held no_names)
    ∷ placed (control_in constructor_controls 12) parameter_origin (fact after_drop modes.Held no_names)
    ∷ placed (control_in constructor_controls 0) this_origin (fact in_this modes.Lent no_names)
    ∷ placed (control_in constructor_controls 1) this_origin (fact in_this modes.Lent no_names)
    ∷ placed (control_in constructor_controls 2) this_origin (fact in_this modes.Lent no_names)
    ∷ placed (control_in constructor_controls 3) this_origin (fact in_this modes.Lent no_names)
    ∷ placed (control_in constructor_controls 4) this_origin (fact this_read modes.Lent no_names)
    ∷ placed (control_in constructor_controls 5) this_origin (fact this_called modes.Lent other_names)
    ∷ placed (control_in constructor_controls 6) this_origin (fact this_left modes.Lent other_names)
    ∷ placed (control_in constructor_controls 7) this_origin (fact this_left modes.Lent other_names)
    ∷ placed (control_in constructor_controls 8) this_origin (fact this_left modes.Lent other_names)
    ∷ placed (control_in constructor_controls 9) this_origin (fact this_left modes.Lent other_names)
    ∷ placed (control_in constructor_controls 10) this_origin (fact this_again modes.Lent other_names)
    ∷ placed (control_in constructor_controls 11) this_origin (fact this_again modes.Lent other_names)
    ∷ placed (control_in constructor_controls 12) this_origin (fact this_dropped modes.Lent other_names)
    ∷ []

come : All (λ k. All (ComesTo constructor_body constructor_controls) ((steps constructor_body).next k)) constructor_controls
unfolding next_of
come = all_of (λ k. All (ComesTo constructor_body constructor_controls) ((steps constructor_body).next k)) constructor_controls
    (comes_to constructor_body constructor_controls 0 ((1, lit< tt, refl), tt), (comes_to constructor_body constructor_controls 1 ((2, lit< tt, refl), tt), (comes_to constructor_body constructor_controls 2 ((3, lit< tt, refl), tt), (comes_to constructor_body constructor_controls 3 ((4, lit< tt, refl), tt), (comes_to constructor_body constructor_controls 4 ((5, lit< tt, refl), tt), (comes_to constructor_body constructor_controls 5 ((6, lit< tt, refl), tt), (comes_to constructor_body constructor_controls 6 ((7, lit< tt, refl), tt), (comes_to constructor_body constructor_controls 7 ((8, lit< tt, refl), tt), (comes_to constructor_body constructor_controls 8 ((9, lit< tt, refl), tt), (comes_to constructor_body constructor_controls 9 ((10, lit< tt, refl), tt), (comes_to constructor_body constructor_controls 10 ((11, lit< tt, refl), tt), (comes_to constructor_body constructor_controls 11 ((12, lit< tt, refl), tt), (comes_to constructor_body constructor_controls 12 ((13, lit< tt, refl), tt), (comes_to constructor_body constructor_controls 13 tt, tt))))))))))))))

born : All (λ k. All (Bears constructor_body constructor_controls constructor_facts) ((steps constructor_body).next k)) constructor_controls
unfolding next_of
born = all_of (λ k. All (Bears constructor_body constructor_controls constructor_facts) ((steps constructor_body).next k)) constructor_controls
    (bears constructor_body constructor_controls constructor_facts 0 (λ k d within. absurd (omega arith), tt), (bears constructor_body constructor_controls constructor_facts 1 (λ k d within. absurd (omega arith), tt), (bears constructor_body constructor_controls constructor_facts 2 (λ k d within. absurd (omega arith), tt), (bears constructor_body constructor_controls constructor_facts 3 (λ k d within. absurd (omega arith), tt), (bears constructor_body constructor_controls constructor_facts 4 (λ k d within. absurd (omega arith), tt), (bears constructor_body constructor_controls constructor_facts 5 (λ k d within. absurd (omega arith), tt), (bears constructor_body constructor_controls constructor_facts 6 (λ k d within. absurd (omega arith), tt), (bears constructor_body constructor_controls constructor_facts 7 (λ k d within. absurd (omega arith), tt), (bears constructor_body constructor_controls constructor_facts 8 (λ k d within. absurd (omega arith), tt), (bears constructor_body constructor_controls constructor_facts 9 (λ k d within. absurd (omega arith), tt), (bears constructor_body constructor_controls constructor_facts 10 (λ k d within. absurd (omega arith), tt), (bears constructor_body constructor_controls constructor_facts 11 (λ k d within. absurd (omega arith), tt), (bears constructor_body constructor_controls constructor_facts 12 (λ k d within. absurd (omega arith), tt), (bears constructor_body constructor_controls constructor_facts 13 tt, tt))))))))))))))

followed : All (λ (x : Placed (List Todo)). All (Follows constructor_body constructor_controls constructor_facts x) ((steps constructor_body).next x.control)) constructor_facts
unfolding next_of
followed = all_of (λ (x : Placed (List Todo)). All (Follows constructor_body constructor_controls constructor_facts x) ((steps constructor_body).next x.control)) constructor_facts
    (follows constructor_body constructor_controls constructor_facts (placed (control_in constructor_controls 0) parameter_origin (fact in_variable modes.Own no_names)) ((1, lit< tt, refl), tt), (follows constructor_body constructor_controls constructor_facts (placed (control_in constructor_controls 1) parameter_origin (fact in_variable modes.Own no_names)) ((2, lit< tt, refl), tt), (follows constructor_body constructor_controls constructor_facts (placed (control_in constructor_controls 2) parameter_origin (fact in_variable modes.Own no_names)) ((3, lit< tt, refl), tt), (follows constructor_body constructor_controls constructor_facts (placed (control_in constructor_controls 3) parameter_origin (fact in_variable modes.Own no_names)) (subst (IsFollowed constructor_facts (control_in constructor_controls 4) parameter_origin) (sym copies) (4, lit< tt, refl), tt), (follows constructor_body constructor_controls constructor_facts (placed (control_in constructor_controls 4) parameter_origin (fact in_both modes.Own no_names)) (subst (IsFollowed constructor_facts (control_in constructor_controls 5) parameter_origin) (sym connects) (5, lit< tt, refl), tt), (follows constructor_body constructor_controls constructor_facts (placed (control_in constructor_controls 5) parameter_origin (fact connected modes.Own no_names)) (subst (IsFollowed constructor_facts (control_in constructor_controls 6) parameter_origin) (sym leaves) (6, lit< tt, refl), tt), (follows constructor_body constructor_controls constructor_facts (placed (control_in constructor_controls 6) parameter_origin (fact left modes.Own no_names)) ((7, lit< tt, refl), tt), (follows constructor_body constructor_controls constructor_facts (placed (control_in constructor_controls 7) parameter_origin (fact left modes.Own no_names)) ((8, lit< tt, refl), tt), (follows constructor_body constructor_controls constructor_facts (placed (control_in constructor_controls 8) parameter_origin (fact left modes.Own no_names)) ((9, lit< tt, refl), tt), (follows constructor_body constructor_controls constructor_facts (placed (control_in constructor_controls 9) parameter_origin (fact left modes.Own no_names)) (subst (IsFollowed constructor_facts (control_in constructor_controls 10) parameter_origin) (sym copies_again) (10, lit< tt, refl), tt), (follows constructor_body constructor_controls constructor_facts (placed (control_in constructor_controls 10) parameter_origin (fact read_again modes.Own no_names)) (subst (IsFollowed constructor_facts (control_in constructor_controls 11) parameter_origin) (sym stores) (11, lit< tt, refl), tt), (follows constructor_body constructor_controls constructor_facts (placed (control_in constructor_controls 11) parameter_origin (fact in_field modes.Held no_names)) (subst (IsFollowed constructor_facts (control_in constructor_controls 12) parameter_origin) (sym drops) (12, lit< tt, refl), tt), (follows constructor_body constructor_controls constructor_facts (placed (control_in constructor_controls 12) parameter_origin (fact after_drop modes.Held no_names)) (subst (IsFollowed constructor_facts (control_in constructor_controls 13) parameter_origin) (sym returns) tt, tt), (follows constructor_body constructor_controls constructor_facts (placed (control_in constructor_controls 0) this_origin (fact in_this modes.Lent no_names)) ((14, lit< tt, refl), tt), (follows constructor_body constructor_controls constructor_facts (placed (control_in constructor_controls 1) this_origin (fact in_this modes.Lent no_names)) ((15, lit< tt, refl), tt), (follows constructor_body constructor_controls constructor_facts (placed (control_in constructor_controls 2) this_origin (fact in_this modes.Lent no_names)) ((16, lit< tt, refl), tt), (follows constructor_body constructor_controls constructor_facts (placed (control_in constructor_controls 3) this_origin (fact in_this modes.Lent no_names)) (subst (IsFollowed constructor_facts (control_in constructor_controls 4) this_origin) (sym copies_over_this) (17, lit< tt, refl), tt), (follows constructor_body constructor_controls constructor_facts (placed (control_in constructor_controls 4) this_origin (fact this_read modes.Lent no_names)) (subst (IsFollowed constructor_facts (control_in constructor_controls 5) this_origin) (sym connects_beside_this) (18, lit< tt, refl), tt), (follows constructor_body constructor_controls constructor_facts (placed (control_in constructor_controls 5) this_origin (fact this_called modes.Lent other_names)) (subst (IsFollowed constructor_facts (control_in constructor_controls 6) this_origin) (sym leaves_beside_this) (19, lit< tt, refl), tt), (follows constructor_body constructor_controls constructor_facts (placed (control_in constructor_controls 6) this_origin (fact this_left modes.Lent other_names)) ((20, lit< tt, refl), tt), (follows constructor_body constructor_controls constructor_facts (placed (control_in constructor_controls 7) this_origin (fact this_left modes.Lent other_names)) ((21, lit< tt, refl), tt), (follows constructor_body constructor_controls constructor_facts (placed (control_in constructor_controls 8) this_origin (fact this_left modes.Lent other_names)) ((22, lit< tt, refl), tt), (follows constructor_body constructor_controls constructor_facts (placed (control_in constructor_controls 9) this_origin (fact this_left modes.Lent other_names)) (subst (IsFollowed constructor_facts (control_in constructor_controls 10) this_origin) (sym copies_over_this_again) (23, lit< tt, refl), tt), (follows constructor_body constructor_controls constructor_facts (placed (control_in constructor_controls 10) this_origin (fact this_again modes.Lent other_names)) (subst (IsFollowed constructor_facts (control_in constructor_controls 11) this_origin) (sym stores_beside_this) (24, lit< tt, refl), tt), (follows constructor_body constructor_controls constructor_facts (placed (control_in constructor_controls 11) this_origin (fact this_again modes.Lent other_names)) (subst (IsFollowed constructor_facts (control_in constructor_controls 12) this_origin) (sym drops_beside_this) (25, lit< tt, refl), tt), (follows constructor_body constructor_controls constructor_facts (placed (control_in constructor_controls 12) this_origin (fact this_dropped modes.Lent other_names)) (subst (IsFollowed constructor_facts (control_in constructor_controls 13) this_origin) (sym returns_this) tt, tt), tt))))))))))))))))))))))))))

pub constructor_certificate : IsCertificate resetting constructor_body (steps constructor_body) constructor_controls constructor_facts
unfolding start_of
constructor_certificate = record {
  start = (0, lit< tt, refl);
  steps = come;
  entry = all_of (IsListed constructor_facts (steps constructor_body).start) (births_at_entry resetting constructor_body) ((0, lit< tt, refl), ((13, lit< tt, refl), tt));
  births = born;
  flows = followed;
}

-- sets of places have room for all places that the steps name
pub constructor_small : All (AllActions constructor_body (IsSmallAction resetting)) constructor_controls
unfolding next_of
constructor_small = all_of (AllActions constructor_body (IsSmallAction resetting)) constructor_controls
    (acts constructor_body constructor_controls (IsSmallAction resetting) 0 (tt, tt), (acts constructor_body constructor_controls (IsSmallAction resetting) 1 (tt, tt), (acts constructor_body constructor_controls (IsSmallAction resetting) 2 (tt, tt), (acts constructor_body constructor_controls (IsSmallAction resetting) 3 ((lit< tt, lit< tt), tt), (acts constructor_body constructor_controls (IsSmallAction resetting) 4 ((lit< tt, lit≤ tt), tt), (acts constructor_body constructor_controls (IsSmallAction resetting) 5 (lit< tt, tt), (acts constructor_body constructor_controls (IsSmallAction resetting) 6 (tt, tt), (acts constructor_body constructor_controls (IsSmallAction resetting) 7 (tt, tt), (acts constructor_body constructor_controls (IsSmallAction resetting) 8 (tt, tt), (acts constructor_body constructor_controls (IsSmallAction resetting) 9 ((lit< tt, lit< tt), tt), (acts constructor_body constructor_controls (IsSmallAction resetting) 10 ((lit< tt, lit< tt), tt), (acts constructor_body constructor_controls (IsSmallAction resetting) 11 (lit< tt, tt), (acts constructor_body constructor_controls (IsSmallAction resetting) 12 (tt, tt), (acts constructor_body constructor_controls (IsSmallAction resetting) 13 tt, tt))))))))))))))
