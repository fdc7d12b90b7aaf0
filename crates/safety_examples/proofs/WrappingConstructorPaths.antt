-- No path in the constructor breaks a rule.
use Rattle.std.proofs.Common.{List, [], ◌∷◌, All, refl, sym, subst, lit<, arith}
use Rattle.java_control.specs.Control.{next_of, start_of}
use Rattle.java_control.specs.Remaining.{Todo}
use Rattle.control_actions.specs.declared.fact.Mode.TheVariants as modes
use Rattle.obligation_facts.specs.SmallActions.{IsSmallAction}
use Rattle.soundness_laws.specs.Births.{births_at_entry}
use Rattle.safety_examples.specs.Certificates.{IsCertificate, IsFollowed, IsListed, Placed, placed}
use Rattle.safety_examples.specs.WrappingControls.{constructor_controls}
use Rattle.safety_examples.specs.WrappingPrograms.{constructor_body, wrapping}
use Rattle.safety_examples.proofs.Tests.{all_of}
use Rattle.safety_examples.proofs.WrappingConstructorFlows.{after_drop, copies, copies_over_this, drops, drops_beside_this, fact, in_both, in_field, in_this, in_variable, parameter_origin, returns, returns_this, stores, stores_beside_this, this_dropped, this_origin, this_read}
use Rattle.safety_examples.proofs.WrappingWalks.{AllActions, Bears, ComesTo, Follows, acts, bears, comes_to, control_in, follows, steps}

abbrev pub constructor_facts : List (Placed (List Todo))
constructor_facts =
    placed (control_in constructor_controls 0) parameter_origin (fact in_variable modes.Alias)
    ∷ placed (control_in constructor_controls 1) parameter_origin (fact in_variable modes.Alias)
    ∷ placed (control_in constructor_controls 2) parameter_origin (fact in_variable modes.Alias)
    ∷ placed (control_in constructor_controls 3) parameter_origin (fact in_variable modes.Alias)
    ∷ placed (control_in constructor_controls 4) parameter_origin (fact in_both modes.Alias)
    ∷ placed (control_in constructor_controls 5) parameter_origin (fact in_field modes.Held)
    ∷ placed (control_in constructor_controls 6) parameter_origin (fact after_drop modes.Held)
    ∷ placed (control_in constructor_controls 0) this_origin (fact in_this modes.Lent)
    ∷ placed (control_in constructor_controls 1) this_origin (fact in_this modes.Lent)
    ∷ placed (control_in constructor_controls 2) this_origin (fact in_this modes.Lent)
    ∷ placed (control_in constructor_controls 3) this_origin (fact in_this modes.Lent)
    ∷ placed (control_in constructor_controls 4) this_origin (fact this_read modes.Lent)
    ∷ placed (control_in constructor_controls 5) this_origin (fact this_read modes.Lent)
    ∷ placed (control_in constructor_controls 6) this_origin (fact this_dropped modes.Lent)
    ∷ []

come : All (λ k. All (ComesTo constructor_body constructor_controls) ((steps constructor_body).next k)) constructor_controls
unfolding next_of
come = all_of (λ k. All (ComesTo constructor_body constructor_controls) ((steps constructor_body).next k)) constructor_controls
    (comes_to constructor_body constructor_controls 0 ((1, lit< tt, refl), tt), (comes_to constructor_body constructor_controls 1 ((2, lit< tt, refl), tt), (comes_to constructor_body constructor_controls 2 ((3, lit< tt, refl), tt), (comes_to constructor_body constructor_controls 3 ((4, lit< tt, refl), tt), (comes_to constructor_body constructor_controls 4 ((5, lit< tt, refl), tt), (comes_to constructor_body constructor_controls 5 ((6, lit< tt, refl), tt), (comes_to constructor_body constructor_controls 6 ((7, lit< tt, refl), tt), (comes_to constructor_body constructor_controls 7 tt, tt))))))))

born : All (λ k. All (Bears constructor_body constructor_controls constructor_facts) ((steps constructor_body).next k)) constructor_controls
unfolding next_of
born = all_of (λ k. All (Bears constructor_body constructor_controls constructor_facts) ((steps constructor_body).next k)) constructor_controls
    (bears constructor_body constructor_controls constructor_facts 0 (λ k d within. absurd (omega arith), tt), (bears constructor_body constructor_controls constructor_facts 1 (λ k d within. absurd (omega arith), tt), (bears constructor_body constructor_controls constructor_facts 2 (λ k d within. absurd (omega arith), tt), (bears constructor_body constructor_controls constructor_facts 3 (λ k d within. absurd (omega arith), tt), (bears constructor_body constructor_controls constructor_facts 4 (λ k d within. absurd (omega arith), tt), (bears constructor_body constructor_controls constructor_facts 5 (λ k d within. absurd (omega arith), tt), (bears constructor_body constructor_controls constructor_facts 6 (λ k d within. absurd (omega arith), tt), (bears constructor_body constructor_controls constructor_facts 7 tt, tt))))))))

followed : All (λ (x : Placed (List Todo)). All (Follows constructor_body constructor_controls constructor_facts x) ((steps constructor_body).next x.control)) constructor_facts
unfolding next_of
followed = all_of (λ (x : Placed (List Todo)). All (Follows constructor_body constructor_controls constructor_facts x) ((steps constructor_body).next x.control)) constructor_facts
    (follows constructor_body constructor_controls constructor_facts (placed (control_in constructor_controls 0) parameter_origin (fact in_variable modes.Alias)) ((1, lit< tt, refl), tt), (follows constructor_body constructor_controls constructor_facts (placed (control_in constructor_controls 1) parameter_origin (fact in_variable modes.Alias)) ((2, lit< tt, refl), tt), (follows constructor_body constructor_controls constructor_facts (placed (control_in constructor_controls 2) parameter_origin (fact in_variable modes.Alias)) ((3, lit< tt, refl), tt), (follows constructor_body constructor_controls constructor_facts (placed (control_in constructor_controls 3) parameter_origin (fact in_variable modes.Alias)) (subst (IsFollowed constructor_facts (control_in constructor_controls 4) parameter_origin) (sym copies) (4, lit< tt, refl), tt), (follows constructor_body constructor_controls constructor_facts (placed (control_in constructor_controls 4) parameter_origin (fact in_both modes.Alias)) (subst (IsFollowed constructor_facts (control_in constructor_controls 5) parameter_origin) (sym stores) (5, lit< tt, refl), tt), (follows constructor_body constructor_controls constructor_facts (placed (control_in constructor_controls 5) parameter_origin (fact in_field modes.Held)) (subst (IsFollowed constructor_facts (control_in constructor_controls 6) parameter_origin) (sym drops) (6, lit< tt, refl), tt), (follows constructor_body constructor_controls constructor_facts (placed (control_in constructor_controls 6) parameter_origin (fact after_drop modes.Held)) (subst (IsFollowed constructor_facts (control_in constructor_controls 7) parameter_origin) (sym returns) tt, tt), (follows constructor_body constructor_controls constructor_facts (placed (control_in constructor_controls 0) this_origin (fact in_this modes.Lent)) ((8, lit< tt, refl), tt), (follows constructor_body constructor_controls constructor_facts (placed (control_in constructor_controls 1) this_origin (fact in_this modes.Lent)) ((9, lit< tt, refl), tt), (follows constructor_body constructor_controls constructor_facts (placed (control_in constructor_controls 2) this_origin (fact in_this modes.Lent)) ((10, lit< tt, refl), tt), (follows constructor_body constructor_controls constructor_facts (placed (control_in constructor_controls 3) this_origin (fact in_this modes.Lent)) (subst (IsFollowed constructor_facts (control_in constructor_controls 4) this_origin) (sym copies_over_this) (11, lit< tt, refl), tt), (follows constructor_body constructor_controls constructor_facts (placed (control_in constructor_controls 4) this_origin (fact this_read modes.Lent)) (subst (IsFollowed constructor_facts (control_in constructor_controls 5) this_origin) (sym stores_beside_this) (12, lit< tt, refl), tt), (follows constructor_body constructor_controls constructor_facts (placed (control_in constructor_controls 5) this_origin (fact this_read modes.Lent)) (subst (IsFollowed constructor_facts (control_in constructor_controls 6) this_origin) (sym drops_beside_this) (13, lit< tt, refl), tt), (follows constructor_body constructor_controls constructor_facts (placed (control_in constructor_controls 6) this_origin (fact this_dropped modes.Lent)) (subst (IsFollowed constructor_facts (control_in constructor_controls 7) this_origin) (sym returns_this) tt, tt), tt))))))))))))))

pub constructor_certificate : IsCertificate wrapping constructor_body (steps constructor_body) constructor_controls constructor_facts
unfolding start_of
constructor_certificate = record {
  start = (0, lit< tt, refl);
  steps = come;
  entry = all_of (IsListed constructor_facts (steps constructor_body).start) (births_at_entry wrapping constructor_body) ((0, lit< tt, refl), ((7, lit< tt, refl), tt));
  births = born;
  flows = followed;
}

-- sets of places have room for all places that the steps name
pub constructor_small : All (AllActions constructor_body (IsSmallAction wrapping)) constructor_controls
unfolding next_of
constructor_small = all_of (AllActions constructor_body (IsSmallAction wrapping)) constructor_controls
    (acts constructor_body constructor_controls (IsSmallAction wrapping) 0 (tt, tt), (acts constructor_body constructor_controls (IsSmallAction wrapping) 1 (tt, tt), (acts constructor_body constructor_controls (IsSmallAction wrapping) 2 (tt, tt), (acts constructor_body constructor_controls (IsSmallAction wrapping) 3 ((lit< tt, lit< tt), tt), (acts constructor_body constructor_controls (IsSmallAction wrapping) 4 ((lit< tt, lit< tt), tt), (acts constructor_body constructor_controls (IsSmallAction wrapping) 5 (lit< tt, tt), (acts constructor_body constructor_controls (IsSmallAction wrapping) 6 (tt, tt), (acts constructor_body constructor_controls (IsSmallAction wrapping) 7 tt, tt))))))))
