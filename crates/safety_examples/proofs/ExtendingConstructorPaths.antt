-- No path in the constructor breaks a rule.
use Rattle.std.proofs.Common.{List, [], ◌∷◌, All, refl, sym, subst, lit<, lit≤, arith}
use Rattle.java_control.specs.Control.{next_of, start_of}
use Rattle.java_control.specs.Remaining.{Todo}
use Rattle.control_actions.specs.declared.fact.Mode.TheVariants as modes
use Rattle.obligation_facts.specs.SmallActions.{IsSmallAction}
use Rattle.soundness_laws.specs.Births.{births_at_entry}
use Rattle.safety_examples.specs.Certificates.{IsCertificate, IsFollowed, IsListed, Placed, placed}
use Rattle.safety_examples.specs.ExtendingControls.{constructor_controls}
use Rattle.safety_examples.specs.ExtendingPrograms.{constructor_body, extending}
use Rattle.safety_examples.proofs.Tests.{all_of}
use Rattle.safety_examples.proofs.ExtendingConstructorFlows.{after_drop, calls_on_this, clears_this, copies, copies_over_this, drops, drops_beside_this, fact, fact_after, in_both, in_field, in_this, in_variable, parameter_origin, past_call, past_drop, past_this, returns, returns_this, stays_at_call, stays_at_drop, stays_beside_this, stores, stores_beside_this, takes_this, this_called, this_cleared, this_dropped, this_origin, this_read, this_taken}
use Rattle.safety_examples.proofs.ExtendingWalks.{AllActions, Bears, ComesTo, Follows, acts, bears, comes_to, control_in, follows, steps}

abbrev pub constructor_facts : List (Placed (List Todo))
constructor_facts =
    placed (control_in constructor_controls 0) parameter_origin (fact in_variable modes.Own)
    ∷ placed (control_in constructor_controls 1) parameter_origin (fact past_this modes.Own)
    ∷ placed (control_in constructor_controls 2) parameter_origin (fact_after past_call modes.Own)
    ∷ placed (control_in constructor_controls 3) parameter_origin (fact_after past_drop modes.Own)
    ∷ placed (control_in constructor_controls 4) parameter_origin (fact_after past_drop modes.Own)
    ∷ placed (control_in constructor_controls 5) parameter_origin (fact_after past_drop modes.Own)
    ∷ placed (control_in constructor_controls 6) parameter_origin (fact_after past_drop modes.Own)
    ∷ placed (control_in constructor_controls 7) parameter_origin (fact_after in_both modes.Own)
    ∷ placed (control_in constructor_controls 8) parameter_origin (fact_after in_field modes.Held)
    ∷ placed (control_in constructor_controls 9) parameter_origin (fact_after after_drop modes.Held)
    ∷ placed (control_in constructor_controls 0) this_origin (fact in_this modes.Lent)
    ∷ placed (control_in constructor_controls 1) this_origin (fact this_taken modes.Lent)
    ∷ placed (control_in constructor_controls 2) this_origin (fact_after this_called modes.Lent)
    ∷ placed (control_in constructor_controls 3) this_origin (fact_after this_cleared modes.Lent)
    ∷ placed (control_in constructor_controls 4) this_origin (fact_after this_cleared modes.Lent)
    ∷ placed (control_in constructor_controls 5) this_origin (fact_after this_cleared modes.Lent)
    ∷ placed (control_in constructor_controls 6) this_origin (fact_after this_cleared modes.Lent)
    ∷ placed (control_in constructor_controls 7) this_origin (fact_after this_read modes.Lent)
    ∷ placed (control_in constructor_controls 8) this_origin (fact_after this_read modes.Lent)
    ∷ placed (control_in constructor_controls 9) this_origin (fact_after this_dropped modes.Lent)
    ∷ []

come : All (λ k. All (ComesTo constructor_body constructor_controls) ((steps constructor_body).next k)) constructor_controls
unfolding next_of
come = all_of (λ k. All (ComesTo constructor_body constructor_controls) ((steps constructor_body).next k)) constructor_controls
    (comes_to constructor_body constructor_controls 0 ((1, lit< tt, refl), tt), (comes_to constructor_body constructor_controls 1 ((2, lit< tt, refl), tt), (comes_to constructor_body constructor_controls 2 ((3, lit< tt, refl), tt), (comes_to constructor_body constructor_controls 3 ((4, lit< tt, refl), tt), (comes_to constructor_body constructor_controls 4 ((5, lit< tt, refl), tt), (comes_to constructor_body constructor_controls 5 ((6, lit< tt, refl), tt), (comes_to constructor_body constructor_controls 6 ((7, lit< tt, refl), tt), (comes_to constructor_body constructor_controls 7 ((8, lit< tt, refl), tt), (comes_to constructor_body constructor_controls 8 ((9, lit< tt, refl), tt), (comes_to constructor_body constructor_controls 9 ((10, lit< tt, refl), tt), (comes_to constructor_body constructor_controls 10 tt, tt)))))))))))

born : All (λ k. All (Bears constructor_body constructor_controls constructor_facts) ((steps constructor_body).next k)) constructor_controls
unfolding next_of
born = all_of (λ k. All (Bears constructor_body constructor_controls constructor_facts) ((steps constructor_body).next k)) constructor_controls
    (bears constructor_body constructor_controls constructor_facts 0 (λ k d within. absurd (omega arith), tt), (bears constructor_body constructor_controls constructor_facts 1 (λ k d within. absurd (omega arith), tt), (bears constructor_body constructor_controls constructor_facts 2 (λ k d within. absurd (omega arith), tt), (bears constructor_body constructor_controls constructor_facts 3 (λ k d within. absurd (omega arith), tt), (bears constructor_body constructor_controls constructor_facts 4 (λ k d within. absurd (omega arith), tt), (bears constructor_body constructor_controls constructor_facts 5 (λ k d within. absurd (omega arith), tt), (bears constructor_body constructor_controls constructor_facts 6 (λ k d within. absurd (omega arith), tt), (bears constructor_body constructor_controls constructor_facts 7 (λ k d within. absurd (omega arith), tt), (bears constructor_body constructor_controls constructor_facts 8 (λ k d within. absurd (omega arith), tt), (bears constructor_body constructor_controls constructor_facts 9 (λ k d within. absurd (omega arith), tt), (bears constructor_body constructor_controls constructor_facts 10 tt, tt)))))))))))

followed : All (λ (x : Placed (List Todo)). All (Follows constructor_body constructor_controls constructor_facts x) ((steps constructor_body).next x.control)) constructor_facts
unfolding next_of
followed = all_of (λ (x : Placed (List Todo)). All (Follows constructor_body constructor_controls constructor_facts x) ((steps constructor_body).next x.control)) constructor_facts
    (follows constructor_body constructor_controls constructor_facts (placed (control_in constructor_controls 0) parameter_origin (fact in_variable modes.Own)) (subst (IsFollowed constructor_facts (control_in constructor_controls 1) parameter_origin) (sym stays_beside_this) (1, lit< tt, refl), tt), (follows constructor_body constructor_controls constructor_facts (placed (control_in constructor_controls 1) parameter_origin (fact past_this modes.Own)) (subst (IsFollowed constructor_facts (control_in constructor_controls 2) parameter_origin) (sym stays_at_call) (2, lit< tt, refl), tt), (follows constructor_body constructor_controls constructor_facts (placed (control_in constructor_controls 2) parameter_origin (fact_after past_call modes.Own)) (subst (IsFollowed constructor_facts (control_in constructor_controls 3) parameter_origin) (sym stays_at_drop) (3, lit< tt, refl), tt), (follows constructor_body constructor_controls constructor_facts (placed (control_in constructor_controls 3) parameter_origin (fact_after past_drop modes.Own)) ((4, lit< tt, refl), tt), (follows constructor_body constructor_controls constructor_facts (placed (control_in constructor_controls 4) parameter_origin (fact_after past_drop modes.Own)) ((5, lit< tt, refl), tt), (follows constructor_body constructor_controls constructor_facts (placed (control_in constructor_controls 5) parameter_origin (fact_after past_drop modes.Own)) ((6, lit< tt, refl), tt), (follows constructor_body constructor_controls constructor_facts (placed (control_in constructor_controls 6) parameter_origin (fact_after past_drop modes.Own)) (subst (IsFollowed constructor_facts (control_in constructor_controls 7) parameter_origin) (sym copies) (7, lit< tt, refl), tt), (follows constructor_body constructor_controls constructor_facts (placed (control_in constructor_controls 7) parameter_origin (fact_after in_both modes.Own)) (subst (IsFollowed constructor_facts (control_in constructor_controls 8) parameter_origin) (sym stores) (8, lit< tt, refl), tt), (follows constructor_body constructor_controls constructor_facts (placed (control_in constructor_controls 8) parameter_origin (fact_after in_field modes.Held)) (subst (IsFollowed constructor_facts (control_in constructor_controls 9) parameter_origin) (sym drops) (9, lit< tt, refl), tt), (follows constructor_body constructor_controls constructor_facts (placed (control_in constructor_controls 9) parameter_origin (fact_after after_drop modes.Held)) (subst (IsFollowed constructor_facts (control_in constructor_controls 10) parameter_origin) (sym returns) tt, tt), (follows constructor_body constructor_controls constructor_facts (placed (control_in constructor_controls 0) this_origin (fact in_this modes.Lent)) (subst (IsFollowed constructor_facts (control_in constructor_controls 1) this_origin) (sym takes_this) (11, lit< tt, refl), tt), (follows constructor_body constructor_controls constructor_facts (placed (control_in constructor_controls 1) this_origin (fact this_taken modes.Lent)) (subst (IsFollowed constructor_facts (control_in constructor_controls 2) this_origin) (sym calls_on_this) (12, lit< tt, refl), tt), (follows constructor_body constructor_controls constructor_facts (placed (control_in constructor_controls 2) this_origin (fact_after this_called modes.Lent)) (subst (IsFollowed constructor_facts (control_in constructor_controls 3) this_origin) (sym clears_this) (13, lit< tt, refl), tt), (follows constructor_body constructor_controls constructor_facts (placed (control_in constructor_controls 3) this_origin (fact_after this_cleared modes.Lent)) ((14, lit< tt, refl), tt), (follows constructor_body constructor_controls constructor_facts (placed (control_in constructor_controls 4) this_origin (fact_after this_cleared modes.Lent)) ((15, lit< tt, refl), tt), (follows constructor_body constructor_controls constructor_facts (placed (control_in constructor_controls 5) this_origin (fact_after this_cleared modes.Lent)) ((16, lit< tt, refl), tt), (follows constructor_body constructor_controls constructor_facts (placed (control_in constructor_controls 6) this_origin (fact_after this_cleared modes.Lent)) (subst (IsFollowed constructor_facts (control_in constructor_controls 7) this_origin) (sym copies_over_this) (17, lit< tt, refl), tt), (follows constructor_body constructor_controls constructor_facts (placed (control_in constructor_controls 7) this_origin (fact_after this_read modes.Lent)) (subst (IsFollowed constructor_facts (control_in constructor_controls 8) this_origin) (sym stores_beside_this) (18, lit< tt, refl), tt), (follows constructor_body constructor_controls constructor_facts (placed (control_in constructor_controls 8) this_origin (fact_after this_read modes.Lent)) (subst (IsFollowed constructor_facts (control_in constructor_controls 9) this_origin) (sym drops_beside_this) (19, lit< tt, refl), tt), (follows constructor_body constructor_controls constructor_facts (placed (control_in constructor_controls 9) this_origin (fact_after this_dropped modes.Lent)) (subst (IsFollowed constructor_facts (control_in constructor_controls 10) this_origin) (sym returns_this) tt, tt), tt))))))))))))))))))))

pub constructor_certificate : IsCertificate extending constructor_body (steps constructor_body) constructor_controls constructor_facts
unfolding start_of
constructor_certificate = record {
  start = (0, lit< tt, refl);
  steps = come;
  entry = all_of (IsListed constructor_facts (steps constructor_body).start) (births_at_entry extending constructor_body) ((0, lit< tt, refl), ((10, lit< tt, refl), tt));
  births = born;
  flows = followed;
}

-- sets of places have room for all places that the steps name
pub constructor_small : All (AllActions constructor_body (IsSmallAction extending)) constructor_controls
unfolding next_of
constructor_small = all_of (AllActions constructor_body (IsSmallAction extending)) constructor_controls
    (acts constructor_body constructor_controls (IsSmallAction extending) 0 ((lit< tt, tt), tt), (acts constructor_body constructor_controls (IsSmallAction extending) 1 ((lit< tt, lit≤ tt), tt), (acts constructor_body constructor_controls (IsSmallAction extending) 2 (lit< tt, tt), (acts constructor_body constructor_controls (IsSmallAction extending) 3 (tt, tt), (acts constructor_body constructor_controls (IsSmallAction extending) 4 (tt, tt), (acts constructor_body constructor_controls (IsSmallAction extending) 5 (tt, tt), (acts constructor_body constructor_controls (IsSmallAction extending) 6 ((lit< tt, lit< tt), tt), (acts constructor_body constructor_controls (IsSmallAction extending) 7 ((lit< tt, lit< tt), tt), (acts constructor_body constructor_controls (IsSmallAction extending) 8 (lit< tt, tt), (acts constructor_body constructor_controls (IsSmallAction extending) 9 (tt, tt), (acts constructor_body constructor_controls (IsSmallAction extending) 10 tt, tt)))))))))))
