-- No path in `shut` breaks a rule.
use Rattle.std.proofs.Common.{List, [], ◌∷◌, All, refl, sym, subst, lit<, arith, lit≤}
use Rattle.java_control.specs.Control.{next_of, start_of}
use Rattle.java_control.specs.Remaining.{Todo}
use Rattle.obligation_facts.specs.SmallActions.{IsSmallAction}
use Rattle.soundness_laws.specs.Births.{births_at_entry}
use Rattle.safety_examples.specs.Certificates.{IsCertificate, IsFollowed, IsListed, Placed, placed}
use Rattle.safety_examples.specs.CarefulPrograms.{no_names}
use Rattle.safety_examples.specs.ThrowingControls.{shut_controls}
use Rattle.safety_examples.specs.ThrowingPrograms.{shut_body, throwing}
use Rattle.safety_examples.proofs.Tests.{all_of}
use Rattle.safety_examples.proofs.ThrowingShutFlows.{after_call, after_drop, closed_names, closes, copies, drops, fact, in_both, in_variable, leaves, parameter_origin, returns, throws}
use Rattle.safety_examples.proofs.ThrowingWalks.{AllActions, Bears, ComesTo, Follows, acts, bears, comes_to, control_in, follows, steps}

abbrev pub shut_facts : List (Placed (List Todo))
shut_facts =
    placed (control_in shut_controls 0) parameter_origin (fact in_variable no_names)
    ∷ placed (control_in shut_controls 1) parameter_origin (fact in_variable no_names)
    ∷ placed (control_in shut_controls 2) parameter_origin (fact in_variable no_names)
    ∷ placed (control_in shut_controls 3) parameter_origin (fact in_variable no_names)
    ∷ placed (control_in shut_controls 4) parameter_origin (fact in_both no_names)
    ∷ placed (control_in shut_controls 5) parameter_origin (fact after_call closed_names)
    ∷ placed (control_in shut_controls 6) parameter_origin (fact after_drop closed_names)
    ∷ placed (control_in shut_controls 7) parameter_origin (fact after_call closed_names)
    ∷ placed (control_in shut_controls 8) parameter_origin (fact after_call closed_names)
    ∷ []

come : All (λ k. All (ComesTo shut_body shut_controls) ((steps shut_body).next k)) shut_controls
unfolding next_of
come = all_of (λ k. All (ComesTo shut_body shut_controls) ((steps shut_body).next k)) shut_controls
    (comes_to shut_body shut_controls 0 ((1, lit< tt, refl), tt), (comes_to shut_body shut_controls 1 ((2, lit< tt, refl), tt), (comes_to shut_body shut_controls 2 ((3, lit< tt, refl), tt), (comes_to shut_body shut_controls 3 ((4, lit< tt, refl), tt), (comes_to shut_body shut_controls 4 ((5, lit< tt, refl), ((7, lit< tt, refl), tt)), (comes_to shut_body shut_controls 5 ((6, lit< tt, refl), tt), (comes_to shut_body shut_controls 6 ((9, lit< tt, refl), tt), (comes_to shut_body shut_controls 7 ((8, lit< tt, refl), tt), (comes_to shut_body shut_controls 8 ((9, lit< tt, refl), tt), (comes_to shut_body shut_controls 9 tt, tt))))))))))

born : All (λ k. All (Bears shut_body shut_controls shut_facts) ((steps shut_body).next k)) shut_controls
unfolding next_of
born = all_of (λ k. All (Bears shut_body shut_controls shut_facts) ((steps shut_body).next k)) shut_controls
    (bears shut_body shut_controls shut_facts 0 (λ k d within. absurd (omega arith), tt), (bears shut_body shut_controls shut_facts 1 (λ k d within. absurd (omega arith), tt), (bears shut_body shut_controls shut_facts 2 (λ k d within. absurd (omega arith), tt), (bears shut_body shut_controls shut_facts 3 (λ k d within. absurd (omega arith), tt), (bears shut_body shut_controls shut_facts 4 ((λ k d within. absurd (omega arith)), ((λ k d within. absurd (omega arith)), tt)), (bears shut_body shut_controls shut_facts 5 (λ k d within. absurd (omega arith), tt), (bears shut_body shut_controls shut_facts 6 (λ k d within. absurd (omega arith), tt), (bears shut_body shut_controls shut_facts 7 (λ k d within. absurd (omega arith), tt), (bears shut_body shut_controls shut_facts 8 (λ k d within. absurd (omega arith), tt), (bears shut_body shut_controls shut_facts 9 tt, tt))))))))))

followed : All (λ (x : Placed (List Todo)). All (Follows shut_body shut_controls shut_facts x) ((steps shut_body).next x.control)) shut_facts
unfolding next_of
followed = all_of (λ (x : Placed (List Todo)). All (Follows shut_body shut_controls shut_facts x) ((steps shut_body).next x.control)) shut_facts
    (follows shut_body shut_controls shut_facts (placed (control_in shut_controls 0) parameter_origin (fact in_variable no_names)) ((1, lit< tt, refl), tt), (follows shut_body shut_controls shut_facts (placed (control_in shut_controls 1) parameter_origin (fact in_variable no_names)) ((2, lit< tt, refl), tt), (follows shut_body shut_controls shut_facts (placed (control_in shut_controls 2) parameter_origin (fact in_variable no_names)) ((3, lit< tt, refl), tt), (follows shut_body shut_controls shut_facts (placed (control_in shut_controls 3) parameter_origin (fact in_variable no_names)) (subst (IsFollowed shut_facts (control_in shut_controls 4) parameter_origin) (sym copies) (4, lit< tt, refl), tt), (follows shut_body shut_controls shut_facts (placed (control_in shut_controls 4) parameter_origin (fact in_both no_names)) (subst (IsFollowed shut_facts (control_in shut_controls 5) parameter_origin) (sym closes) (5, lit< tt, refl), (subst (IsFollowed shut_facts (control_in shut_controls 7) parameter_origin) (sym throws) (7, lit< tt, refl), tt)), (follows shut_body shut_controls shut_facts (placed (control_in shut_controls 5) parameter_origin (fact after_call closed_names)) (subst (IsFollowed shut_facts (control_in shut_controls 6) parameter_origin) (sym drops) (6, lit< tt, refl), tt), (follows shut_body shut_controls shut_facts (placed (control_in shut_controls 6) parameter_origin (fact after_drop closed_names)) (subst (IsFollowed shut_facts (control_in shut_controls 9) parameter_origin) (sym returns) tt, tt), (follows shut_body shut_controls shut_facts (placed (control_in shut_controls 7) parameter_origin (fact after_call closed_names)) ((8, lit< tt, refl), tt), (follows shut_body shut_controls shut_facts (placed (control_in shut_controls 8) parameter_origin (fact after_call closed_names)) (subst (IsFollowed shut_facts (control_in shut_controls 9) parameter_origin) (sym leaves) tt, tt), tt)))))))))

pub shut_certificate : IsCertificate throwing shut_body (steps shut_body) shut_controls shut_facts
unfolding start_of
shut_certificate = record {
  start = (0, lit< tt, refl);
  steps = come;
  entry = all_of (IsListed shut_facts (steps shut_body).start) (births_at_entry throwing shut_body) ((0, lit< tt, refl), tt);
  births = born;
  flows = followed;
}

-- sets of places have room for all places that the steps name
pub shut_small : All (AllActions shut_body (IsSmallAction throwing)) shut_controls
unfolding next_of
shut_small = all_of (AllActions shut_body (IsSmallAction throwing)) shut_controls
    (acts shut_body shut_controls (IsSmallAction throwing) 0 (tt, tt), (acts shut_body shut_controls (IsSmallAction throwing) 1 (tt, tt), (acts shut_body shut_controls (IsSmallAction throwing) 2 (tt, tt), (acts shut_body shut_controls (IsSmallAction throwing) 3 ((lit< tt, lit< tt), tt), (acts shut_body shut_controls (IsSmallAction throwing) 4 ((lit< tt, lit≤ tt), ((lit< tt, lit≤ tt), tt)), (acts shut_body shut_controls (IsSmallAction throwing) 5 (lit< tt, tt), (acts shut_body shut_controls (IsSmallAction throwing) 6 (tt, tt), (acts shut_body shut_controls (IsSmallAction throwing) 7 (tt, tt), (acts shut_body shut_controls (IsSmallAction throwing) 8 (lit< tt, tt), (acts shut_body shut_controls (IsSmallAction throwing) 9 tt, tt))))))))))
