-- No path in `pass` breaks a rule.
use Rattle.std.proofs.Common.{List, [], ◌∷◌, All, refl, sym, subst, lit<, arith}
use Rattle.java_control.specs.Control.{next_of, start_of}
use Rattle.java_control.specs.Remaining.{Todo}
use Rattle.obligation_facts.specs.SmallActions.{IsSmallAction}
use Rattle.soundness_laws.specs.Births.{births_at_entry}
use Rattle.safety_examples.specs.Certificates.{IsCertificate, IsFollowed, IsListed, Placed, placed}
use Rattle.safety_examples.specs.AliasControls.{pass_controls}
use Rattle.safety_examples.specs.AliasPrograms.{aliasing, pass_body}
use Rattle.safety_examples.proofs.Tests.{all_of}
use Rattle.safety_examples.proofs.PassFlows.{copies, fact, in_both, in_variable, parameter_origin, returns}
use Rattle.safety_examples.proofs.AliasWalks.{AllActions, Bears, ComesTo, Follows, acts, bears, comes_to, control_in, follows, steps}

abbrev pub pass_facts : List (Placed (List Todo))
pass_facts =
    placed (control_in pass_controls 0) parameter_origin (fact in_variable)
    ∷ placed (control_in pass_controls 1) parameter_origin (fact in_variable)
    ∷ placed (control_in pass_controls 2) parameter_origin (fact in_variable)
    ∷ placed (control_in pass_controls 3) parameter_origin (fact in_both)
    ∷ []

come : All (λ k. All (ComesTo pass_body pass_controls) ((steps pass_body).next k)) pass_controls
unfolding next_of
come = all_of (λ k. All (ComesTo pass_body pass_controls) ((steps pass_body).next k)) pass_controls
    (comes_to pass_body pass_controls 0 ((1, lit< tt, refl), tt), (comes_to pass_body pass_controls 1 ((2, lit< tt, refl), tt), (comes_to pass_body pass_controls 2 ((3, lit< tt, refl), tt), (comes_to pass_body pass_controls 3 ((4, lit< tt, refl), tt), (comes_to pass_body pass_controls 4 tt, tt)))))

born : All (λ k. All (Bears pass_body pass_controls pass_facts) ((steps pass_body).next k)) pass_controls
unfolding next_of
born = all_of (λ k. All (Bears pass_body pass_controls pass_facts) ((steps pass_body).next k)) pass_controls
    (bears pass_body pass_controls pass_facts 0 (λ k d within. absurd (omega arith), tt), (bears pass_body pass_controls pass_facts 1 (λ k d within. absurd (omega arith), tt), (bears pass_body pass_controls pass_facts 2 (λ k d within. absurd (omega arith), tt), (bears pass_body pass_controls pass_facts 3 (λ k d within. absurd (omega arith), tt), (bears pass_body pass_controls pass_facts 4 tt, tt)))))

followed : All (λ (x : Placed (List Todo)). All (Follows pass_body pass_controls pass_facts x) ((steps pass_body).next x.control)) pass_facts
unfolding next_of
followed = all_of (λ (x : Placed (List Todo)). All (Follows pass_body pass_controls pass_facts x) ((steps pass_body).next x.control)) pass_facts
    (follows pass_body pass_controls pass_facts (placed (control_in pass_controls 0) parameter_origin (fact in_variable)) ((1, lit< tt, refl), tt), (follows pass_body pass_controls pass_facts (placed (control_in pass_controls 1) parameter_origin (fact in_variable)) ((2, lit< tt, refl), tt), (follows pass_body pass_controls pass_facts (placed (control_in pass_controls 2) parameter_origin (fact in_variable)) (subst (IsFollowed pass_facts (control_in pass_controls 3) parameter_origin) (sym copies) (3, lit< tt, refl), tt), (follows pass_body pass_controls pass_facts (placed (control_in pass_controls 3) parameter_origin (fact in_both)) (subst (IsFollowed pass_facts (control_in pass_controls 4) parameter_origin) (sym returns) tt, tt), tt))))

pub pass_certificate : IsCertificate aliasing pass_body (steps pass_body) pass_controls pass_facts
unfolding start_of
pass_certificate = record {
  start = (0, lit< tt, refl);
  steps = come;
  entry = all_of (IsListed pass_facts (steps pass_body).start) (births_at_entry aliasing pass_body) ((0, lit< tt, refl), tt);
  births = born;
  flows = followed;
}

-- sets of places have room for all places that the steps name
pub pass_small : All (AllActions pass_body (IsSmallAction aliasing)) pass_controls
unfolding next_of
pass_small = all_of (AllActions pass_body (IsSmallAction aliasing)) pass_controls
    (acts pass_body pass_controls (IsSmallAction aliasing) 0 (tt, tt), (acts pass_body pass_controls (IsSmallAction aliasing) 1 (tt, tt), (acts pass_body pass_controls (IsSmallAction aliasing) 2 ((lit< tt, lit< tt), tt), (acts pass_body pass_controls (IsSmallAction aliasing) 3 (lit< tt, tt), (acts pass_body pass_controls (IsSmallAction aliasing) 4 tt, tt)))))
