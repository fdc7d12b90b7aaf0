-- No path in `reopen` breaks a rule.
use Rattle.std.proofs.Common.{List, [], ◌∷◌, All, refl, sym, subst, lit<, arith, lit≤}
use Rattle.java_control.specs.Control.{next_of, start_of}
use Rattle.java_control.specs.Remaining.{Todo}
use Rattle.obligation_facts.specs.SmallActions.{IsSmallAction}
use Rattle.soundness_laws.specs.Births.{births_at_entry}
use Rattle.safety_examples.specs.Certificates.{IsCertificate, IsFollowed, IsListed, Placed, placed}
use Rattle.safety_examples.specs.ReopeningControls.{reopen_controls}
use Rattle.safety_examples.specs.ReopeningPrograms.{reopen_body, reopening}
use Rattle.safety_examples.proofs.Tests.{all_of}
use Rattle.safety_examples.proofs.ReopenFlows.{after_call, after_drop, connects, copies, drops, fact, in_both, in_variable, parameter_origin, returns}
use Rattle.safety_examples.proofs.ReopeningWalks.{AllActions, Bears, ComesTo, Follows, acts, bears, comes_to, control_in, follows, steps}

abbrev pub reopen_facts : List (Placed (List Todo))
reopen_facts =
    placed (control_in reopen_controls 0) parameter_origin (fact in_variable)
    ∷ placed (control_in reopen_controls 1) parameter_origin (fact in_variable)
    ∷ placed (control_in reopen_controls 2) parameter_origin (fact in_variable)
    ∷ placed (control_in reopen_controls 3) parameter_origin (fact in_variable)
    ∷ placed (control_in reopen_controls 4) parameter_origin (fact in_both)
    ∷ placed (control_in reopen_controls 5) parameter_origin (fact after_call)
    ∷ placed (control_in reopen_controls 6) parameter_origin (fact after_drop)
    ∷ []

come : All (λ k. All (ComesTo reopen_body reopen_controls) ((steps reopen_body).next k)) reopen_controls
unfolding next_of
come = all_of (λ k. All (ComesTo reopen_body reopen_controls) ((steps reopen_body).next k)) reopen_controls
    (comes_to reopen_body reopen_controls 0 ((1, lit< tt, refl), tt), (comes_to reopen_body reopen_controls 1 ((2, lit< tt, refl), tt), (comes_to reopen_body reopen_controls 2 ((3, lit< tt, refl), tt), (comes_to reopen_body reopen_controls 3 ((4, lit< tt, refl), tt), (comes_to reopen_body reopen_controls 4 ((5, lit< tt, refl), tt), (comes_to reopen_body reopen_controls 5 ((6, lit< tt, refl), tt), (comes_to reopen_body reopen_controls 6 ((7, lit< tt, refl), tt), (comes_to reopen_body reopen_controls 7 tt, tt))))))))

born : All (λ k. All (Bears reopen_body reopen_controls reopen_facts) ((steps reopen_body).next k)) reopen_controls
unfolding next_of
born = all_of (λ k. All (Bears reopen_body reopen_controls reopen_facts) ((steps reopen_body).next k)) reopen_controls
    (bears reopen_body reopen_controls reopen_facts 0 (λ k d within. absurd (omega arith), tt), (bears reopen_body reopen_controls reopen_facts 1 (λ k d within. absurd (omega arith), tt), (bears reopen_body reopen_controls reopen_facts 2 (λ k d within. absurd (omega arith), tt), (bears reopen_body reopen_controls reopen_facts 3 (λ k d within. absurd (omega arith), tt), (bears reopen_body reopen_controls reopen_facts 4 (λ k d within. absurd (omega arith), tt), (bears reopen_body reopen_controls reopen_facts 5 (λ k d within. absurd (omega arith), tt), (bears reopen_body reopen_controls reopen_facts 6 (λ k d within. absurd (omega arith), tt), (bears reopen_body reopen_controls reopen_facts 7 tt, tt))))))))

followed : All (λ (x : Placed (List Todo)). All (Follows reopen_body reopen_controls reopen_facts x) ((steps reopen_body).next x.control)) reopen_facts
unfolding next_of
followed = all_of (λ (x : Placed (List Todo)). All (Follows reopen_body reopen_controls reopen_facts x) ((steps reopen_body).next x.control)) reopen_facts
    (follows reopen_body reopen_controls reopen_facts (placed (control_in reopen_controls 0) parameter_origin (fact in_variable)) ((1, lit< tt, refl), tt), (follows reopen_body reopen_controls reopen_facts (placed (control_in reopen_controls 1) parameter_origin (fact in_variable)) ((2, lit< tt, refl), tt), (follows reopen_body reopen_controls reopen_facts (placed (control_in reopen_controls 2) parameter_origin (fact in_variable)) ((3, lit< tt, refl), tt), (follows reopen_body reopen_controls reopen_facts (placed (control_in reopen_controls 3) parameter_origin (fact in_variable)) (subst (IsFollowed reopen_facts (control_in reopen_controls 4) parameter_origin) (sym copies) (4, lit< tt, refl), tt), (follows reopen_body reopen_controls reopen_facts (placed (control_in reopen_controls 4) parameter_origin (fact in_both)) (subst (IsFollowed reopen_facts (control_in reopen_controls 5) parameter_origin) (sym connects) (5, lit< tt, refl), tt), (follows reopen_body reopen_controls reopen_facts (placed (control_in reopen_controls 5) parameter_origin (fact after_call)) (subst (IsFollowed reopen_facts (control_in reopen_controls 6) parameter_origin) (sym drops) (6, lit< tt, refl), tt), (follows reopen_body reopen_controls reopen_facts (placed (control_in reopen_controls 6) parameter_origin (fact after_drop)) (subst (IsFollowed reopen_facts (control_in reopen_controls 7) parameter_origin) (sym returns) tt, tt), tt)))))))

pub reopen_certificate : IsCertificate reopening reopen_body (steps reopen_body) reopen_controls reopen_facts
unfolding start_of
reopen_certificate = record {
  start = (0, lit< tt, refl);
  steps = come;
  entry = all_of (IsListed reopen_facts (steps reopen_body).start) (births_at_entry reopening reopen_body) ((0, lit< tt, refl), tt);
  births = born;
  flows = followed;
}

-- sets of places have room for all places that the steps name
pub reopen_small : All (AllActions reopen_body (IsSmallAction reopening)) reopen_controls
unfolding next_of
reopen_small = all_of (AllActions reopen_body (IsSmallAction reopening)) reopen_controls
    (acts reopen_body reopen_controls (IsSmallAction reopening) 0 (tt, tt), (acts reopen_body reopen_controls (IsSmallAction reopening) 1 (tt, tt), (acts reopen_body reopen_controls (IsSmallAction reopening) 2 (tt, tt), (acts reopen_body reopen_controls (IsSmallAction reopening) 3 ((lit< tt, lit< tt), tt), (acts reopen_body reopen_controls (IsSmallAction reopening) 4 ((lit< tt, lit≤ tt), tt), (acts reopen_body reopen_controls (IsSmallAction reopening) 5 (lit< tt, tt), (acts reopen_body reopen_controls (IsSmallAction reopening) 6 (tt, tt), (acts reopen_body reopen_controls (IsSmallAction reopening) 7 tt, tt))))))))
