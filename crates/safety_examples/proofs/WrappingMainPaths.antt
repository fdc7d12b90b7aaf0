-- No path in `main` breaks a rule.
use Rattle.std.proofs.Common.{◌≡◌, List, [], ◌∷◌, All, refl, sym, subst, lit<, arith, lit≤}
use Rattle.java_control.specs.Control.{next_of, start_of}
use Rattle.java_control.specs.Remaining.{Todo}
use Rattle.control_actions.specs.declared.action.Action.TheVariants as actions
use Rattle.control_actions.specs.declared.action.Edge.TheVariants as edges
use Rattle.obligation_facts.specs.SmallActions.{IsSmallAction}
use Rattle.soundness_laws.specs.Births.{births_of_step}
use Rattle.safety_examples.specs.Certificates.{IsCertificate, IsFollowed, IsListed, Placed, placed}
use Rattle.safety_examples.specs.OwnerPrograms.{in_source, no_names}
use Rattle.safety_examples.specs.WrappingControls.{main_controls}
use Rattle.safety_examples.specs.OwnerPrograms.{resource_constructor}
use Rattle.safety_examples.specs.WrappingPrograms.{main_body, wrapper_constructor, wrapping}
use Rattle.safety_examples.proofs.OwnerSets.{close_not_none}
use Rattle.safety_examples.proofs.Tests.{all_none, all_of}
use Rattle.safety_examples.proofs.WrappingMainFlows.{after_call, after_drop, calls, closed_names, copies, drops, fact, in_argument, in_both, in_temp, in_variable, moves, resource_origin, returns, wrapped_names, wraps}
use Rattle.safety_examples.proofs.WrappingWalks.{AllActions, Bears, ComesTo, Follows, acts, bears, comes_to, control_in, follows, steps}

abbrev pub main_facts : List (Placed (List Todo))
main_facts =
    placed (control_in main_controls 4) resource_origin (fact in_argument no_names)
    ∷ placed (control_in main_controls 5) resource_origin (fact in_temp wrapped_names)
    ∷ placed (control_in main_controls 6) resource_origin (fact in_variable wrapped_names)
    ∷ placed (control_in main_controls 7) resource_origin (fact in_variable wrapped_names)
    ∷ placed (control_in main_controls 8) resource_origin (fact in_variable wrapped_names)
    ∷ placed (control_in main_controls 9) resource_origin (fact in_variable wrapped_names)
    ∷ placed (control_in main_controls 10) resource_origin (fact in_both wrapped_names)
    ∷ placed (control_in main_controls 11) resource_origin (fact after_call closed_names)
    ∷ placed (control_in main_controls 12) resource_origin (fact after_drop closed_names)
    ∷ []

-- the resource has a fact; the wrapper has that one, too
resource_born : births_of_step wrapping main_body (actions.New resource_constructor 1 0) edges.Go (in_source 8 33) ≡ (resource_origin, fact in_argument no_names) ∷ []
resource_born = simp close_not_none refl

makes_resource : All (IsListed main_facts (control_in main_controls 4)) (births_of_step wrapping main_body (actions.New resource_constructor 1 0) edges.Go (in_source 8 33))
makes_resource =
    subst (All (IsListed main_facts (control_in main_controls 4))) (sym resource_born)
    (all_of (IsListed main_facts (control_in main_controls 4)) ((resource_origin, fact in_argument no_names) ∷ []) ((0, lit< tt, refl), tt))

wrapper_born : births_of_step wrapping main_body (actions.New wrapper_constructor 0 1) edges.Go (in_source 8 21) ≡ []
wrapper_born = simp close_not_none refl

makes_wrapper : All (IsListed main_facts (control_in main_controls 5)) (births_of_step wrapping main_body (actions.New wrapper_constructor 0 1) edges.Go (in_source 8 21))
makes_wrapper = subst (All (IsListed main_facts (control_in main_controls 5))) (sym wrapper_born) (all_none (IsListed main_facts (control_in main_controls 5)))

come : All (λ k. All (ComesTo main_body main_controls) ((steps main_body).next k)) main_controls
unfolding next_of
come = all_of (λ k. All (ComesTo main_body main_controls) ((steps main_body).next k)) main_controls
    (comes_to main_body main_controls 0 ((1, lit< tt, refl), tt), (comes_to main_body main_controls 1 ((2, lit< tt, refl), tt), (comes_to main_body main_controls 2 ((3, lit< tt, refl), tt), (comes_to main_body main_controls 3 ((4, lit< tt, refl), tt), (comes_to main_body main_controls 4 ((5, lit< tt, refl), tt), (comes_to main_body main_controls 5 ((6, lit< tt, refl), tt), (comes_to main_body main_controls 6 ((7, lit< tt, refl), tt), (comes_to main_body main_controls 7 ((8, lit< tt, refl), tt), (comes_to main_body main_controls 8 ((9, lit< tt, refl), tt), (comes_to main_body main_controls 9 ((10, lit< tt, refl), tt), (comes_to main_body main_controls 10 ((11, lit< tt, refl), tt), (comes_to main_body main_controls 11 ((12, lit< tt, refl), tt), (comes_to main_body main_controls 12 ((13, lit< tt, refl), tt), (comes_to main_body main_controls 13 tt, tt))))))))))))))

born : All (λ k. All (Bears main_body main_controls main_facts) ((steps main_body).next k)) main_controls
unfolding next_of
born = all_of (λ k. All (Bears main_body main_controls main_facts) ((steps main_body).next k)) main_controls
    (bears main_body main_controls main_facts 0 (λ k d within. absurd (omega arith), tt), (bears main_body main_controls main_facts 1 (λ k d within. absurd (omega arith), tt), (bears main_body main_controls main_facts 2 (λ k d within. absurd (omega arith), tt), (bears main_body main_controls main_facts 3 (makes_resource, tt), (bears main_body main_controls main_facts 4 (makes_wrapper, tt), (bears main_body main_controls main_facts 5 (λ k d within. absurd (omega arith), tt), (bears main_body main_controls main_facts 6 (λ k d within. absurd (omega arith), tt), (bears main_body main_controls main_facts 7 (λ k d within. absurd (omega arith), tt), (bears main_body main_controls main_facts 8 (λ k d within. absurd (omega arith), tt), (bears main_body main_controls main_facts 9 (λ k d within. absurd (omega arith), tt), (bears main_body main_controls main_facts 10 (λ k d within. absurd (omega arith), tt), (bears main_body main_controls main_facts 11 (λ k d within. absurd (omega arith), tt), (bears main_body main_controls main_facts 12 (λ k d within. absurd (omega arith), tt), (bears main_body main_controls main_facts 13 tt, tt))))))))))))))

followed : All (λ (x : Placed (List Todo)). All (Follows main_body main_controls main_facts x) ((steps main_body).next x.control)) main_facts
unfolding next_of
followed = all_of (λ (x : Placed (List Todo)). All (Follows main_body main_controls main_facts x) ((steps main_body).next x.control)) main_facts
    (follows main_body main_controls main_facts (placed (control_in main_controls 4) resource_origin (fact in_argument no_names)) (subst (IsFollowed main_facts (control_in main_controls 5) resource_origin) (sym wraps) (1, lit< tt, refl), tt), (follows main_body main_controls main_facts (placed (control_in main_controls 5) resource_origin (fact in_temp wrapped_names)) (subst (IsFollowed main_facts (control_in main_controls 6) resource_origin) (sym moves) (2, lit< tt, refl), tt), (follows main_body main_controls main_facts (placed (control_in main_controls 6) resource_origin (fact in_variable wrapped_names)) ((3, lit< tt, refl), tt), (follows main_body main_controls main_facts (placed (control_in main_controls 7) resource_origin (fact in_variable wrapped_names)) ((4, lit< tt, refl), tt), (follows main_body main_controls main_facts (placed (control_in main_controls 8) resource_origin (fact in_variable wrapped_names)) ((5, lit< tt, refl), tt), (follows main_body main_controls main_facts (placed (control_in main_controls 9) resource_origin (fact in_variable wrapped_names)) (subst (IsFollowed main_facts (control_in main_controls 10) resource_origin) (sym copies) (6, lit< tt, refl), tt), (follows main_body main_controls main_facts (placed (control_in main_controls 10) resource_origin (fact in_both wrapped_names)) (subst (IsFollowed main_facts (control_in main_controls 11) resource_origin) (sym calls) (7, lit< tt, refl), tt), (follows main_body main_controls main_facts (placed (control_in main_controls 11) resource_origin (fact after_call closed_names)) (subst (IsFollowed main_facts (control_in main_controls 12) resource_origin) (sym drops) (8, lit< tt, refl), tt), (follows main_body main_controls main_facts (placed (control_in main_controls 12) resource_origin (fact after_drop closed_names)) (subst (IsFollowed main_facts (control_in main_controls 13) resource_origin) (sym returns) tt, tt), tt)))))))))

pub main_certificate : IsCertificate wrapping main_body (steps main_body) main_controls main_facts
unfolding start_of
main_certificate = record {
  start = (0, lit< tt, refl);
  steps = come;
  entry = all_none (IsListed main_facts (steps main_body).start);
  births = born;
  flows = followed;
}

-- sets of places have room for all places that the steps name
pub main_small : All (AllActions main_body (IsSmallAction wrapping)) main_controls
unfolding next_of
main_small = all_of (AllActions main_body (IsSmallAction wrapping)) main_controls
    (acts main_body main_controls (IsSmallAction wrapping) 0 (tt, tt), (acts main_body main_controls (IsSmallAction wrapping) 1 (tt, tt), (acts main_body main_controls (IsSmallAction wrapping) 2 (tt, tt), (acts main_body main_controls (IsSmallAction wrapping) 3 (lit< tt, tt), (acts main_body main_controls (IsSmallAction wrapping) 4 (lit< tt, tt), (acts main_body main_controls (IsSmallAction wrapping) 5 ((lit< tt, lit< tt), tt), (acts main_body main_controls (IsSmallAction wrapping) 6 (tt, tt), (acts main_body main_controls (IsSmallAction wrapping) 7 (tt, tt), (acts main_body main_controls (IsSmallAction wrapping) 8 (tt, tt), (acts main_body main_controls (IsSmallAction wrapping) 9 ((lit< tt, lit< tt), tt), (acts main_body main_controls (IsSmallAction wrapping) 10 ((lit< tt, lit≤ tt), tt), (acts main_body main_controls (IsSmallAction wrapping) 11 (lit< tt, tt), (acts main_body main_controls (IsSmallAction wrapping) 12 (tt, tt), (acts main_body main_controls (IsSmallAction wrapping) 13 tt, tt))))))))))))))
