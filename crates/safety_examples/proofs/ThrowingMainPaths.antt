-- No path in `main` breaks a rule.
use Rattle.std.proofs.Common.{◌≡◌, List, [], ◌∷◌, All, refl, sym, subst, lit<, arith, lit≤}
use Rattle.java_control.specs.Control.{next_of, start_of}
use Rattle.java_control.specs.Remaining.{Todo}
use Rattle.control_actions.specs.declared.action.Action.TheVariants as actions
use Rattle.control_actions.specs.declared.action.Edge.TheVariants as edges
use Rattle.obligation_facts.specs.SmallActions.{IsSmallAction}
use Rattle.soundness_laws.specs.Births.{births_of_step}
use Rattle.safety_examples.specs.Certificates.{IsCertificate, IsFollowed, IsListed, Placed, placed}
use Rattle.safety_examples.specs.CarefulPrograms.{in_source, no_names, socket_constructor}
use Rattle.safety_examples.specs.ThrowingControls.{main_controls}
use Rattle.safety_examples.specs.ThrowingPrograms.{main_body, throwing}
use Rattle.safety_examples.proofs.CarefulSets.{close_not_none}
use Rattle.safety_examples.proofs.Tests.{all_none, all_of}
use Rattle.safety_examples.proofs.ThrowingMainFlows.{after_call, after_drop, closed_names, copies, drops, fact, in_both, in_temp, in_variable, leaves, moves, returns, shuts, socket_origin, throws}
use Rattle.safety_examples.proofs.ThrowingWalks.{AllActions, Bears, ComesTo, Follows, acts, bears, comes_to, control_in, follows, steps}

abbrev pub main_facts : List (Placed (List Todo))
main_facts =
    placed (control_in main_controls 3) socket_origin (fact in_temp no_names)
    ∷ placed (control_in main_controls 4) socket_origin (fact in_variable no_names)
    ∷ placed (control_in main_controls 5) socket_origin (fact in_variable no_names)
    ∷ placed (control_in main_controls 6) socket_origin (fact in_variable no_names)
    ∷ placed (control_in main_controls 7) socket_origin (fact in_variable no_names)
    ∷ placed (control_in main_controls 8) socket_origin (fact in_both no_names)
    ∷ placed (control_in main_controls 9) socket_origin (fact after_call closed_names)
    ∷ placed (control_in main_controls 10) socket_origin (fact after_drop closed_names)
    ∷ placed (control_in main_controls 11) socket_origin (fact after_call closed_names)
    ∷ placed (control_in main_controls 12) socket_origin (fact after_call closed_names)
    ∷ []

-- `new` bears a fact
makes_socket_born : births_of_step throwing main_body (actions.New socket_constructor 0 0) edges.Go (in_source 6 20) ≡ (socket_origin, fact in_temp no_names) ∷ []
makes_socket_born = simp close_not_none refl

makes_socket : All (IsListed main_facts (control_in main_controls 3)) (births_of_step throwing main_body (actions.New socket_constructor 0 0) edges.Go (in_source 6 20))
makes_socket =
    subst (All (IsListed main_facts (control_in main_controls 3))) (sym makes_socket_born)
    (all_of (IsListed main_facts (control_in main_controls 3)) ((socket_origin, fact in_temp no_names) ∷ []) ((0, lit< tt, refl), tt))

come : All (λ k. All (ComesTo main_body main_controls) ((steps main_body).next k)) main_controls
unfolding next_of
come = all_of (λ k. All (ComesTo main_body main_controls) ((steps main_body).next k)) main_controls
    (comes_to main_body main_controls 0 ((1, lit< tt, refl), tt), (comes_to main_body main_controls 1 ((2, lit< tt, refl), tt), (comes_to main_body main_controls 2 ((3, lit< tt, refl), tt), (comes_to main_body main_controls 3 ((4, lit< tt, refl), tt), (comes_to main_body main_controls 4 ((5, lit< tt, refl), tt), (comes_to main_body main_controls 5 ((6, lit< tt, refl), tt), (comes_to main_body main_controls 6 ((7, lit< tt, refl), tt), (comes_to main_body main_controls 7 ((8, lit< tt, refl), tt), (comes_to main_body main_controls 8 ((9, lit< tt, refl), ((11, lit< tt, refl), tt)), (comes_to main_body main_controls 9 ((10, lit< tt, refl), tt), (comes_to main_body main_controls 10 ((13, lit< tt, refl), tt), (comes_to main_body main_controls 11 ((12, lit< tt, refl), tt), (comes_to main_body main_controls 12 ((13, lit< tt, refl), tt), (comes_to main_body main_controls 13 tt, tt))))))))))))))

born : All (λ k. All (Bears main_body main_controls main_facts) ((steps main_body).next k)) main_controls
unfolding next_of
born = all_of (λ k. All (Bears main_body main_controls main_facts) ((steps main_body).next k)) main_controls
    (bears main_body main_controls main_facts 0 (λ k d within. absurd (omega arith), tt), (bears main_body main_controls main_facts 1 (λ k d within. absurd (omega arith), tt), (bears main_body main_controls main_facts 2 (makes_socket, tt), (bears main_body main_controls main_facts 3 (λ k d within. absurd (omega arith), tt), (bears main_body main_controls main_facts 4 (λ k d within. absurd (omega arith), tt), (bears main_body main_controls main_facts 5 (λ k d within. absurd (omega arith), tt), (bears main_body main_controls main_facts 6 (λ k d within. absurd (omega arith), tt), (bears main_body main_controls main_facts 7 (λ k d within. absurd (omega arith), tt), (bears main_body main_controls main_facts 8 ((λ k d within. absurd (omega arith)), ((λ k d within. absurd (omega arith)), tt)), (bears main_body main_controls main_facts 9 (λ k d within. absurd (omega arith), tt), (bears main_body main_controls main_facts 10 (λ k d within. absurd (omega arith), tt), (bears main_body main_controls main_facts 11 (λ k d within. absurd (omega arith), tt), (bears main_body main_controls main_facts 12 (λ k d within. absurd (omega arith), tt), (bears main_body main_controls main_facts 13 tt, tt))))))))))))))

followed : All (λ (x : Placed (List Todo)). All (Follows main_body main_controls main_facts x) ((steps main_body).next x.control)) main_facts
unfolding next_of
followed = all_of (λ (x : Placed (List Todo)). All (Follows main_body main_controls main_facts x) ((steps main_body).next x.control)) main_facts
    (follows main_body main_controls main_facts (placed (control_in main_controls 3) socket_origin (fact in_temp no_names)) (subst (IsFollowed main_facts (control_in main_controls 4) socket_origin) (sym moves) (1, lit< tt, refl), tt), (follows main_body main_controls main_facts (placed (control_in main_controls 4) socket_origin (fact in_variable no_names)) ((2, lit< tt, refl), tt), (follows main_body main_controls main_facts (placed (control_in main_controls 5) socket_origin (fact in_variable no_names)) ((3, lit< tt, refl), tt), (follows main_body main_controls main_facts (placed (control_in main_controls 6) socket_origin (fact in_variable no_names)) ((4, lit< tt, refl), tt), (follows main_body main_controls main_facts (placed (control_in main_controls 7) socket_origin (fact in_variable no_names)) (subst (IsFollowed main_facts (control_in main_controls 8) socket_origin) (sym copies) (5, lit< tt, refl), tt), (follows main_body main_controls main_facts (placed (control_in main_controls 8) socket_origin (fact in_both no_names)) (subst (IsFollowed main_facts (control_in main_controls 9) socket_origin) (sym shuts) (6, lit< tt, refl), (subst (IsFollowed main_facts (control_in main_controls 11) socket_origin) (sym throws) (8, lit< tt, refl), tt)), (follows main_body main_controls main_facts (placed (control_in main_controls 9) socket_origin (fact after_call closed_names)) (subst (IsFollowed main_facts (control_in main_controls 10) socket_origin) (sym drops) (7, lit< tt, refl), tt), (follows main_body main_controls main_facts (placed (control_in main_controls 10) socket_origin (fact after_drop closed_names)) (subst (IsFollowed main_facts (control_in main_controls 13) socket_origin) (sym returns) tt, tt), (follows main_body main_controls main_facts (placed (control_in main_controls 11) socket_origin (fact after_call closed_names)) ((9, lit< tt, refl), tt), (follows main_body main_controls main_facts (placed (control_in main_controls 12) socket_origin (fact after_call closed_names)) (subst (IsFollowed main_facts (control_in main_controls 13) socket_origin) (sym leaves) tt, tt), tt))))))))))

pub main_certificate : IsCertificate throwing main_body (steps main_body) main_controls main_facts
unfolding start_of
main_certificate = record {
  start = (0, lit< tt, refl);
  steps = come;
  entry = all_none (IsListed main_facts (steps main_body).start);
  births = born;
  flows = followed;
}

-- sets of places have room for all places that the steps name
pub main_small : All (AllActions main_body (IsSmallAction throwing)) main_controls
unfolding next_of
main_small = all_of (AllActions main_body (IsSmallAction throwing)) main_controls
    (acts main_body main_controls (IsSmallAction throwing) 0 (tt, tt), (acts main_body main_controls (IsSmallAction throwing) 1 (tt, tt), (acts main_body main_controls (IsSmallAction throwing) 2 (lit< tt, tt), (acts main_body main_controls (IsSmallAction throwing) 3 ((lit< tt, lit< tt), tt), (acts main_body main_controls (IsSmallAction throwing) 4 (tt, tt), (acts main_body main_controls (IsSmallAction throwing) 5 (tt, tt), (acts main_body main_controls (IsSmallAction throwing) 6 (tt, tt), (acts main_body main_controls (IsSmallAction throwing) 7 ((lit< tt, lit< tt), tt), (acts main_body main_controls (IsSmallAction throwing) 8 ((lit< tt, lit≤ tt), ((lit< tt, lit≤ tt), tt)), (acts main_body main_controls (IsSmallAction throwing) 9 (lit< tt, tt), (acts main_body main_controls (IsSmallAction throwing) 10 (tt, tt), (acts main_body main_controls (IsSmallAction throwing) 11 (tt, tt), (acts main_body main_controls (IsSmallAction throwing) 12 (lit< tt, tt), (acts main_body main_controls (IsSmallAction throwing) 13 tt, tt))))))))))))))
