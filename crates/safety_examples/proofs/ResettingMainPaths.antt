-- No path in `main` breaks a rule.
use Rattle.std.proofs.Common.{◌≡◌, List, [], ◌∷◌, All, refl, sym, subst, lit<, arith, lit≤}
use Rattle.java_control.specs.Control.{next_of, start_of}
use Rattle.java_control.specs.Remaining.{Todo}
use Rattle.control_actions.specs.declared.action.Action.TheVariants as actions
use Rattle.control_actions.specs.declared.action.Edge.TheVariants as edges
use Rattle.obligation_facts.specs.SmallActions.{IsSmallAction}
use Rattle.soundness_laws.specs.Births.{births_of_step}
use Rattle.safety_examples.specs.Certificates.{IsCertificate, IsFollowed, IsListed, Placed, placed}
use Rattle.safety_examples.specs.CarefulPrograms.{in_source, no_names}
use Rattle.safety_examples.specs.ResettingControls.{main_controls}
use Rattle.safety_examples.specs.ResettingPrograms.{holder_constructor, resetting, main_body, socket_constructor}
use Rattle.safety_examples.proofs.CarefulSets.{close_not_none}
use Rattle.safety_examples.proofs.Tests.{all_none, all_of}
use Rattle.safety_examples.proofs.ResettingMainFlows.{after_call, after_drop, anew, beside_call, beside_drop, beside_kept, beside_read, calls, calls_beside, closed_names, connected, connects, copies, drops, drops_beside, fact, given, given_names, holder_kept, holder_origin, holder_read, in_argument, in_both, in_temp, in_variable, keeps, keeps_beside, leaves, left, moves, other_names, reads, reads_argument, reads_beside, returns, returns_beside, socket_origin, taken, takes}
use Rattle.safety_examples.proofs.ResettingWalks.{AllActions, Bears, ComesTo, Follows, acts, bears, comes_to, control_in, follows, steps}

abbrev pub main_facts : List (Placed (List Todo))
main_facts =
    placed (control_in main_controls 3) socket_origin (fact in_temp no_names)
    ∷ placed (control_in main_controls 4) socket_origin (fact in_variable no_names)
    ∷ placed (control_in main_controls 5) socket_origin (fact in_variable no_names)
    ∷ placed (control_in main_controls 6) socket_origin (fact in_variable no_names)
    ∷ placed (control_in main_controls 7) socket_origin (fact in_variable no_names)
    ∷ placed (control_in main_controls 8) socket_origin (fact in_both no_names)
    ∷ placed (control_in main_controls 9) socket_origin (anew connected no_names)
    ∷ placed (control_in main_controls 10) socket_origin (anew left no_names)
    ∷ placed (control_in main_controls 11) socket_origin (anew left no_names)
    ∷ placed (control_in main_controls 12) socket_origin (anew left no_names)
    ∷ placed (control_in main_controls 13) socket_origin (anew left no_names)
    ∷ placed (control_in main_controls 14) socket_origin (anew in_argument no_names)
    ∷ placed (control_in main_controls 15) socket_origin (given taken given_names)
    ∷ placed (control_in main_controls 16) socket_origin (given beside_kept given_names)
    ∷ placed (control_in main_controls 17) socket_origin (given beside_kept given_names)
    ∷ placed (control_in main_controls 18) socket_origin (given beside_kept given_names)
    ∷ placed (control_in main_controls 19) socket_origin (given beside_kept given_names)
    ∷ placed (control_in main_controls 20) socket_origin (given beside_read given_names)
    ∷ placed (control_in main_controls 21) socket_origin (given beside_call other_names)
    ∷ placed (control_in main_controls 22) socket_origin (given beside_drop other_names)
    ∷ placed (control_in main_controls 15) holder_origin (fact in_temp no_names)
    ∷ placed (control_in main_controls 16) holder_origin (fact holder_kept no_names)
    ∷ placed (control_in main_controls 17) holder_origin (fact holder_kept no_names)
    ∷ placed (control_in main_controls 18) holder_origin (fact holder_kept no_names)
    ∷ placed (control_in main_controls 19) holder_origin (fact holder_kept no_names)
    ∷ placed (control_in main_controls 20) holder_origin (fact holder_read no_names)
    ∷ placed (control_in main_controls 21) holder_origin (fact after_call closed_names)
    ∷ placed (control_in main_controls 22) holder_origin (fact after_drop closed_names)
    ∷ []

-- each `new` bears a fact
socket_born : births_of_step resetting main_body (actions.New socket_constructor 0 0) edges.Go (in_source 8 20) ≡ (socket_origin, fact in_temp no_names) ∷ []
socket_born = simp close_not_none refl

makes_socket : All (IsListed main_facts (control_in main_controls 3)) (births_of_step resetting main_body (actions.New socket_constructor 0 0) edges.Go (in_source 8 20))
makes_socket =
    subst (All (IsListed main_facts (control_in main_controls 3))) (sym socket_born)
    (all_of (IsListed main_facts (control_in main_controls 3)) ((socket_origin, fact in_temp no_names) ∷ []) ((0, lit< tt, refl), tt))

holder_born : births_of_step resetting main_body (actions.New holder_constructor 0 1) edges.Go (in_source 10 20) ≡ (holder_origin, fact in_temp no_names) ∷ []
holder_born = simp close_not_none refl

makes_holder : All (IsListed main_facts (control_in main_controls 15)) (births_of_step resetting main_body (actions.New holder_constructor 0 1) edges.Go (in_source 10 20))
makes_holder =
    subst (All (IsListed main_facts (control_in main_controls 15))) (sym holder_born)
    (all_of (IsListed main_facts (control_in main_controls 15)) ((holder_origin, fact in_temp no_names) ∷ []) ((20, lit< tt, refl), tt))

come : All (λ k. All (ComesTo main_body main_controls) ((steps main_body).next k)) main_controls
unfolding next_of
come = all_of (λ k. All (ComesTo main_body main_controls) ((steps main_body).next k)) main_controls
    (comes_to main_body main_controls 0 ((1, lit< tt, refl), tt), (comes_to main_body main_controls 1 ((2, lit< tt, refl), tt), (comes_to main_body main_controls 2 ((3, lit< tt, refl), tt), (comes_to main_body main_controls 3 ((4, lit< tt, refl), tt), (comes_to main_body main_controls 4 ((5, lit< tt, refl), tt), (comes_to main_body main_controls 5 ((6, lit< tt, refl), tt), (comes_to main_body main_controls 6 ((7, lit< tt, refl), tt), (comes_to main_body main_controls 7 ((8, lit< tt, refl), tt), (comes_to main_body main_controls 8 ((9, lit< tt, refl), tt), (comes_to main_body main_controls 9 ((10, lit< tt, refl), tt), (comes_to main_body main_controls 10 ((11, lit< tt, refl), tt), (comes_to main_body main_controls 11 ((12, lit< tt, refl), tt), (comes_to main_body main_controls 12 ((13, lit< tt, refl), tt), (comes_to main_body main_controls 13 ((14, lit< tt, refl), tt), (comes_to main_body main_controls 14 ((15, lit< tt, refl), tt), (comes_to main_body main_controls 15 ((16, lit< tt, refl), tt), (comes_to main_body main_controls 16 ((17, lit< tt, refl), tt), (comes_to main_body main_controls 17 ((18, lit< tt, refl), tt), (comes_to main_body main_controls 18 ((19, lit< tt, refl), tt), (comes_to main_body main_controls 19 ((20, lit< tt, refl), tt), (comes_to main_body main_controls 20 ((21, lit< tt, refl), tt), (comes_to main_body main_controls 21 ((22, lit< tt, refl), tt), (comes_to main_body main_controls 22 ((23, lit< tt, refl), tt), (comes_to main_body main_controls 23 tt, tt))))))))))))))))))))))))

born : All (λ k. All (Bears main_body main_controls main_facts) ((steps main_body).next k)) main_controls
unfolding next_of
born = all_of (λ k. All (Bears main_body main_controls main_facts) ((steps main_body).next k)) main_controls
    (bears main_body main_controls main_facts 0 (λ k d within. absurd (omega arith), tt), (bears main_body main_controls main_facts 1 (λ k d within. absurd (omega arith), tt), (bears main_body main_controls main_facts 2 (makes_socket, tt), (bears main_body main_controls main_facts 3 (λ k d within. absurd (omega arith), tt), (bears main_body main_controls main_facts 4 (λ k d within. absurd (omega arith), tt), (bears main_body main_controls main_facts 5 (λ k d within. absurd (omega arith), tt), (bears main_body main_controls main_facts 6 (λ k d within. absurd (omega arith), tt), (bears main_body main_controls main_facts 7 (λ k d within. absurd (omega arith), tt), (bears main_body main_controls main_facts 8 (λ k d within. absurd (omega arith), tt), (bears main_body main_controls main_facts 9 (λ k d within. absurd (omega arith), tt), (bears main_body main_controls main_facts 10 (λ k d within. absurd (omega arith), tt), (bears main_body main_controls main_facts 11 (λ k d within. absurd (omega arith), tt), (bears main_body main_controls main_facts 12 (λ k d within. absurd (omega arith), tt), (bears main_body main_controls main_facts 13 (λ k d within. absurd (omega arith), tt), (bears main_body main_controls main_facts 14 (makes_holder, tt), (bears main_body main_controls main_facts 15 (λ k d within. absurd (omega arith), tt), (bears main_body main_controls main_facts 16 (λ k d within. absurd (omega arith), tt), (bears main_body main_controls main_facts 17 (λ k d within. absurd (omega arith), tt), (bears main_body main_controls main_facts 18 (λ k d within. absurd (omega arith), tt), (bears main_body main_controls main_facts 19 (λ k d within. absurd (omega arith), tt), (bears main_body main_controls main_facts 20 (λ k d within. absurd (omega arith), tt), (bears main_body main_controls main_facts 21 (λ k d within. absurd (omega arith), tt), (bears main_body main_controls main_facts 22 (λ k d within. absurd (omega arith), tt), (bears main_body main_controls main_facts 23 tt, tt))))))))))))))))))))))))

followed : All (λ (x : Placed (List Todo)). All (Follows main_body main_controls main_facts x) ((steps main_body).next x.control)) main_facts
unfolding next_of
followed = all_of (λ (x : Placed (List Todo)). All (Follows main_body main_controls main_facts x) ((steps main_body).next x.control)) main_facts
    (follows main_body main_controls main_facts (placed (control_in main_controls 3) socket_origin (fact in_temp no_names)) (subst (IsFollowed main_facts (control_in main_controls 4) socket_origin) (sym keeps) (1, lit< tt, refl), tt), (follows main_body main_controls main_facts (placed (control_in main_controls 4) socket_origin (fact in_variable no_names)) ((2, lit< tt, refl), tt), (follows main_body main_controls main_facts (placed (control_in main_controls 5) socket_origin (fact in_variable no_names)) ((3, lit< tt, refl), tt), (follows main_body main_controls main_facts (placed (control_in main_controls 6) socket_origin (fact in_variable no_names)) ((4, lit< tt, refl), tt), (follows main_body main_controls main_facts (placed (control_in main_controls 7) socket_origin (fact in_variable no_names)) (subst (IsFollowed main_facts (control_in main_controls 8) socket_origin) (sym reads) (5, lit< tt, refl), tt), (follows main_body main_controls main_facts (placed (control_in main_controls 8) socket_origin (fact in_both no_names)) (subst (IsFollowed main_facts (control_in main_controls 9) socket_origin) (sym connects) (6, lit< tt, refl), tt), (follows main_body main_controls main_facts (placed (control_in main_controls 9) socket_origin (anew connected no_names)) (subst (IsFollowed main_facts (control_in main_controls 10) socket_origin) (sym leaves) (7, lit< tt, refl), tt), (follows main_body main_controls main_facts (placed (control_in main_controls 10) socket_origin (anew left no_names)) ((8, lit< tt, refl), tt), (follows main_body main_controls main_facts (placed (control_in main_controls 11) socket_origin (anew left no_names)) ((9, lit< tt, refl), tt), (follows main_body main_controls main_facts (placed (control_in main_controls 12) socket_origin (anew left no_names)) ((10, lit< tt, refl), tt), (follows main_body main_controls main_facts (placed (control_in main_controls 13) socket_origin (anew left no_names)) (subst (IsFollowed main_facts (control_in main_controls 14) socket_origin) (sym reads_argument) (11, lit< tt, refl), tt), (follows main_body main_controls main_facts (placed (control_in main_controls 14) socket_origin (anew in_argument no_names)) (subst (IsFollowed main_facts (control_in main_controls 15) socket_origin) (sym takes) (12, lit< tt, refl), tt), (follows main_body main_controls main_facts (placed (control_in main_controls 15) socket_origin (given taken given_names)) (subst (IsFollowed main_facts (control_in main_controls 16) socket_origin) (sym keeps_beside) (13, lit< tt, refl), tt), (follows main_body main_controls main_facts (placed (control_in main_controls 16) socket_origin (given beside_kept given_names)) ((14, lit< tt, refl), tt), (follows main_body main_controls main_facts (placed (control_in main_controls 17) socket_origin (given beside_kept given_names)) ((15, lit< tt, refl), tt), (follows main_body main_controls main_facts (placed (control_in main_controls 18) socket_origin (given beside_kept given_names)) ((16, lit< tt, refl), tt), (follows main_body main_controls main_facts (placed (control_in main_controls 19) socket_origin (given beside_kept given_names)) (subst (IsFollowed main_facts (control_in main_controls 20) socket_origin) (sym reads_beside) (17, lit< tt, refl), tt), (follows main_body main_controls main_facts (placed (control_in main_controls 20) socket_origin (given beside_read given_names)) (subst (IsFollowed main_facts (control_in main_controls 21) socket_origin) (sym calls_beside) (18, lit< tt, refl), tt), (follows main_body main_controls main_facts (placed (control_in main_controls 21) socket_origin (given beside_call other_names)) (subst (IsFollowed main_facts (control_in main_controls 22) socket_origin) (sym drops_beside) (19, lit< tt, refl), tt), (follows main_body main_controls main_facts (placed (control_in main_controls 22) socket_origin (given beside_drop other_names)) (subst (IsFollowed main_facts (control_in main_controls 23) socket_origin) (sym returns_beside) tt, tt), (follows main_body main_controls main_facts (placed (control_in main_controls 15) holder_origin (fact in_temp no_names)) (subst (IsFollowed main_facts (control_in main_controls 16) holder_origin) (sym moves) (21, lit< tt, refl), tt), (follows main_body main_controls main_facts (placed (control_in main_controls 16) holder_origin (fact holder_kept no_names)) ((22, lit< tt, refl), tt), (follows main_body main_controls main_facts (placed (control_in main_controls 17) holder_origin (fact holder_kept no_names)) ((23, lit< tt, refl), tt), (follows main_body main_controls main_facts (placed (control_in main_controls 18) holder_origin (fact holder_kept no_names)) ((24, lit< tt, refl), tt), (follows main_body main_controls main_facts (placed (control_in main_controls 19) holder_origin (fact holder_kept no_names)) (subst (IsFollowed main_facts (control_in main_controls 20) holder_origin) (sym copies) (25, lit< tt, refl), tt), (follows main_body main_controls main_facts (placed (control_in main_controls 20) holder_origin (fact holder_read no_names)) (subst (IsFollowed main_facts (control_in main_controls 21) holder_origin) (sym calls) (26, lit< tt, refl), tt), (follows main_body main_controls main_facts (placed (control_in main_controls 21) holder_origin (fact after_call closed_names)) (subst (IsFollowed main_facts (control_in main_controls 22) holder_origin) (sym drops) (27, lit< tt, refl), tt), (follows main_body main_controls main_facts (placed (control_in main_controls 22) holder_origin (fact after_drop closed_names)) (subst (IsFollowed main_facts (control_in main_controls 23) holder_origin) (sym returns) tt, tt), tt))))))))))))))))))))))))))))

pub main_certificate : IsCertificate resetting main_body (steps main_body) main_controls main_facts
unfolding start_of
main_certificate = record {
  start = (0, lit< tt, refl);
  steps = come;
  entry = all_none (IsListed main_facts (steps main_body).start);
  births = born;
  flows = followed;
}

-- sets of places have room for all places that the steps name
pub main_small : All (AllActions main_body (IsSmallAction resetting)) main_controls
unfolding next_of
main_small = all_of (AllActions main_body (IsSmallAction resetting)) main_controls
    (acts main_body main_controls (IsSmallAction resetting) 0 (tt, tt), (acts main_body main_controls (IsSmallAction resetting) 1 (tt, tt), (acts main_body main_controls (IsSmallAction resetting) 2 (lit< tt, tt), (acts main_body main_controls (IsSmallAction resetting) 3 ((lit< tt, lit< tt), tt), (acts main_body main_controls (IsSmallAction resetting) 4 (tt, tt), (acts main_body main_controls (IsSmallAction resetting) 5 (tt, tt), (acts main_body main_controls (IsSmallAction resetting) 6 (tt, tt), (acts main_body main_controls (IsSmallAction resetting) 7 ((lit< tt, lit< tt), tt), (acts main_body main_controls (IsSmallAction resetting) 8 ((lit< tt, lit≤ tt), tt), (acts main_body main_controls (IsSmallAction resetting) 9 (lit< tt, tt), (acts main_body main_controls (IsSmallAction resetting) 10 (tt, tt), (acts main_body main_controls (IsSmallAction resetting) 11 (tt, tt), (acts main_body main_controls (IsSmallAction resetting) 12 (tt, tt), (acts main_body main_controls (IsSmallAction resetting) 13 ((lit< tt, lit< tt), tt), (acts main_body main_controls (IsSmallAction resetting) 14 (lit< tt, tt), (acts main_body main_controls (IsSmallAction resetting) 15 ((lit< tt, lit< tt), tt), (acts main_body main_controls (IsSmallAction resetting) 16 (tt, tt), (acts main_body main_controls (IsSmallAction resetting) 17 (tt, tt), (acts main_body main_controls (IsSmallAction resetting) 18 (tt, tt), (acts main_body main_controls (IsSmallAction resetting) 19 ((lit< tt, lit< tt), tt), (acts main_body main_controls (IsSmallAction resetting) 20 ((lit< tt, lit≤ tt), tt), (acts main_body main_controls (IsSmallAction resetting) 21 (lit< tt, tt), (acts main_body main_controls (IsSmallAction resetting) 22 (tt, tt), (acts main_body main_controls (IsSmallAction resetting) 23 tt, tt))))))))))))))))))))))))
