-- No path in `main` breaks a rule.
use Rattle.std.proofs.Common.{◌≡◌, true, false, List, [], ◌∷◌, All, refl, sym, subst, lit<, arith, lit≤}
use Rattle.java_control.specs.Control.{next_of, start_of}
use Rattle.java_control.specs.Remaining.{Todo}
use Rattle.control_actions.specs.declared.action.Action.TheVariants as actions
use Rattle.control_actions.specs.declared.action.Edge.TheVariants as edges
use Rattle.obligation_facts.specs.SmallActions.{IsSmallAction}
use Rattle.soundness_laws.specs.Births.{births_of_step}
use Rattle.safety_examples.specs.Certificates.{IsCertificate, IsFollowed, IsListed, Placed, placed}
use Rattle.safety_examples.specs.CarefulPrograms.{in_source, no_names}
use Rattle.safety_examples.specs.ReconnectingControls.{main_controls}
use Rattle.safety_examples.specs.ReconnectingPrograms.{holder_constructor, main_body, reconnecting}
use Rattle.safety_examples.proofs.CarefulSets.{close_not_none}
use Rattle.safety_examples.proofs.Tests.{all_none, all_of}
use Rattle.safety_examples.proofs.ReconnectingMainFlows.{closed_names, fact, first_called, first_calls, first_drops, first_left, first_read, first_reads, holder_origin, in_temp, kept, moves, returns, second_called, second_calls, second_drops, second_left, second_read, second_reads, third_called, third_calls, third_drops, third_left, third_read, third_reads}
use Rattle.safety_examples.proofs.ReconnectingWalks.{AllActions, Bears, ComesTo, Follows, acts, bears, comes_to, control_in, follows, steps}

abbrev pub main_facts : List (Placed (List Todo))
main_facts =
    placed (control_in main_controls 3) holder_origin (fact in_temp no_names false)
    ∷ placed (control_in main_controls 4) holder_origin (fact kept no_names false)
    ∷ placed (control_in main_controls 5) holder_origin (fact kept no_names false)
    ∷ placed (control_in main_controls 6) holder_origin (fact kept no_names false)
    ∷ placed (control_in main_controls 7) holder_origin (fact kept no_names false)
    ∷ placed (control_in main_controls 8) holder_origin (fact first_read no_names false)
    ∷ placed (control_in main_controls 9) holder_origin (fact first_called closed_names false)
    ∷ placed (control_in main_controls 10) holder_origin (fact first_left closed_names false)
    ∷ placed (control_in main_controls 11) holder_origin (fact first_left closed_names false)
    ∷ placed (control_in main_controls 12) holder_origin (fact first_left closed_names false)
    ∷ placed (control_in main_controls 13) holder_origin (fact first_left closed_names false)
    ∷ placed (control_in main_controls 14) holder_origin (fact second_read closed_names false)
    ∷ placed (control_in main_controls 15) holder_origin (fact second_called no_names true)
    ∷ placed (control_in main_controls 16) holder_origin (fact second_left no_names true)
    ∷ placed (control_in main_controls 17) holder_origin (fact second_left no_names true)
    ∷ placed (control_in main_controls 18) holder_origin (fact second_left no_names true)
    ∷ placed (control_in main_controls 19) holder_origin (fact second_left no_names true)
    ∷ placed (control_in main_controls 20) holder_origin (fact third_read no_names true)
    ∷ placed (control_in main_controls 21) holder_origin (fact third_called closed_names true)
    ∷ placed (control_in main_controls 22) holder_origin (fact third_left closed_names true)
    ∷ []

-- `new` bears a fact
makes_holder_born : births_of_step reconnecting main_body (actions.New holder_constructor 0 0) edges.Go (in_source 10 20) ≡ (holder_origin, fact in_temp no_names false) ∷ []
makes_holder_born = simp close_not_none refl

makes_holder : All (IsListed main_facts (control_in main_controls 3)) (births_of_step reconnecting main_body (actions.New holder_constructor 0 0) edges.Go (in_source 10 20))
makes_holder =
    subst (All (IsListed main_facts (control_in main_controls 3))) (sym makes_holder_born)
    (all_of (IsListed main_facts (control_in main_controls 3)) ((holder_origin, fact in_temp no_names false) ∷ []) ((0, lit< tt, refl), tt))

come : All (λ k. All (ComesTo main_body main_controls) ((steps main_body).next k)) main_controls
unfolding next_of
come = all_of (λ k. All (ComesTo main_body main_controls) ((steps main_body).next k)) main_controls
    (comes_to main_body main_controls 0 ((1, lit< tt, refl), tt), (comes_to main_body main_controls 1 ((2, lit< tt, refl), tt), (comes_to main_body main_controls 2 ((3, lit< tt, refl), tt), (comes_to main_body main_controls 3 ((4, lit< tt, refl), tt), (comes_to main_body main_controls 4 ((5, lit< tt, refl), tt), (comes_to main_body main_controls 5 ((6, lit< tt, refl), tt), (comes_to main_body main_controls 6 ((7, lit< tt, refl), tt), (comes_to main_body main_controls 7 ((8, lit< tt, refl), tt), (comes_to main_body main_controls 8 ((9, lit< tt, refl), tt), (comes_to main_body main_controls 9 ((10, lit< tt, refl), tt), (comes_to main_body main_controls 10 ((11, lit< tt, refl), tt), (comes_to main_body main_controls 11 ((12, lit< tt, refl), tt), (comes_to main_body main_controls 12 ((13, lit< tt, refl), tt), (comes_to main_body main_controls 13 ((14, lit< tt, refl), tt), (comes_to main_body main_controls 14 ((15, lit< tt, refl), tt), (comes_to main_body main_controls 15 ((16, lit< tt, refl), tt), (comes_to main_body main_controls 16 ((17, lit< tt, refl), tt), (comes_to main_body main_controls 17 ((18, lit< tt, refl), tt), (comes_to main_body main_controls 18 ((19, lit< tt, refl), tt), (comes_to main_body main_controls 19 ((20, lit< tt, refl), tt), (comes_to main_body main_controls 20 ((21, lit< tt, refl), tt), (comes_to main_body main_controls 21 ((22, lit< tt, refl), tt), (comes_to main_body main_controls 22 ((23, lit< tt, refl), tt), (comes_to main_body main_controls 23 tt, tt))))))))))))))))))))))))

born : All (λ k. All (Bears main_body main_controls main_facts) ((steps main_body).next k)) main_controls
unfolding next_of
born = all_of (λ k. All (Bears main_body main_controls main_facts) ((steps main_body).next k)) main_controls
    (bears main_body main_controls main_facts 0 (λ k d within. absurd (omega arith), tt), (bears main_body main_controls main_facts 1 (λ k d within. absurd (omega arith), tt), (bears main_body main_controls main_facts 2 (makes_holder, tt), (bears main_body main_controls main_facts 3 (λ k d within. absurd (omega arith), tt), (bears main_body main_controls main_facts 4 (λ k d within. absurd (omega arith), tt), (bears main_body main_controls main_facts 5 (λ k d within. absurd (omega arith), tt), (bears main_body main_controls main_facts 6 (λ k d within. absurd (omega arith), tt), (bears main_body main_controls main_facts 7 (λ k d within. absurd (omega arith), tt), (bears main_body main_controls main_facts 8 (λ k d within. absurd (omega arith), tt), (bears main_body main_controls main_facts 9 (λ k d within. absurd (omega arith), tt), (bears main_body main_controls main_facts 10 (λ k d within. absurd (omega arith), tt), (bears main_body main_controls main_facts 11 (λ k d within. absurd (omega arith), tt), (bears main_body main_controls main_facts 12 (λ k d within. absurd (omega arith), tt), (bears main_body main_controls main_facts 13 (λ k d within. absurd (omega arith), tt), (bears main_body main_controls main_facts 14 (λ k d within. absurd (omega arith), tt), (bears main_body main_controls main_facts 15 (λ k d within. absurd (omega arith), tt), (bears main_body main_controls main_facts 16 (λ k d within. absurd (omega arith), tt), (bears main_body main_controls main_facts 17 (λ k d within. absurd (omega arith), tt), (bears main_body main_controls main_facts 18 (λ k d within. absurd (omega arith), tt), (bears main_body main_controls main_facts 19 (λ k d within. absurd (omega arith), tt), (bears main_body main_controls main_facts 20 (λ k d within. absurd (omega arith), tt), (bears main_body main_controls main_facts 21 (λ k d within. absurd (omega arith), tt), (bears main_body main_controls main_facts 22 (λ k d within. absurd (omega arith), tt), (bears main_body main_controls main_facts 23 tt, tt))))))))))))))))))))))))

followed : All (λ (x : Placed (List Todo)). All (Follows main_body main_controls main_facts x) ((steps main_body).next x.control)) main_facts
unfolding next_of
followed = all_of (λ (x : Placed (List Todo)). All (Follows main_body main_controls main_facts x) ((steps main_body).next x.control)) main_facts
    (follows main_body main_controls main_facts (placed (control_in main_controls 3) holder_origin (fact in_temp no_names false)) (subst (IsFollowed main_facts (control_in main_controls 4) holder_origin) (sym moves) (1, lit< tt, refl), tt), (follows main_body main_controls main_facts (placed (control_in main_controls 4) holder_origin (fact kept no_names false)) ((2, lit< tt, refl), tt), (follows main_body main_controls main_facts (placed (control_in main_controls 5) holder_origin (fact kept no_names false)) ((3, lit< tt, refl), tt), (follows main_body main_controls main_facts (placed (control_in main_controls 6) holder_origin (fact kept no_names false)) ((4, lit< tt, refl), tt), (follows main_body main_controls main_facts (placed (control_in main_controls 7) holder_origin (fact kept no_names false)) (subst (IsFollowed main_facts (control_in main_controls 8) holder_origin) (sym first_reads) (5, lit< tt, refl), tt), (follows main_body main_controls main_facts (placed (control_in main_controls 8) holder_origin (fact first_read no_names false)) (subst (IsFollowed main_facts (control_in main_controls 9) holder_origin) (sym first_calls) (6, lit< tt, refl), tt), (follows main_body main_controls main_facts (placed (control_in main_controls 9) holder_origin (fact first_called closed_names false)) (subst (IsFollowed main_facts (control_in main_controls 10) holder_origin) (sym first_drops) (7, lit< tt, refl), tt), (follows main_body main_controls main_facts (placed (control_in main_controls 10) holder_origin (fact first_left closed_names false)) ((8, lit< tt, refl), tt), (follows main_body main_controls main_facts (placed (control_in main_controls 11) holder_origin (fact first_left closed_names false)) ((9, lit< tt, refl), tt), (follows main_body main_controls main_facts (placed (control_in main_controls 12) holder_origin (fact first_left closed_names false)) ((10, lit< tt, refl), tt), (follows main_body main_controls main_facts (placed (control_in main_controls 13) holder_origin (fact first_left closed_names false)) (subst (IsFollowed main_facts (control_in main_controls 14) holder_origin) (sym second_reads) (11, lit< tt, refl), tt), (follows main_body main_controls main_facts (placed (control_in main_controls 14) holder_origin (fact second_read closed_names false)) (subst (IsFollowed main_facts (control_in main_controls 15) holder_origin) (sym second_calls) (12, lit< tt, refl), tt), (follows main_body main_controls main_facts (placed (control_in main_controls 15) holder_origin (fact second_called no_names true)) (subst (IsFollowed main_facts (control_in main_controls 16) holder_origin) (sym second_drops) (13, lit< tt, refl), tt), (follows main_body main_controls main_facts (placed (control_in main_controls 16) holder_origin (fact second_left no_names true)) ((14, lit< tt, refl), tt), (follows main_body main_controls main_facts (placed (control_in main_controls 17) holder_origin (fact second_left no_names true)) ((15, lit< tt, refl), tt), (follows main_body main_controls main_facts (placed (control_in main_controls 18) holder_origin (fact second_left no_names true)) ((16, lit< tt, refl), tt), (follows main_body main_controls main_facts (placed (control_in main_controls 19) holder_origin (fact second_left no_names true)) (subst (IsFollowed main_facts (control_in main_controls 20) holder_origin) (sym third_reads) (17, lit< tt, refl), tt), (follows main_body main_controls main_facts (placed (control_in main_controls 20) holder_origin (fact third_read no_names true)) (subst (IsFollowed main_facts (control_in main_controls 21) holder_origin) (sym third_calls) (18, lit< tt, refl), tt), (follows main_body main_controls main_facts (placed (control_in main_controls 21) holder_origin (fact third_called closed_names true)) (subst (IsFollowed main_facts (control_in main_controls 22) holder_origin) (sym third_drops) (19, lit< tt, refl), tt), (follows main_body main_controls main_facts (placed (control_in main_controls 22) holder_origin (fact third_left closed_names true)) (subst (IsFollowed main_facts (control_in main_controls 23) holder_origin) (sym returns) tt, tt), tt))))))))))))))))))))

pub main_certificate : IsCertificate reconnecting main_body (steps main_body) main_controls main_facts
unfolding start_of
main_certificate = record {
  start = (0, lit< tt, refl);
  steps = come;
  entry = all_none (IsListed main_facts (steps main_body).start);
  births = born;
  flows = followed;
}

-- sets of places have room for all places that the steps name
pub main_small : All (AllActions main_body (IsSmallAction reconnecting)) main_controls
unfolding next_of
main_small = all_of (AllActions main_body (IsSmallAction reconnecting)) main_controls
    (acts main_body main_controls (IsSmallAction reconnecting) 0 (tt, tt), (acts main_body main_controls (IsSmallAction reconnecting) 1 (tt, tt), (acts main_body main_controls (IsSmallAction reconnecting) 2 (lit< tt, tt), (acts main_body main_controls (IsSmallAction reconnecting) 3 ((lit< tt, lit< tt), tt), (acts main_body main_controls (IsSmallAction reconnecting) 4 (tt, tt), (acts main_body main_controls (IsSmallAction reconnecting) 5 (tt, tt), (acts main_body main_controls (IsSmallAction reconnecting) 6 (tt, tt), (acts main_body main_controls (IsSmallAction reconnecting) 7 ((lit< tt, lit< tt), tt), (acts main_body main_controls (IsSmallAction reconnecting) 8 ((lit< tt, lit≤ tt), tt), (acts main_body main_controls (IsSmallAction reconnecting) 9 (lit< tt, tt), (acts main_body main_controls (IsSmallAction reconnecting) 10 (tt, tt), (acts main_body main_controls (IsSmallAction reconnecting) 11 (tt, tt), (acts main_body main_controls (IsSmallAction reconnecting) 12 (tt, tt), (acts main_body main_controls (IsSmallAction reconnecting) 13 ((lit< tt, lit< tt), tt), (acts main_body main_controls (IsSmallAction reconnecting) 14 ((lit< tt, lit≤ tt), tt), (acts main_body main_controls (IsSmallAction reconnecting) 15 (lit< tt, tt), (acts main_body main_controls (IsSmallAction reconnecting) 16 (tt, tt), (acts main_body main_controls (IsSmallAction reconnecting) 17 (tt, tt), (acts main_body main_controls (IsSmallAction reconnecting) 18 (tt, tt), (acts main_body main_controls (IsSmallAction reconnecting) 19 ((lit< tt, lit< tt), tt), (acts main_body main_controls (IsSmallAction reconnecting) 20 ((lit< tt, lit≤ tt), tt), (acts main_body main_controls (IsSmallAction reconnecting) 21 (lit< tt, tt), (acts main_body main_controls (IsSmallAction reconnecting) 22 (tt, tt), (acts main_body main_controls (IsSmallAction reconnecting) 23 tt, tt))))))))))))))))))))))))
