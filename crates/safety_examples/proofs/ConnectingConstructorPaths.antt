-- No path in the constructor breaks a rule.
use Rattle.std.proofs.Common.{◌≡◌, List, [], ◌∷◌, All, refl, sym, subst, lit<, arith, lit≤}
use Rattle.java_control.specs.Control.{next_of, start_of}
use Rattle.java_control.specs.Remaining.{Todo}
use Rattle.control_actions.specs.declared.action.Action.TheVariants as actions
use Rattle.control_actions.specs.declared.action.Edge.TheVariants as edges
use Rattle.obligation_facts.specs.SmallActions.{IsSmallAction}
use Rattle.soundness_laws.specs.Births.{births_at_entry, births_of_step}
use Rattle.safety_examples.specs.Certificates.{IsCertificate, IsFollowed, IsListed, Placed, placed}
use Rattle.safety_examples.specs.CarefulPrograms.{in_source, no_names}
use Rattle.safety_examples.specs.ConnectingControls.{constructor_controls}
use Rattle.safety_examples.specs.ConnectingPrograms.{connecting}
use Rattle.safety_examples.specs.ResettingPrograms.{constructor_body, socket_constructor}
use Rattle.safety_examples.proofs.CarefulSets.{close_not_none}
use Rattle.safety_examples.proofs.Tests.{all_of}
use Rattle.safety_examples.proofs.ConnectingConstructorFlows.{after_drop, anew, connected, connects, connects_beside_this, drops, drops_beside_this, held_fact, in_field, in_temp, in_this, later_names, leaves, leaves_beside_this, makes_beside_this, new_fact, other_names, read_again, reads, reads_over_this, returns, returns_this, socket_origin, stored, stores, stores_beside_this, this_connected, this_dropped, this_fact, this_made, this_origin, this_read, this_stored}
use Rattle.safety_examples.proofs.ConnectingWalks.{AllActions, Bears, ComesTo, Follows, acts, bears, comes_to, control_in, follows, steps}

abbrev pub constructor_facts : List (Placed (List Todo))
constructor_facts =
    placed (control_in constructor_controls 4) socket_origin (new_fact in_temp)
    ∷ placed (control_in constructor_controls 5) socket_origin (held_fact in_field)
    ∷ placed (control_in constructor_controls 6) socket_origin (held_fact stored)
    ∷ placed (control_in constructor_controls 7) socket_origin (held_fact stored)
    ∷ placed (control_in constructor_controls 8) socket_origin (held_fact stored)
    ∷ placed (control_in constructor_controls 9) socket_origin (held_fact stored)
    ∷ placed (control_in constructor_controls 10) socket_origin (held_fact read_again)
    ∷ placed (control_in constructor_controls 11) socket_origin (anew connected)
    ∷ placed (control_in constructor_controls 12) socket_origin (anew after_drop)
    ∷ placed (control_in constructor_controls 0) this_origin (this_fact in_this no_names)
    ∷ placed (control_in constructor_controls 1) this_origin (this_fact in_this no_names)
    ∷ placed (control_in constructor_controls 2) this_origin (this_fact in_this no_names)
    ∷ placed (control_in constructor_controls 3) this_origin (this_fact in_this no_names)
    ∷ placed (control_in constructor_controls 4) this_origin (this_fact this_made other_names)
    ∷ placed (control_in constructor_controls 5) this_origin (this_fact this_made other_names)
    ∷ placed (control_in constructor_controls 6) this_origin (this_fact this_stored other_names)
    ∷ placed (control_in constructor_controls 7) this_origin (this_fact this_stored other_names)
    ∷ placed (control_in constructor_controls 8) this_origin (this_fact this_stored other_names)
    ∷ placed (control_in constructor_controls 9) this_origin (this_fact this_stored other_names)
    ∷ placed (control_in constructor_controls 10) this_origin (this_fact this_read other_names)
    ∷ placed (control_in constructor_controls 11) this_origin (this_fact this_connected later_names)
    ∷ placed (control_in constructor_controls 12) this_origin (this_fact this_dropped later_names)
    ∷ []

-- `new` bears a fact
makes_socket_born : births_of_step connecting constructor_body (actions.New socket_constructor 0 0) edges.Go (in_source 4 28) ≡ (socket_origin, new_fact in_temp) ∷ []
makes_socket_born = simp close_not_none refl

makes_socket : All (IsListed constructor_facts (control_in constructor_controls 4)) (births_of_step connecting constructor_body (actions.New socket_constructor 0 0) edges.Go (in_source 4 28))
makes_socket =
    subst (All (IsListed constructor_facts (control_in constructor_controls 4))) (sym makes_socket_born)
    (all_of (IsListed constructor_facts (control_in constructor_controls 4)) ((socket_origin, new_fact in_temp) ∷ []) ((0, lit< tt, refl), tt))

come : All (λ k. All (ComesTo constructor_body constructor_controls) ((steps constructor_body).next k)) constructor_controls
unfolding next_of
come = all_of (λ k. All (ComesTo constructor_body constructor_controls) ((steps constructor_body).next k)) constructor_controls
    (comes_to constructor_body constructor_controls 0 ((1, lit< tt, refl), tt), (comes_to constructor_body constructor_controls 1 ((2, lit< tt, refl), tt), (comes_to constructor_body constructor_controls 2 ((3, lit< tt, refl), tt), (comes_to constructor_body constructor_controls 3 ((4, lit< tt, refl), tt), (comes_to constructor_body constructor_controls 4 ((5, lit< tt, refl), tt), (comes_to constructor_body constructor_controls 5 ((6, lit< tt, refl), tt), (comes_to constructor_body constructor_controls 6 ((7, lit< tt, refl), tt), (comes_to constructor_body constructor_controls 7 ((8, lit< tt, refl), tt), (comes_to constructor_body constructor_controls 8 ((9, lit< tt, refl), tt), (comes_to constructor_body constructor_controls 9 ((10, lit< tt, refl), tt), (comes_to constructor_body constructor_controls 10 ((11, lit< tt, refl), tt), (comes_to constructor_body constructor_controls 11 ((12, lit< tt, refl), tt), (comes_to constructor_body constructor_controls 12 ((13, lit< tt, refl), tt), (comes_to constructor_body constructor_controls 13 tt, tt))))))))))))))

born : All (λ k. All (Bears constructor_body constructor_controls constructor_facts) ((steps constructor_body).next k)) constructor_controls
unfolding next_of
born = all_of (λ k. All (Bears constructor_body constructor_controls constructor_facts) ((steps constructor_body).next k)) constructor_controls
    (bears constructor_body constructor_controls constructor_facts 0 (λ k d within. absurd (omega arith), tt), (bears constructor_body constructor_controls constructor_facts 1 (λ k d within. absurd (omega arith), tt), (bears constructor_body constructor_controls constructor_facts 2 (λ k d within. absurd (omega arith), tt), (bears constructor_body constructor_controls constructor_facts 3 (makes_socket, tt), (bears constructor_body constructor_controls constructor_facts 4 (λ k d within. absurd (omega arith), tt), (bears constructor_body constructor_controls constructor_facts 5 (λ k d within. absurd (omega arith), tt), (bears constructor_body constructor_controls constructor_facts 6 (λ k d within. absurd (omega arith), tt), (bears constructor_body constructor_controls constructor_facts 7 (λ k d within. absurd (omega arith), tt), (bears constructor_body constructor_controls constructor_facts 8 (λ k d within. absurd (omega arith), tt), (bears constructor_body constructor_controls constructor_facts 9 (λ k d within. absurd (omega arith), tt), (bears constructor_body constructor_controls constructor_facts 10 (λ k d within. absurd (omega arith), tt), (bears constructor_body constructor_controls constructor_facts 11 (λ k d within. absurd (omega arith), tt), (bears constructor_body constructor_controls constructor_facts 12 (λ k d within. absurd (omega arith), tt), (bears constructor_body constructor_controls constructor_facts 13 tt, tt))))))))))))))

followed : All (λ (x : Placed (List Todo)). All (Follows constructor_body constructor_controls constructor_facts x) ((steps constructor_body).next x.control)) constructor_facts
unfolding next_of
followed = all_of (λ (x : Placed (List Todo)). All (Follows constructor_body constructor_controls constructor_facts x) ((steps constructor_body).next x.control)) constructor_facts
    (follows constructor_body constructor_controls constructor_facts (placed (control_in constructor_controls 4) socket_origin (new_fact in_temp)) (subst (IsFollowed constructor_facts (control_in constructor_controls 5) socket_origin) (sym stores) (1, lit< tt, refl), tt), (follows constructor_body constructor_controls constructor_facts (placed (control_in constructor_controls 5) socket_origin (held_fact in_field)) (subst (IsFollowed constructor_facts (control_in constructor_controls 6) socket_origin) (sym drops) (2, lit< tt, refl), tt), (follows constructor_body constructor_controls constructor_facts (placed (control_in constructor_controls 6) socket_origin (held_fact stored)) ((3, lit< tt, refl), tt), (follows constructor_body constructor_controls constructor_facts (placed (control_in constructor_controls 7) socket_origin (held_fact stored)) ((4, lit< tt, refl), tt), (follows constructor_body constructor_controls constructor_facts (placed (control_in constructor_controls 8) socket_origin (held_fact stored)) ((5, lit< tt, refl), tt), (follows constructor_body constructor_controls constructor_facts (placed (control_in constructor_controls 9) socket_origin (held_fact stored)) (subst (IsFollowed constructor_facts (control_in constructor_controls 10) socket_origin) (sym reads) (6, lit< tt, refl), tt), (follows constructor_body constructor_controls constructor_facts (placed (control_in constructor_controls 10) socket_origin (held_fact read_again)) (subst (IsFollowed constructor_facts (control_in constructor_controls 11) socket_origin) (sym connects) (7, lit< tt, refl), tt), (follows constructor_body constructor_controls constructor_facts (placed (control_in constructor_controls 11) socket_origin (anew connected)) (subst (IsFollowed constructor_facts (control_in constructor_controls 12) socket_origin) (sym leaves) (8, lit< tt, refl), tt), (follows constructor_body constructor_controls constructor_facts (placed (control_in constructor_controls 12) socket_origin (anew after_drop)) (subst (IsFollowed constructor_facts (control_in constructor_controls 13) socket_origin) (sym returns) tt, tt), (follows constructor_body constructor_controls constructor_facts (placed (control_in constructor_controls 0) this_origin (this_fact in_this no_names)) ((10, lit< tt, refl), tt), (follows constructor_body constructor_controls constructor_facts (placed (control_in constructor_controls 1) this_origin (this_fact in_this no_names)) ((11, lit< tt, refl), tt), (follows constructor_body constructor_controls constructor_facts (placed (control_in constructor_controls 2) this_origin (this_fact in_this no_names)) ((12, lit< tt, refl), tt), (follows constructor_body constructor_controls constructor_facts (placed (control_in constructor_controls 3) this_origin (this_fact in_this no_names)) (subst (IsFollowed constructor_facts (control_in constructor_controls 4) this_origin) (sym makes_beside_this) (13, lit< tt, refl), tt), (follows constructor_body constructor_controls constructor_facts (placed (control_in constructor_controls 4) this_origin (this_fact this_made other_names)) (subst (IsFollowed constructor_facts (control_in constructor_controls 5) this_origin) (sym stores_beside_this) (14, lit< tt, refl), tt), (follows constructor_body constructor_controls constructor_facts (placed (control_in constructor_controls 5) this_origin (this_fact this_made other_names)) (subst (IsFollowed constructor_facts (control_in constructor_controls 6) this_origin) (sym drops_beside_this) (15, lit< tt, refl), tt), (follows constructor_body constructor_controls constructor_facts (placed (control_in constructor_controls 6) this_origin (this_fact this_stored other_names)) ((16, lit< tt, refl), tt), (follows constructor_body constructor_controls constructor_facts (placed (control_in constructor_controls 7) this_origin (this_fact this_stored other_names)) ((17, lit< tt, refl), tt), (follows constructor_body constructor_controls constructor_facts (placed (control_in constructor_controls 8) this_origin (this_fact this_stored other_names)) ((18, lit< tt, refl), tt), (follows constructor_body constructor_controls constructor_facts (placed (control_in constructor_controls 9) this_origin (this_fact this_stored other_names)) (subst (IsFollowed constructor_facts (control_in constructor_controls 10) this_origin) (sym reads_over_this) (19, lit< tt, refl), tt), (follows constructor_body constructor_controls constructor_facts (placed (control_in constructor_controls 10) this_origin (this_fact this_read other_names)) (subst (IsFollowed constructor_facts (control_in constructor_controls 11) this_origin) (sym connects_beside_this) (20, lit< tt, refl), tt), (follows constructor_body constructor_controls constructor_facts (placed (control_in constructor_controls 11) this_origin (this_fact this_connected later_names)) (subst (IsFollowed constructor_facts (control_in constructor_controls 12) this_origin) (sym leaves_beside_this) (21, lit< tt, refl), tt), (follows constructor_body constructor_controls constructor_facts (placed (control_in constructor_controls 12) this_origin (this_fact this_dropped later_names)) (subst (IsFollowed constructor_facts (control_in constructor_controls 13) this_origin) (sym returns_this) tt, tt), tt))))))))))))))))))))))

pub constructor_certificate : IsCertificate connecting constructor_body (steps constructor_body) constructor_controls constructor_facts
unfolding start_of
constructor_certificate = record {
  start = (0, lit< tt, refl);
  steps = come;
  entry = all_of (IsListed constructor_facts (steps constructor_body).start) (births_at_entry connecting constructor_body) ((9, lit< tt, refl), tt);
  births = born;
  flows = followed;
}

-- sets of places have room for all places that the steps name
pub constructor_small : All (AllActions constructor_body (IsSmallAction connecting)) constructor_controls
unfolding next_of
constructor_small = all_of (AllActions constructor_body (IsSmallAction connecting)) constructor_controls
    (acts constructor_body constructor_controls (IsSmallAction connecting) 0 (tt, tt), (acts constructor_body constructor_controls (IsSmallAction connecting) 1 (tt, tt), (acts constructor_body constructor_controls (IsSmallAction connecting) 2 (tt, tt), (acts constructor_body constructor_controls (IsSmallAction connecting) 3 (lit< tt, tt), (acts constructor_body constructor_controls (IsSmallAction connecting) 4 ((lit< tt, lit< tt), tt), (acts constructor_body constructor_controls (IsSmallAction connecting) 5 (lit< tt, tt), (acts constructor_body constructor_controls (IsSmallAction connecting) 6 (tt, tt), (acts constructor_body constructor_controls (IsSmallAction connecting) 7 (tt, tt), (acts constructor_body constructor_controls (IsSmallAction connecting) 8 (tt, tt), (acts constructor_body constructor_controls (IsSmallAction connecting) 9 ((lit< tt, lit< tt), tt), (acts constructor_body constructor_controls (IsSmallAction connecting) 10 ((lit< tt, lit≤ tt), tt), (acts constructor_body constructor_controls (IsSmallAction connecting) 11 (lit< tt, tt), (acts constructor_body constructor_controls (IsSmallAction connecting) 12 (tt, tt), (acts constructor_body constructor_controls (IsSmallAction connecting) 13 tt, tt))))))))))))))
