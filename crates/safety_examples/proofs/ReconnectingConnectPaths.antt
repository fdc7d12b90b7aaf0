-- No path in `connect` breaks a rule.
use Rattle.std.proofs.Common.{List, [], ◌∷◌, All, refl, sym, subst, lit<, arith, lit≤}
use Rattle.java_control.specs.Control.{next_of, start_of}
use Rattle.java_control.specs.Remaining.{Todo}
use Rattle.control_actions.specs.declared.fact.Mode.TheVariants as modes
use Rattle.obligation_facts.specs.SmallActions.{IsSmallAction}
use Rattle.soundness_laws.specs.Births.{births_at_entry}
use Rattle.safety_examples.specs.Certificates.{IsCertificate, IsFollowed, IsListed, Placed, placed}
use Rattle.safety_examples.specs.CarefulPrograms.{no_names}
use Rattle.safety_examples.specs.ReconnectingControls.{connect_controls}
use Rattle.safety_examples.specs.ReconnectingPrograms.{connect_body, reconnecting}
use Rattle.safety_examples.proofs.Tests.{all_of}
use Rattle.safety_examples.proofs.ReconnectingConstructorFlows.{in_this}
use Rattle.safety_examples.proofs.ReconnectingConnectFlows.{after_call, after_drop, connects, connects_beside_this, copies, copies_over_this, drops, drops_beside_this, fact, field_origin, in_both, in_field, other_names, returns, returns_this, this_called, this_dropped, this_origin, this_read}
use Rattle.safety_examples.proofs.ReconnectingWalks.{AllActions, Bears, ComesTo, Follows, acts, bears, comes_to, control_in, follows, steps}

abbrev pub connect_facts : List (Placed (List Todo))
connect_facts =
    placed (control_in connect_controls 0) this_origin (fact in_this modes.Lent no_names)
    ∷ placed (control_in connect_controls 1) this_origin (fact in_this modes.Lent no_names)
    ∷ placed (control_in connect_controls 2) this_origin (fact in_this modes.Lent no_names)
    ∷ placed (control_in connect_controls 3) this_origin (fact in_this modes.Lent no_names)
    ∷ placed (control_in connect_controls 4) this_origin (fact this_read modes.Lent no_names)
    ∷ placed (control_in connect_controls 5) this_origin (fact this_called modes.Lent other_names)
    ∷ placed (control_in connect_controls 6) this_origin (fact this_dropped modes.Lent other_names)
    ∷ placed (control_in connect_controls 0) field_origin (fact in_field modes.Held no_names)
    ∷ placed (control_in connect_controls 1) field_origin (fact in_field modes.Held no_names)
    ∷ placed (control_in connect_controls 2) field_origin (fact in_field modes.Held no_names)
    ∷ placed (control_in connect_controls 3) field_origin (fact in_field modes.Held no_names)
    ∷ placed (control_in connect_controls 4) field_origin (fact in_both modes.Held no_names)
    ∷ placed (control_in connect_controls 5) field_origin (fact after_call modes.Held no_names)
    ∷ placed (control_in connect_controls 6) field_origin (fact after_drop modes.Held no_names)
    ∷ []

come : All (λ k. All (ComesTo connect_body connect_controls) ((steps connect_body).next k)) connect_controls
unfolding next_of
come = all_of (λ k. All (ComesTo connect_body connect_controls) ((steps connect_body).next k)) connect_controls
    (comes_to connect_body connect_controls 0 ((1, lit< tt, refl), tt), (comes_to connect_body connect_controls 1 ((2, lit< tt, refl), tt), (comes_to connect_body connect_controls 2 ((3, lit< tt, refl), tt), (comes_to connect_body connect_controls 3 ((4, lit< tt, refl), tt), (comes_to connect_body connect_controls 4 ((5, lit< tt, refl), tt), (comes_to connect_body connect_controls 5 ((6, lit< tt, refl), tt), (comes_to connect_body connect_controls 6 ((7, lit< tt, refl), tt), (comes_to connect_body connect_controls 7 tt, tt))))))))

born : All (λ k. All (Bears connect_body connect_controls connect_facts) ((steps connect_body).next k)) connect_controls
unfolding next_of
born = all_of (λ k. All (Bears connect_body connect_controls connect_facts) ((steps connect_body).next k)) connect_controls
    (bears connect_body connect_controls connect_facts 0 (λ k d within. absurd (omega arith), tt), (bears connect_body connect_controls connect_facts 1 (λ k d within. absurd (omega arith), tt), (bears connect_body connect_controls connect_facts 2 (λ k d within. absurd (omega arith), tt), (bears connect_body connect_controls connect_facts 3 (λ k d within. absurd (omega arith), tt), (bears connect_body connect_controls connect_facts 4 (λ k d within. absurd (omega arith), tt), (bears connect_body connect_controls connect_facts 5 (λ k d within. absurd (omega arith), tt), (bears connect_body connect_controls connect_facts 6 (λ k d within. absurd (omega arith), tt), (bears connect_body connect_controls connect_facts 7 tt, tt))))))))

followed : All (λ (x : Placed (List Todo)). All (Follows connect_body connect_controls connect_facts x) ((steps connect_body).next x.control)) connect_facts
unfolding next_of
followed = all_of (λ (x : Placed (List Todo)). All (Follows connect_body connect_controls connect_facts x) ((steps connect_body).next x.control)) connect_facts
    (follows connect_body connect_controls connect_facts (placed (control_in connect_controls 0) this_origin (fact in_this modes.Lent no_names)) ((1, lit< tt, refl), tt), (follows connect_body connect_controls connect_facts (placed (control_in connect_controls 1) this_origin (fact in_this modes.Lent no_names)) ((2, lit< tt, refl), tt), (follows connect_body connect_controls connect_facts (placed (control_in connect_controls 2) this_origin (fact in_this modes.Lent no_names)) ((3, lit< tt, refl), tt), (follows connect_body connect_controls connect_facts (placed (control_in connect_controls 3) this_origin (fact in_this modes.Lent no_names)) (subst (IsFollowed connect_facts (control_in connect_controls 4) this_origin) (sym copies_over_this) (4, lit< tt, refl), tt), (follows connect_body connect_controls connect_facts (placed (control_in connect_controls 4) this_origin (fact this_read modes.Lent no_names)) (subst (IsFollowed connect_facts (control_in connect_controls 5) this_origin) (sym connects_beside_this) (5, lit< tt, refl), tt), (follows connect_body connect_controls connect_facts (placed (control_in connect_controls 5) this_origin (fact this_called modes.Lent other_names)) (subst (IsFollowed connect_facts (control_in connect_controls 6) this_origin) (sym drops_beside_this) (6, lit< tt, refl), tt), (follows connect_body connect_controls connect_facts (placed (control_in connect_controls 6) this_origin (fact this_dropped modes.Lent other_names)) (subst (IsFollowed connect_facts (control_in connect_controls 7) this_origin) (sym returns_this) tt, tt), (follows connect_body connect_controls connect_facts (placed (control_in connect_controls 0) field_origin (fact in_field modes.Held no_names)) ((8, lit< tt, refl), tt), (follows connect_body connect_controls connect_facts (placed (control_in connect_controls 1) field_origin (fact in_field modes.Held no_names)) ((9, lit< tt, refl), tt), (follows connect_body connect_controls connect_facts (placed (control_in connect_controls 2) field_origin (fact in_field modes.Held no_names)) ((10, lit< tt, refl), tt), (follows connect_body connect_controls connect_facts (placed (control_in connect_controls 3) field_origin (fact in_field modes.Held no_names)) (subst (IsFollowed connect_facts (control_in connect_controls 4) field_origin) (sym copies) (11, lit< tt, refl), tt), (follows connect_body connect_controls connect_facts (placed (control_in connect_controls 4) field_origin (fact in_both modes.Held no_names)) (subst (IsFollowed connect_facts (control_in connect_controls 5) field_origin) (sym connects) (12, lit< tt, refl), tt), (follows connect_body connect_controls connect_facts (placed (control_in connect_controls 5) field_origin (fact after_call modes.Held no_names)) (subst (IsFollowed connect_facts (control_in connect_controls 6) field_origin) (sym drops) (13, lit< tt, refl), tt), (follows connect_body connect_controls connect_facts (placed (control_in connect_controls 6) field_origin (fact after_drop modes.Held no_names)) (subst (IsFollowed connect_facts (control_in connect_controls 7) field_origin) (sym returns) tt, tt), tt))))))))))))))

pub connect_certificate : IsCertificate reconnecting connect_body (steps connect_body) connect_controls connect_facts
unfolding start_of
connect_certificate = record {
  start = (0, lit< tt, refl);
  steps = come;
  entry = all_of (IsListed connect_facts (steps connect_body).start) (births_at_entry reconnecting connect_body) ((0, lit< tt, refl), ((7, lit< tt, refl), tt));
  births = born;
  flows = followed;
}

-- sets of places have room for all places that the steps name
pub connect_small : All (AllActions connect_body (IsSmallAction reconnecting)) connect_controls
unfolding next_of
connect_small = all_of (AllActions connect_body (IsSmallAction reconnecting)) connect_controls
    (acts connect_body connect_controls (IsSmallAction reconnecting) 0 (tt, tt), (acts connect_body connect_controls (IsSmallAction reconnecting) 1 (tt, tt), (acts connect_body connect_controls (IsSmallAction reconnecting) 2 (tt, tt), (acts connect_body connect_controls (IsSmallAction reconnecting) 3 ((lit< tt, lit< tt), tt), (acts connect_body connect_controls (IsSmallAction reconnecting) 4 ((lit< tt, lit≤ tt), tt), (acts connect_body connect_controls (IsSmallAction reconnecting) 5 (lit< tt, tt), (acts connect_body connect_controls (IsSmallAction reconnecting) 6 (tt, tt), (acts connect_body connect_controls (IsSmallAction reconnecting) 7 tt, tt))))))))
