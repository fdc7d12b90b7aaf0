-- No path in `reopen` breaks a rule.
use Rattle.std.proofs.Common.{◌≡◌, List, [], ◌∷◌, All, refl, sym, subst, lit<, arith, lit≤}
use Rattle.java_control.specs.Control.{next_of, start_of}
use Rattle.java_control.specs.Remaining.{Todo}
use Rattle.control_actions.specs.declared.action.Action.TheVariants as actions
use Rattle.control_actions.specs.declared.action.Edge.TheVariants as edges
use Rattle.control_actions.specs.declared.fact.Mode.TheVariants as modes
use Rattle.obligation_facts.specs.SmallActions.{IsSmallAction}
use Rattle.soundness_laws.specs.Births.{births_at_entry, births_of_step}
use Rattle.safety_examples.specs.Certificates.{IsCertificate, IsFollowed, IsListed, Placed, placed}
use Rattle.safety_examples.specs.CarefulPrograms.{in_source, no_names}
use Rattle.safety_examples.specs.OwnerPrograms.{resource_constructor}
use Rattle.safety_examples.specs.ReplacingControls.{reopen_controls}
use Rattle.safety_examples.specs.OpeningPrograms.{opening}
use Rattle.safety_examples.specs.ReplacingPrograms.{reopen_body}
use Rattle.safety_examples.proofs.CarefulSets.{close_not_none}
use Rattle.safety_examples.proofs.Tests.{all_of}
use Rattle.safety_examples.proofs.OpeningConstructorFlows.{in_this}
use Rattle.safety_examples.proofs.OpeningReopenFlows.{after_call, after_drop, after_new, calls, calls_beside_this, closed_names, copies, copies_over_this, drops, drops_beside_this, drops_stored, drops_stored_beside_this, fact, field_origin, in_both, in_field, in_temp, makes_beside, makes_beside_this, met_names, new_fact, new_field, no_more_names, other_names, replaces, resource_origin, returns, returns_this, stored, stores, stores_beside_this, this_called, this_dropped, this_made, this_origin, this_read, this_stored}
use Rattle.safety_examples.proofs.OpeningWalks.{AllActions, Bears, ComesTo, Follows, acts, bears, comes_to, control_in, follows, steps}

abbrev pub reopen_facts : List (Placed (List Todo))
reopen_facts =
    placed (control_in reopen_controls 0) this_origin (fact in_this modes.Lent no_names)
    ∷ placed (control_in reopen_controls 1) this_origin (fact in_this modes.Lent no_names)
    ∷ placed (control_in reopen_controls 2) this_origin (fact in_this modes.Lent no_names)
    ∷ placed (control_in reopen_controls 3) this_origin (fact in_this modes.Lent no_names)
    ∷ placed (control_in reopen_controls 4) this_origin (fact this_read modes.Lent no_names)
    ∷ placed (control_in reopen_controls 5) this_origin (fact this_called modes.Lent other_names)
    ∷ placed (control_in reopen_controls 6) this_origin (fact this_dropped modes.Lent other_names)
    ∷ placed (control_in reopen_controls 7) this_origin (fact this_dropped modes.Lent other_names)
    ∷ placed (control_in reopen_controls 8) this_origin (fact this_dropped modes.Lent other_names)
    ∷ placed (control_in reopen_controls 9) this_origin (fact this_dropped modes.Lent other_names)
    ∷ placed (control_in reopen_controls 10) this_origin (fact this_made modes.Lent no_more_names)
    ∷ placed (control_in reopen_controls 11) this_origin (fact this_made modes.Lent no_more_names)
    ∷ placed (control_in reopen_controls 12) this_origin (fact this_stored modes.Lent no_more_names)
    ∷ placed (control_in reopen_controls 0) field_origin (fact in_field modes.Held no_names)
    ∷ placed (control_in reopen_controls 1) field_origin (fact in_field modes.Held no_names)
    ∷ placed (control_in reopen_controls 2) field_origin (fact in_field modes.Held no_names)
    ∷ placed (control_in reopen_controls 3) field_origin (fact in_field modes.Held no_names)
    ∷ placed (control_in reopen_controls 4) field_origin (fact in_both modes.Held no_names)
    ∷ placed (control_in reopen_controls 5) field_origin (fact after_call modes.Held closed_names)
    ∷ placed (control_in reopen_controls 6) field_origin (fact after_drop modes.Held closed_names)
    ∷ placed (control_in reopen_controls 7) field_origin (fact after_drop modes.Held closed_names)
    ∷ placed (control_in reopen_controls 8) field_origin (fact after_drop modes.Held closed_names)
    ∷ placed (control_in reopen_controls 9) field_origin (fact after_drop modes.Held closed_names)
    ∷ placed (control_in reopen_controls 10) field_origin (fact after_new modes.Held met_names)
    ∷ placed (control_in reopen_controls 10) resource_origin (new_fact in_temp modes.Own)
    ∷ placed (control_in reopen_controls 11) resource_origin (new_fact new_field modes.Held)
    ∷ placed (control_in reopen_controls 12) resource_origin (new_fact stored modes.Held)
    ∷ []

-- `new` bears a fact
makes_resource_born : births_of_step opening reopen_body (actions.New resource_constructor 0 0) edges.Go (in_source 6 52) ≡ (resource_origin, new_fact in_temp modes.Own) ∷ []
makes_resource_born = simp close_not_none refl

makes_resource : All (IsListed reopen_facts (control_in reopen_controls 10)) (births_of_step opening reopen_body (actions.New resource_constructor 0 0) edges.Go (in_source 6 52))
makes_resource =
    subst (All (IsListed reopen_facts (control_in reopen_controls 10))) (sym makes_resource_born)
    (all_of (IsListed reopen_facts (control_in reopen_controls 10)) ((resource_origin, new_fact in_temp modes.Own) ∷ []) ((24, lit< tt, refl), tt))

come : All (λ k. All (ComesTo reopen_body reopen_controls) ((steps reopen_body).next k)) reopen_controls
unfolding next_of
come = all_of (λ k. All (ComesTo reopen_body reopen_controls) ((steps reopen_body).next k)) reopen_controls
    (comes_to reopen_body reopen_controls 0 ((1, lit< tt, refl), tt), (comes_to reopen_body reopen_controls 1 ((2, lit< tt, refl), tt), (comes_to reopen_body reopen_controls 2 ((3, lit< tt, refl), tt), (comes_to reopen_body reopen_controls 3 ((4, lit< tt, refl), tt), (comes_to reopen_body reopen_controls 4 ((5, lit< tt, refl), tt), (comes_to reopen_body reopen_controls 5 ((6, lit< tt, refl), tt), (comes_to reopen_body reopen_controls 6 ((7, lit< tt, refl), tt), (comes_to reopen_body reopen_controls 7 ((8, lit< tt, refl), tt), (comes_to reopen_body reopen_controls 8 ((9, lit< tt, refl), tt), (comes_to reopen_body reopen_controls 9 ((10, lit< tt, refl), tt), (comes_to reopen_body reopen_controls 10 ((11, lit< tt, refl), tt), (comes_to reopen_body reopen_controls 11 ((12, lit< tt, refl), tt), (comes_to reopen_body reopen_controls 12 ((13, lit< tt, refl), tt), (comes_to reopen_body reopen_controls 13 tt, tt))))))))))))))

born : All (λ k. All (Bears reopen_body reopen_controls reopen_facts) ((steps reopen_body).next k)) reopen_controls
unfolding next_of
born = all_of (λ k. All (Bears reopen_body reopen_controls reopen_facts) ((steps reopen_body).next k)) reopen_controls
    (bears reopen_body reopen_controls reopen_facts 0 (λ k d within. absurd (omega arith), tt), (bears reopen_body reopen_controls reopen_facts 1 (λ k d within. absurd (omega arith), tt), (bears reopen_body reopen_controls reopen_facts 2 (λ k d within. absurd (omega arith), tt), (bears reopen_body reopen_controls reopen_facts 3 (λ k d within. absurd (omega arith), tt), (bears reopen_body reopen_controls reopen_facts 4 (λ k d within. absurd (omega arith), tt), (bears reopen_body reopen_controls reopen_facts 5 (λ k d within. absurd (omega arith), tt), (bears reopen_body reopen_controls reopen_facts 6 (λ k d within. absurd (omega arith), tt), (bears reopen_body reopen_controls reopen_facts 7 (λ k d within. absurd (omega arith), tt), (bears reopen_body reopen_controls reopen_facts 8 (λ k d within. absurd (omega arith), tt), (bears reopen_body reopen_controls reopen_facts 9 (makes_resource, tt), (bears reopen_body reopen_controls reopen_facts 10 (λ k d within. absurd (omega arith), tt), (bears reopen_body reopen_controls reopen_facts 11 (λ k d within. absurd (omega arith), tt), (bears reopen_body reopen_controls reopen_facts 12 (λ k d within. absurd (omega arith), tt), (bears reopen_body reopen_controls reopen_facts 13 tt, tt))))))))))))))

followed : All (λ (x : Placed (List Todo)). All (Follows reopen_body reopen_controls reopen_facts x) ((steps reopen_body).next x.control)) reopen_facts
unfolding next_of
followed = all_of (λ (x : Placed (List Todo)). All (Follows reopen_body reopen_controls reopen_facts x) ((steps reopen_body).next x.control)) reopen_facts
    (follows reopen_body reopen_controls reopen_facts (placed (control_in reopen_controls 0) this_origin (fact in_this modes.Lent no_names)) ((1, lit< tt, refl), tt), (follows reopen_body reopen_controls reopen_facts (placed (control_in reopen_controls 1) this_origin (fact in_this modes.Lent no_names)) ((2, lit< tt, refl), tt), (follows reopen_body reopen_controls reopen_facts (placed (control_in reopen_controls 2) this_origin (fact in_this modes.Lent no_names)) ((3, lit< tt, refl), tt), (follows reopen_body reopen_controls reopen_facts (placed (control_in reopen_controls 3) this_origin (fact in_this modes.Lent no_names)) (subst (IsFollowed reopen_facts (control_in reopen_controls 4) this_origin) (sym copies_over_this) (4, lit< tt, refl), tt), (follows reopen_body reopen_controls reopen_facts (placed (control_in reopen_controls 4) this_origin (fact this_read modes.Lent no_names)) (subst (IsFollowed reopen_facts (control_in reopen_controls 5) this_origin) (sym calls_beside_this) (5, lit< tt, refl), tt), (follows reopen_body reopen_controls reopen_facts (placed (control_in reopen_controls 5) this_origin (fact this_called modes.Lent other_names)) (subst (IsFollowed reopen_facts (control_in reopen_controls 6) this_origin) (sym drops_beside_this) (6, lit< tt, refl), tt), (follows reopen_body reopen_controls reopen_facts (placed (control_in reopen_controls 6) this_origin (fact this_dropped modes.Lent other_names)) ((7, lit< tt, refl), tt), (follows reopen_body reopen_controls reopen_facts (placed (control_in reopen_controls 7) this_origin (fact this_dropped modes.Lent other_names)) ((8, lit< tt, refl), tt), (follows reopen_body reopen_controls reopen_facts (placed (control_in reopen_controls 8) this_origin (fact this_dropped modes.Lent other_names)) ((9, lit< tt, refl), tt), (follows reopen_body reopen_controls reopen_facts (placed (control_in reopen_controls 9) this_origin (fact this_dropped modes.Lent other_names)) (subst (IsFollowed reopen_facts (control_in reopen_controls 10) this_origin) (sym makes_beside_this) (10, lit< tt, refl), tt), (follows reopen_body reopen_controls reopen_facts (placed (control_in reopen_controls 10) this_origin (fact this_made modes.Lent no_more_names)) (subst (IsFollowed reopen_facts (control_in reopen_controls 11) this_origin) (sym stores_beside_this) (11, lit< tt, refl), tt), (follows reopen_body reopen_controls reopen_facts (placed (control_in reopen_controls 11) this_origin (fact this_made modes.Lent no_more_names)) (subst (IsFollowed reopen_facts (control_in reopen_controls 12) this_origin) (sym drops_stored_beside_this) (12, lit< tt, refl), tt), (follows reopen_body reopen_controls reopen_facts (placed (control_in reopen_controls 12) this_origin (fact this_stored modes.Lent no_more_names)) (subst (IsFollowed reopen_facts (control_in reopen_controls 13) this_origin) (sym returns_this) tt, tt), (follows reopen_body reopen_controls reopen_facts (placed (control_in reopen_controls 0) field_origin (fact in_field modes.Held no_names)) ((14, lit< tt, refl), tt), (follows reopen_body reopen_controls reopen_facts (placed (control_in reopen_controls 1) field_origin (fact in_field modes.Held no_names)) ((15, lit< tt, refl), tt), (follows reopen_body reopen_controls reopen_facts (placed (control_in reopen_controls 2) field_origin (fact in_field modes.Held no_names)) ((16, lit< tt, refl), tt), (follows reopen_body reopen_controls reopen_facts (placed (control_in reopen_controls 3) field_origin (fact in_field modes.Held no_names)) (subst (IsFollowed reopen_facts (control_in reopen_controls 4) field_origin) (sym copies) (17, lit< tt, refl), tt), (follows reopen_body reopen_controls reopen_facts (placed (control_in reopen_controls 4) field_origin (fact in_both modes.Held no_names)) (subst (IsFollowed reopen_facts (control_in reopen_controls 5) field_origin) (sym calls) (18, lit< tt, refl), tt), (follows reopen_body reopen_controls reopen_facts (placed (control_in reopen_controls 5) field_origin (fact after_call modes.Held closed_names)) (subst (IsFollowed reopen_facts (control_in reopen_controls 6) field_origin) (sym drops) (19, lit< tt, refl), tt), (follows reopen_body reopen_controls reopen_facts (placed (control_in reopen_controls 6) field_origin (fact after_drop modes.Held closed_names)) ((20, lit< tt, refl), tt), (follows reopen_body reopen_controls reopen_facts (placed (control_in reopen_controls 7) field_origin (fact after_drop modes.Held closed_names)) ((21, lit< tt, refl), tt), (follows reopen_body reopen_controls reopen_facts (placed (control_in reopen_controls 8) field_origin (fact after_drop modes.Held closed_names)) ((22, lit< tt, refl), tt), (follows reopen_body reopen_controls reopen_facts (placed (control_in reopen_controls 9) field_origin (fact after_drop modes.Held closed_names)) (subst (IsFollowed reopen_facts (control_in reopen_controls 10) field_origin) (sym makes_beside) (23, lit< tt, refl), tt), (follows reopen_body reopen_controls reopen_facts (placed (control_in reopen_controls 10) field_origin (fact after_new modes.Held met_names)) (subst (IsFollowed reopen_facts (control_in reopen_controls 11) field_origin) (sym replaces) tt, tt), (follows reopen_body reopen_controls reopen_facts (placed (control_in reopen_controls 10) resource_origin (new_fact in_temp modes.Own)) (subst (IsFollowed reopen_facts (control_in reopen_controls 11) resource_origin) (sym stores) (25, lit< tt, refl), tt), (follows reopen_body reopen_controls reopen_facts (placed (control_in reopen_controls 11) resource_origin (new_fact new_field modes.Held)) (subst (IsFollowed reopen_facts (control_in reopen_controls 12) resource_origin) (sym drops_stored) (26, lit< tt, refl), tt), (follows reopen_body reopen_controls reopen_facts (placed (control_in reopen_controls 12) resource_origin (new_fact stored modes.Held)) (subst (IsFollowed reopen_facts (control_in reopen_controls 13) resource_origin) (sym returns) tt, tt), tt)))))))))))))))))))))))))))

pub reopen_certificate : IsCertificate opening reopen_body (steps reopen_body) reopen_controls reopen_facts
unfolding start_of
reopen_certificate = record {
  start = (0, lit< tt, refl);
  steps = come;
  entry = all_of (IsListed reopen_facts (steps reopen_body).start) (births_at_entry opening reopen_body) ((0, lit< tt, refl), ((13, lit< tt, refl), tt));
  births = born;
  flows = followed;
}

-- sets of places have room for all places that the steps name
pub reopen_small : All (AllActions reopen_body (IsSmallAction opening)) reopen_controls
unfolding next_of
reopen_small = all_of (AllActions reopen_body (IsSmallAction opening)) reopen_controls
    (acts reopen_body reopen_controls (IsSmallAction opening) 0 (tt, tt), (acts reopen_body reopen_controls (IsSmallAction opening) 1 (tt, tt), (acts reopen_body reopen_controls (IsSmallAction opening) 2 (tt, tt), (acts reopen_body reopen_controls (IsSmallAction opening) 3 ((lit< tt, lit< tt), tt), (acts reopen_body reopen_controls (IsSmallAction opening) 4 ((lit< tt, lit≤ tt), tt), (acts reopen_body reopen_controls (IsSmallAction opening) 5 (lit< tt, tt), (acts reopen_body reopen_controls (IsSmallAction opening) 6 (tt, tt), (acts reopen_body reopen_controls (IsSmallAction opening) 7 (tt, tt), (acts reopen_body reopen_controls (IsSmallAction opening) 8 (tt, tt), (acts reopen_body reopen_controls (IsSmallAction opening) 9 (lit< tt, tt), (acts reopen_body reopen_controls (IsSmallAction opening) 10 ((lit< tt, lit< tt), tt), (acts reopen_body reopen_controls (IsSmallAction opening) 11 (lit< tt, tt), (acts reopen_body reopen_controls (IsSmallAction opening) 12 (tt, tt), (acts reopen_body reopen_controls (IsSmallAction opening) 13 tt, tt))))))))))))))
