-- No path in the program that closes its socket breaks a rule.
use Rattle.std.proofs.Common.{◌≡◌, ℕ, zero, suc, Some, None, List, [], ◌∷◌, slice_get, slice_index_or, All, Contains, refl, sym, subst, lit<, arith}
use Rattle.std.specs.List.{AllByRecursion}
use Rattle.rlc_base.specs.declared.place.Pos.{Pos}
use Rattle.program_model.specs.declared.kinds.BodyId.{BodyId}
use Rattle.java_control.specs.Control.{next_of, start_of}
use Rattle.java_control.specs.Remaining.{Todo}
use Rattle.control_actions.specs.declared.action.Action.TheVariants as actions
use Rattle.control_actions.specs.declared.action.Edge.TheVariants as edges
use Rattle.control_actions.specs.declared.fact.Origin.{Origin}
use Rattle.control_actions.specs.declared.fact.Rule.{Rule}
use Rattle.obligation_facts.specs.Facts.{Names}
use Rattle.soundness_laws.specs.Births.{births_of_step}
use Rattle.soundness_laws.specs.Flow.{flow}
use Rattle.soundness_laws.specs.Paths.{Faulty, Move, Relation, relation_of}
use Rattle.safety_examples.specs.Certificates.{IsCertificate, IsFollowed, IsListed, Placed, placed}
use Rattle.safety_examples.specs.CarefulControls.{controls}
use Rattle.safety_examples.specs.CarefulPrograms.{careful, in_source, no_names, socket_constructor}
use Rattle.safety_examples.proofs.Certified.{no_fault}
use Rattle.safety_examples.proofs.CarefulFlows.{after_call, after_drop, body, calls, closed_names, copies, drops, fact, in_both, in_temp, in_variable, leaves, moves, origin, returns, throws}
use Rattle.safety_examples.proofs.CarefulSets.{close_not_none}
use Rattle.safety_examples.proofs.Tests.{all_none, all_of}

abbrev pub relation : Relation (List Todo)
relation = relation_of careful body

abbrev pub control : ℕ → List Todo
control n = slice_index_or controls n []

-- the facts of the socket, at the controls that they come to
abbrev pub facts : List (Placed (List Todo))
facts =
    placed (control 3) origin (fact in_temp no_names)
    ∷ placed (control 4) origin (fact in_variable no_names)
    ∷ placed (control 5) origin (fact in_variable no_names)
    ∷ placed (control 6) origin (fact in_variable no_names)
    ∷ placed (control 7) origin (fact in_variable no_names)
    ∷ placed (control 8) origin (fact in_both no_names)
    ∷ placed (control 9) origin (fact after_call closed_names)
    ∷ placed (control 10) origin (fact after_drop closed_names)
    ∷ placed (control 11) origin (fact after_call closed_names)
    ∷ placed (control 12) origin (fact after_call closed_names)
    ∷ []

steps_at : (n : ℕ) → AllByRecursion (λ (t : Move (List Todo)). Contains controls t.to) (relation.next (control n)) → All (λ (t : Move (List Todo)). Contains controls t.to) (relation.next (control n))
steps_at n each = all_of (λ (t : Move (List Todo)). Contains controls t.to) (relation.next (control n)) each

births_at : (n : ℕ) → AllByRecursion (λ (t : Move (List Todo)). All (IsListed facts t.to) (births_of_step careful body t.action t.edge t.pos)) (relation.next (control n))
    → All (λ (t : Move (List Todo)). All (IsListed facts t.to) (births_of_step careful body t.action t.edge t.pos)) (relation.next (control n))
births_at n each = all_of (λ (t : Move (List Todo)). All (IsListed facts t.to) (births_of_step careful body t.action t.edge t.pos)) (relation.next (control n)) each

flows_at : (x : Placed (List Todo)) → AllByRecursion (λ (t : Move (List Todo)). IsFollowed facts t.to x.origin (flow careful body x.origin t.action t.edge x.fact)) (relation.next x.control)
    → All (λ (t : Move (List Todo)). IsFollowed facts t.to x.origin (flow careful body x.origin t.action t.edge x.fact)) (relation.next x.control)
flows_at x each = all_of (λ (t : Move (List Todo)). IsFollowed facts t.to x.origin (flow careful body x.origin t.action t.edge x.fact)) (relation.next x.control) each

-- the `new` bears the fact
socket_born : births_of_step careful body (actions.New socket_constructor 0 0) edges.Go (in_source 3 20) ≡ (origin, fact in_temp no_names) ∷ []
socket_born = simp close_not_none refl

makes_socket : All (IsListed facts (control 3)) (births_of_step careful body (actions.New socket_constructor 0 0) edges.Go (in_source 3 20))
makes_socket = subst (All (IsListed facts (control 3))) (sym socket_born) (all_of (IsListed facts (control 3)) ((origin, fact in_temp no_names) ∷ []) ((0, lit< tt, refl), tt))

pub certificate : IsCertificate careful body relation controls facts
unfolding next_of start_of
certificate = record {
  start = (0, lit< tt, refl);
  steps = all_of (λ k. All (λ (t : Move (List Todo)). Contains controls t.to) (relation.next k)) controls (steps_at 0 ((1, lit< tt, refl), tt), (steps_at 1 ((2, lit< tt, refl), tt), (steps_at 2 ((3, lit< tt, refl), tt), (steps_at 3 ((4, lit< tt, refl), tt), (steps_at 4 ((5, lit< tt, refl), tt), (steps_at 5 ((6, lit< tt, refl), tt), (steps_at 6 ((7, lit< tt, refl), tt), (steps_at 7 ((8, lit< tt, refl), tt), (steps_at 8 ((9, lit< tt, refl), ((11, lit< tt, refl), tt)), (steps_at 9 ((10, lit< tt, refl), tt), (steps_at 10 ((13, lit< tt, refl), tt), (steps_at 11 ((12, lit< tt, refl), tt), (steps_at 12 ((13, lit< tt, refl), tt), (steps_at 13 tt, tt))))))))))))));
  entry = all_none (IsListed facts relation.start);
  births = all_of (λ k. All (λ (t : Move (List Todo)). All (IsListed facts t.to) (births_of_step careful body t.action t.edge t.pos)) (relation.next k)) controls (births_at 0 ((λ k d within. absurd (omega arith)), tt), (births_at 1 ((λ k d within. absurd (omega arith)), tt), (births_at 2 (makes_socket, tt), (births_at 3 ((λ k d within. absurd (omega arith)), tt), (births_at 4 ((λ k d within. absurd (omega arith)), tt), (births_at 5 ((λ k d within. absurd (omega arith)), tt), (births_at 6 ((λ k d within. absurd (omega arith)), tt), (births_at 7 ((λ k d within. absurd (omega arith)), tt), (births_at 8 ((λ k d within. absurd (omega arith)), ((λ k d within. absurd (omega arith)), tt)), (births_at 9 ((λ k d within. absurd (omega arith)), tt), (births_at 10 ((λ k d within. absurd (omega arith)), tt), (births_at 11 ((λ k d within. absurd (omega arith)), tt), (births_at 12 ((λ k d within. absurd (omega arith)), tt), (births_at 13 tt, tt))))))))))))));
  flows = all_of (λ (x : Placed (List Todo)). All (λ (t : Move (List Todo)). IsFollowed facts t.to x.origin (flow careful body x.origin t.action t.edge x.fact)) (relation.next x.control)) facts (flows_at (placed (control 3) origin (fact in_temp no_names)) (subst (IsFollowed facts (control 4) origin) (sym moves) (1, lit< tt, refl), tt), (flows_at (placed (control 4) origin (fact in_variable no_names)) ((2, lit< tt, refl), tt), (flows_at (placed (control 5) origin (fact in_variable no_names)) ((3, lit< tt, refl), tt), (flows_at (placed (control 6) origin (fact in_variable no_names)) ((4, lit< tt, refl), tt), (flows_at (placed (control 7) origin (fact in_variable no_names)) (subst (IsFollowed facts (control 8) origin) (sym copies) (5, lit< tt, refl), tt), (flows_at (placed (control 8) origin (fact in_both no_names)) (subst (IsFollowed facts (control 9) origin) (sym calls) (6, lit< tt, refl), (subst (IsFollowed facts (control 11) origin) (sym throws) (8, lit< tt, refl), tt)), (flows_at (placed (control 9) origin (fact after_call closed_names)) (subst (IsFollowed facts (control 10) origin) (sym drops) (7, lit< tt, refl), tt), (flows_at (placed (control 10) origin (fact after_drop closed_names)) (subst (IsFollowed facts (control 13) origin) (sym returns) tt, tt), (flows_at (placed (control 11) origin (fact after_call closed_names)) ((9, lit< tt, refl), tt), (flows_at (placed (control 12) origin (fact after_call closed_names)) (subst (IsFollowed facts (control 13) origin) (sym leaves) tt, tt), tt))))))))));
}

-- a number of no body has no step
pub no_step : (n i : ℕ) (k : List Todo) (t : Move (List Todo)) → slice_get ((relation_of careful (record { 0 = suc n })).next k) i ≡ Some t → ⊥
unfolding next_of
no_step n i k t at = absurd (let no : None ≡ Some t = at in cc)

pub careful_no_fault : (b : BodyId) (o : Origin) (rule : Rule) (at : Pos) (names : Names) → Faulty careful b (relation_of careful b) o rule at names → ⊥
careful_no_fault b o rule at names fault = by b.0 fault
  where
    by : (n : ℕ) → Faulty careful (record { 0 = n }) (relation_of careful (record { 0 = n })) o rule at names → ⊥
    by zero fault = no_fault careful body relation controls facts certificate o rule at names fault
    by (suc n) fault = no_step n fault.index fault.control fault.move fault.step
