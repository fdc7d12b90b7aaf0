-- Paths whose last step breaks a rule, and those of them that have the fewest steps.
use Rattle.std.specs.Prelude.{◌≡◌, ◌≤◌, ℕ, true, Some, List, [], ◌∷◌, ◌++◌, map, length, slice_get}
use Rattle.std.specs.FinSet as set
use Rattle.std.specs.List.{AllZip}
use Rattle.rlc_base.specs.declared.place.Pos.{Pos}
use Rattle.program_model.specs.declared.kinds.BodyId.{BodyId}
use Rattle.program_model.specs.declared.program.Program.{Program}
use Rattle.breadth_first.specs.Searches.{IsAt}
use Rattle.java_control.specs.Remaining.{Todo}
use Rattle.control_actions.specs.declared.fact.Fact.{Fact}
use Rattle.control_actions.specs.declared.fact.Origin.{Origin}
use Rattle.control_actions.specs.declared.fact.Outcome.TheVariants.{Fault}
use Rattle.control_actions.specs.declared.fact.Rule.{Rule}
use Rattle.flow_rules.specs.Facts.{Names}
use Rattle.flow_rules.specs.Flow.{flow}
use Rattle.flow_rules.specs.Paths.{IsPath, Move, Relation, Taken, relation_of, taken}
use Rattle.flow_rules.specs.declared.path_step.PathStep.{PathStep}
use Rattle.fault_order.specs.declared.fault.FaultAt.{FaultAt}
use Rattle.reached_pairs.specs.declared.visit.Source.{Source as Step}
use Rattle.shortest_paths.specs.Telling.{told, told_fact}
use Rattle.body_faults.specs.declared.breach.Breach.{Breach}
use Rattle.body_faults.specs.declared.breach.Breached.{Breached}

-- the steps are a path with a fact of the origin, whose last step breaks the rule at the place; these names are missing
pub record IsPathTo {K : Type 0} (p : Program) (b : BodyId) (r : Relation K) (o : Origin) (rule : Rule) (at : Pos) (names : Names) (steps : List (Taken K)) : Type 0 where
  pub before : List (Taken K)
  pub control : K
  pub fact : Fact
  pub path : IsPath p b r o before control (Some fact)
  pub index : ℕ
  pub move : Move K
  pub step : slice_get (r.next control) index ≡ Some move
  pub breaks : flow p b o move.action move.edge fact ≡ Fault rule names
  pub place : move.pos ≡ at
  pub is : steps ≡ before ++ taken control move (Some fact) ∷ []

-- The steps are a path to the fault: its last step breaks the rule at the place, with no other missing names than those of the
-- fault. No path whose last step breaks the rule there has fewer steps.
pub record IsShortestPathTo {K : Type 0} (p : Program) (b : BodyId) (r : Relation K) (x : FaultAt) (steps : List (Taken K)) : Type 0 where
  pub names : Names
  pub path : IsPathTo p b r x.origin x.rule x.at names steps
  pub within : (n : ℕ) → set.contains names n ≡ true → set.contains x.missing n ≡ true
  pub least : (others : List (Taken K)) (missing : Names) → IsPathTo p b r x.origin x.rule x.at missing others → length steps ≤ length others

-- the steps tell a shortest path to the fault by the numbers of nodes; facts carry the number of their origin
pub record TellsShortest (p : Program) (b : BodyId) (r : Relation ℕ) (x : FaultAt) (steps : List PathStep) : Type 0 where
  pub number : ℕ
  pub path : List (Taken ℕ)
  pub told : steps ≡ map (told number) path
  pub is : IsShortestPathTo p b r x path

-- the step of a search by which a rule is broken
abbrev pub step_at : Breached → Step
step_at x = record { visit = x.visit; arc = x.arc }

-- the rule that is broken, as a fault
abbrev pub fault_from : Origin → Breach → Breached → FaultAt
fault_from o x y = record { rule = x.rule; at = x.at; origin = o; missing = y.missing }

-- a step from a control is told with the number of the node that stands for the control; its fact carries this number
pub record IsTold (nodes : List (List Todo)) (m : ℕ) (s : PathStep) (t : Taken (List Todo)) : Type 0 where
  pub control : IsAt nodes s.node t.control
  pub action : s.action ≡ t.move.action
  pub edge : s.edge ≡ t.move.edge
  pub pos : s.pos ≡ t.move.pos
  pub fact : s.fact ≡ told_fact m t.fact

-- The steps tell a shortest path of controls to the fault, by the numbers of the nodes of the graph. The facts of the steps
-- carry one number, that of their origin.
pub record IsToldPathTo (p : Program) (b : BodyId) (nodes : List (List Todo)) (x : FaultAt) (steps : List PathStep) : Type 0 where
  pub number : ℕ
  pub path : List (Taken (List Todo))
  pub told : AllZip (IsTold nodes number) steps path
  pub is : IsShortestPathTo p b (relation_of p b) x path
