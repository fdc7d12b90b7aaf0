-- Tests of steps that go to a fault.
use Rattle.std.specs.Prelude.{◌&&◌, ◌==◌, Bool, true, false, Option, Some, None, List, [], ◌∷◌}
use Rattle.std.specs.List.{list_any}
use Rattle.std.specs.FinSet as set
use Rattle.rlc_base.specs.contracts.place.PosPartialEq.TheImpl as pos_eq
use Rattle.program_model.specs.declared.kinds.BodyId.{BodyId}
use Rattle.program_model.specs.declared.program.Program.{Program}
use Rattle.java_cfg.specs.declared.arc.Arc.{Arc}
use Rattle.control_actions.specs.contracts.action.ActionPartialEq.TheImpl as action_eq
use Rattle.control_actions.specs.contracts.action.EdgePartialEq.TheImpl as edge_eq
use Rattle.control_actions.specs.contracts.fact.FactPartialEq.TheImpl as fact_eq
use Rattle.control_actions.specs.contracts.fact.RulePartialEq.TheImpl as rule_eq
use Rattle.control_actions.specs.declared.fact.Fact.{Fact}
use Rattle.control_actions.specs.declared.fact.Origin.{Origin}
use Rattle.control_actions.specs.declared.fact.Outcome.{Outcome}
use Rattle.control_actions.specs.declared.fact.Outcome.TheVariants.{Next, Gone, Fault}
use Rattle.flow_rules.specs.Births.{Birth, births_at_entry}
use Rattle.flow_rules.specs.Flow.{flow}
use Rattle.flow_rules.specs.Numbering.{numbered}
use Rattle.flow_rules.specs.declared.path_step.PathStep.{PathStep}
use Rattle.obligation_paths.specs.Nodes.{arcs_at}
use Rattle.obligation_paths.specs.Origins.{arc_births, same_origin}
use Rattle.fault_order.specs.declared.fault.FaultAt.{FaultAt}

-- the step is told of the arc
abbrev pub is_step_of : PathStep → Arc → Bool
is_step_of s a = (action_eq.ghosts).eq s.action a.action && ((edge_eq.ghosts).eq s.edge a.edge && (pos_eq.ghosts).eq s.pos a.pos)

-- the birth is one of the origin, and its fact is this but for the number
abbrev pub is_first : Origin → Fact → Birth → Bool
is_first o g x = same_origin x.0 o && (fact_eq.ghosts).eq (numbered g.origin x.1) g

abbrev pub can_enter : Program → BodyId → Origin → Option Fact → Bool
can_enter p b o None = true
can_enter p b o (Some g) = list_any (is_first o g) (births_at_entry p b)

abbrev pub is_next : Fact → Outcome → Bool
is_next g (Next h) = (fact_eq.ghosts).eq h g
is_next g Gone = false
is_next g (Fault rule names) = false

abbrev pub can_become : Program → BodyId → Origin → Arc → Option Fact → Option Fact → Bool
can_become p b o a None None = true
can_become p b o a None (Some g) = list_any (is_first o g) (arc_births p b a)
can_become p b o a (Some f) None = false
can_become p b o a (Some f) (Some g) = is_next g (flow p b o a.action a.edge f)

-- the step by the arc leads to the node with what is known there
abbrev pub can_lead_by : Program → BodyId → Origin → PathStep → PathStep → Arc → Bool
can_lead_by p b o s t a = is_step_of s a && ((t.node == a.to) && can_become p b o a s.fact t.fact)

-- the outcome is the fault, with no other missing names
abbrev pub is_breach : FaultAt → Outcome → Bool
is_breach x (Next h) = false
is_breach x Gone = false
is_breach x (Fault rule names) = (rule_eq.ghosts).eq rule x.rule && set.is_subset names x.missing

abbrev pub breaks_with : Program → BodyId → FaultAt → Arc → Option Fact → Bool
breaks_with p b x a None = false
breaks_with p b x a (Some g) = is_breach x (flow p b x.origin a.action a.edge g)

-- the step by the arc breaks the rule of the fault at its place
abbrev pub can_break_by : Program → BodyId → FaultAt → PathStep → Arc → Bool
can_break_by p b x s a = is_step_of s a && ((pos_eq.ghosts).eq s.pos x.at && breaks_with p b x a s.fact)

-- some arc of the step's node leads to the next step
abbrev pub leads : Program → BodyId → List (List Arc) → Origin → PathStep → PathStep → Bool
leads p b rows o s t = list_any (can_lead_by p b o s t) (arcs_at rows s.node)

-- the step by some arc of its node breaks the rule of the fault
abbrev pub breaks : Program → BodyId → List (List Arc) → FaultAt → PathStep → Bool
breaks p b rows x s = list_any (can_break_by p b x s) (arcs_at rows s.node)

-- each step leads to the next one, and the last one breaks the rule
abbrev pub goes_on : Program → BodyId → List (List Arc) → FaultAt → PathStep → List PathStep → Bool
goes_on p b rows x s [] = breaks p b rows x s
goes_on p b rows x s (t ∷ steps) = leads p b rows x.origin s t && goes_on p b rows x t steps

-- the steps go from the entry of the body to the fault
abbrev pub goes_to : Program → BodyId → List (List Arc) → FaultAt → List PathStep → Bool
goes_to p b rows x [] = false
goes_to p b rows x (s ∷ steps) = (s.node == 0) && (can_enter p b x.origin s.fact && goes_on p b rows x s steps)
