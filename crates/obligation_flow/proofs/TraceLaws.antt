-- What a trace tells of its faults.
use Rattle.std.proofs.Common.{◌≡◌, subst, ℕ, ◌<◌, arith, List, length}
use Rattle.program_model.specs.declared.kinds.BodyId.{BodyId}
use Rattle.program_model.specs.declared.program.Program.{Program}
use Rattle.breadth_first.specs.Searches.{IsAt}
use Rattle.breadth_first.proofs.ListLaws.{at_map, at_same, length_mapped}
use Rattle.control_actions.specs.Remaining.{Todo}
use Rattle.control_actions.specs.declared.fact.Fact.{Fact}
use Rattle.control_actions.specs.declared.fact.Origin.{Origin}
use Rattle.java_cfg.specs.Graphs.{IsGraphOf}
use Rattle.java_cfg.specs.declared.arc.Arc.{Arc}
use Rattle.flow_rules.specs.declared.path_step.PathStep.{PathStep}
use Rattle.obligation_paths.specs.Nodes.{relation_in}
use Rattle.body_faults.specs.Breaches.{IsFirstBreach}
use Rattle.body_faults.specs.declared.breach.Breach.{Breach}
use Rattle.fault_order.specs.declared.fault.FaultAt.{FaultAt}
use Rattle.obligation_paths.specs.Paths.{IsToldPathTo, TellsShortest, fault_from}
use Rattle.obligation_paths.proofs.ControlLaws.{told_over}
use Rattle.obligation_flow.specs.Faults.{fault_of}
use Rattle.obligation_flow.specs.Traces.{IsTraceOf, faults_of}
use Rattle.obligation_flow.specs.declared.faults.TracedFault.{TracedFault}
use Rattle.obligation_flow.specs.declared.trace.Trace.{Trace}

pub within_faults : (t : Trace) (at : ℕ) → at < length (faults_of t) → at < length t.faults.items
within_faults t at within = let count = length_mapped fault_of t.faults.items in omega (arith, within, count)

module _ (p : Program) (b : BodyId) (nodes : List (List Todo)) (rows : List (List Arc)) (facts : List Fact) (t : Trace) (h : IsTraceOf p b nodes rows facts t) (g : IsGraphOf p b nodes rows)
    (at : ℕ) (v : TracedFault) (here : IsAt t.faults.items at v) where
  -- the steps that tell a path to the breach tell one to the fault
  pub told_fault : (steps : List PathStep)
      → ((x : Breach) (o : Origin) → IsAt t.walk.origins.keys x.origin o → IsFirstBreach p b rows t.walk.origins.keys facts t.walk.visits.visits.keys (x, v.breached)
      → TellsShortest p b (relation_in rows) (fault_from o x v.breached) steps)
      → (x : FaultAt) → IsAt (faults_of t) at x → IsToldPathTo p b nodes x steps
  told_fault steps tells x there =
      let same : fault_of v ≡ x = at_same (faults_of t) at (fault_of v) x (at_map fault_of t.faults.items at v here) there in
      told_over p b nodes rows g x steps (subst (λ (y : FaultAt). TellsShortest p b (relation_in rows) y steps) same (tells v.breach v.origin (h.traced.named at v here) (h.traced.first at v here)))
