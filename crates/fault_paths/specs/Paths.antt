-- Paths to a fault, as they are told.
use Rattle.std.specs.Prelude.{◌≡◌, ℕ, true, List}
use Rattle.std.specs.FinSet as set
use Rattle.std.specs.List.{AllZip}
use Rattle.program_model.specs.declared.kinds.BodyId.{BodyId}
use Rattle.program_model.specs.declared.program.Program.{Program}
use Rattle.java_control.specs.Remaining.{Todo}
use Rattle.obligation_facts.specs.Facts.{Names}
use Rattle.flow_rules.specs.Paths.{Taken, relation_of}
use Rattle.flow_rules.specs.declared.path_step.PathStep.{PathStep}
use Rattle.fault_order.specs.declared.fault.FaultAt.{FaultAt}
use Rattle.leak_report.specs.declared.report.Report.{Report}
use Rattle.obligation_paths.specs.Paths.{IsPathTo, IsTold}

-- The steps tell a path of controls, by the numbers of the nodes of the graph, whose last step breaks the rule of the fault at
-- its place, with no other missing names than those of the fault. The facts of the steps carry one number, whichever it is.
pub record IsFaultPath (p : Program) (b : BodyId) (nodes : List (List Todo)) (x : FaultAt) (steps : List PathStep) : Type 0 where
  pub number : ℕ
  pub path : List (Taken (List Todo))
  pub told : AllZip (IsTold nodes number) steps path
  pub names : Names
  pub is : IsPathTo p b (relation_of p b) x.origin x.rule x.at names path
  pub within : (n : ℕ) → set.contains names n ≡ true → set.contains x.missing n ≡ true

-- the fault that a report tells
abbrev pub fault_of : Report → FaultAt
fault_of r = record { rule = r.rule; at = r.at; origin = r.origin; missing = r.missing }
