-- The reports of a body: one for each fault, in the order of faults, with a path of the fewest steps that shows it.
use Rattle.std.specs.Prelude.{◌≡◌, ◌+◌, ◌<◌, ◌≤◌, ℕ, List, ◌++◌, length}
use Rattle.std.specs.List.{AllZip, flat_map}
use Rattle.rlc_base.specs.declared.code.Code.TheVariants as refused
use Rattle.rlc_base.specs.declared.faults.Refusal.{Refusal}
use Rattle.rlc_base.specs.declared.faults.Stop.{Stop}
use Rattle.rlc_base.specs.declared.faults.Stop.TheVariants as stops
use Rattle.program_model.specs.declared.kinds.BodyId.{BodyId}
use Rattle.program_model.specs.declared.program.Program.{Program}
use Rattle.java_control.specs.Remaining.{Todo}
use Rattle.java_cfg.specs.Limits.{PassesLimit, method_place, refusal}
use Rattle.flow_rules.specs.Paths.{Taken, relation_of}
use Rattle.flow_rules.specs.declared.path_step.PathStep.{PathStep}
use Rattle.graph_limits.specs.Pairs.{ReachesMorePairs, most_pairs}
use Rattle.fault_order.specs.declared.fault.FaultAt.{FaultAt}
use Rattle.obligation_flow.specs.Paths.{IsShortestPathTo}
use Rattle.obligation_flow.specs.Faults.{AreFaultsOf}
use Rattle.leak_report.specs.Reports.{report_text}
use Rattle.leak_report.specs.declared.report.Report.{Report}

-- ---- the faults of a body

-- the body passes no limit, and these are its faults, in the order of faults
pub record HasFaults (p : Program) (b : BodyId) (faults : List FaultAt) : Type 0 where
  pub small : (r : Refusal) → PassesLimit p b r → ⊥
  pub few_pairs : ReachesMorePairs p b (relation_of p b) most_pairs → ⊥
  pub are : AreFaultsOf p b (relation_of p b) faults

-- the most faults of a program that are reported
abbrev pub most_faults : ℕ
most_faults = 10000

-- Why a body stops the check, where so many faults are in the bodies before it: it has too many controls or places; or else paths
-- reach too many pairs of a control and a fact; or else it is the body with which the faults are too many.
pub data StopsCheck (p : Program) (b : BodyId) (before : ℕ) (r : Refusal) : Type 0 where
  limit : PassesLimit p b r → StopsCheck p b before r
  pairs : r ≡ refusal refused.TooManyFacts (method_place p b) → ((q : Refusal) → PassesLimit p b q → ⊥)
      → ReachesMorePairs p b (relation_of p b) most_pairs → StopsCheck p b before r
  faults : (found : List FaultAt) → r ≡ refusal refused.TooManyFaults (method_place p b) → HasFaults p b found
      → most_faults < before + length found → StopsCheck p b before r

-- why a body is not reported
abbrev pub IsBodyStop : Program → BodyId → ℕ → Stop → Type 0
IsBodyStop p b before (stops.Refused r) = ⊥
IsBodyStop p b before (stops.TooMuch r) = StopsCheck p b before r
IsBodyStop p b before stops.NoMemory = Unit {0}

-- ---- the reports of a body

-- a step of a path as a report tells it: its place, its action, and the way that it goes
pub record IsShownAs (s : PathStep) (t : Taken (List Todo)) : Type 0 where
  pub pos : s.pos ≡ t.move.pos
  pub action : s.action ≡ t.move.action
  pub edge : s.edge ≡ t.move.edge

-- the steps show a path to the fault, and no path to it has fewer steps
pub record ShowShortestPath (p : Program) (b : BodyId) (x : FaultAt) (shown : List PathStep) : Type 0 where
  pub path : List (Taken (List Todo))
  pub shortest : IsShortestPathTo p b (relation_of p b) x path
  pub steps : AllZip IsShownAs shown path

-- the report of a fault
pub record IsReportOf (p : Program) (b : BodyId) (x : FaultAt) (r : Report) : Type 0 where
  pub origin : r.origin ≡ x.origin
  pub rule : r.rule ≡ x.rule
  pub at : r.at ≡ x.at
  pub missing : r.missing ≡ x.missing
  pub path : ShowShortestPath p b x r.path.items

-- the reports of a body's faults
pub record HasReports (p : Program) (b : BodyId) (reports : List Report) : Type 0 where
  pub faults : List FaultAt
  pub has : HasFaults p b faults
  pub each : AllZip (IsReportOf p b) faults reports

-- the text of reports
abbrev pub reports_text : Program → List (List ℕ) → List Report → List ℕ
reports_text p files reports = flat_map (report_text p files) reports

-- the reports of faults are put behind a text
pub record PrintReports (p : Program) (files : List (List ℕ)) (b : BodyId) (faults : List FaultAt) (old new : List ℕ) : Type 0 where
  pub reports : List Report
  pub each : AllZip (IsReportOf p b) faults reports
  pub printed : new ≡ old ++ reports_text p files reports

-- the reports of a body are put behind a text, and counted
pub record AppendsReports (p : Program) (files : List (List ℕ)) (b : BodyId) (before after : ℕ) (old new : List ℕ) : Type 0 where
  pub reports : List Report
  pub has : HasReports p b reports
  pub counted : after ≡ before + length reports
  pub few : after ≤ most_faults
  pub appended : new ≡ old ++ reports_text p files reports
