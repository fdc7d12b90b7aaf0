-- The faults of a program and their reports: those of its bodies, one body behind the other. The bodies are taken by their numbers,
-- which is the order of the files and of the text.
use Rattle.std.specs.Prelude.{◌≡◌, ◌≤◌, ◌<◌, ℕ, List, length, sum_by}
use Rattle.std.specs.List.{flat_map}
use Rattle.rlc_base.specs.declared.faults.Refusal.{Refusal}
use Rattle.rlc_base.specs.declared.faults.Stop.{Stop}
use Rattle.rlc_base.specs.declared.faults.Stop.TheVariants as stops
use Rattle.rlc_base.specs.declared.place.Pos.{Pos}
use Rattle.program_model.specs.declared.kinds.BodyId.{BodyId}
use Rattle.program_model.specs.declared.program.Program.{Program}
use Rattle.breadth_first.specs.Searches.{IsAt}
use Rattle.control_actions.specs.declared.fact.Origin.{Origin}
use Rattle.control_actions.specs.declared.fact.Rule.{Rule}
use Rattle.flow_rules.specs.Facts.{Names}
use Rattle.flow_rules.specs.Paths.{Faulty, relation_of}
use Rattle.fault_order.specs.declared.fault.FaultAt.{FaultAt}
use Rattle.leak_report.specs.declared.report.Report.{Report}
use Rattle.program_faults.specs.BodyReports.{HasFaults, HasReports, StopsCheck, most_faults, reports_text}

abbrev pub body_id : ℕ → BodyId
body_id n = record { 0 = n }

-- how many values all of the lists have
abbrev pub total_count : {X : Type 0} → List (List X) → ℕ
total_count lists = sum_by length lists

-- ---- the faults

-- the faults of each of the first `n` bodies
pub record HaveFaults (p : Program) (n : ℕ) (faults : List (List FaultAt)) : Type 0 where
  pub long : length faults ≡ n
  pub each : (i : ℕ) (xs : List FaultAt) → IsAt faults i xs → HasFaults p (body_id i) xs

-- no body of the program passes a limit, and so many faults are in its bodies
pub record IsFaultCount (p : Program) (count : ℕ) : Type 0 where
  pub faults : List (List FaultAt)
  pub has : HaveFaults p (length p.bodies.items) faults
  pub counted : count ≡ total_count faults
  pub few : count ≤ most_faults

-- the rules derive a fault in some body
pub record IsFaulty (p : Program) : Type 0 where
  pub body : BodyId
  pub origin : Origin
  pub rule : Rule
  pub at : Pos
  pub names : Names
  pub faulty : Faulty p body (relation_of p body) origin rule at names

-- ---- the reports

-- the reports of each of the first `n` bodies
pub record HaveReports (p : Program) (n : ℕ) (reports : List (List Report)) : Type 0 where
  pub long : length reports ≡ n
  pub each : (i : ℕ) (xs : List Report) → IsAt reports i xs → HasReports p (body_id i) xs

-- the text of the reports of several bodies
abbrev pub all_reports_text : Program → List (List ℕ) → List (List Report) → List ℕ
all_reports_text p files reports = flat_map (reports_text p files) reports

-- the text is that of the reports of the first `n` bodies, which are so many
pub record IsReportTextOf (p : Program) (files : List (List ℕ)) (n count : ℕ) (text : List ℕ) : Type 0 where
  pub reports : List (List Report)
  pub has : HaveReports p n reports
  pub counted : count ≡ total_count reports
  pub few : count ≤ most_faults
  pub printed : text ≡ all_reports_text p files reports

-- The text is that of the reports of the program's faults, which are so many. Where several shortest paths lead to a fault, its
-- report shows any of them. `files` are the names of the files by their numbers.
abbrev pub IsReportText : Program → List (List ℕ) → ℕ → List ℕ → Type 0
IsReportText p files count text = IsReportTextOf p files (length p.bodies.items) count text

-- ---- why the faults of a program are not told

-- the first body that stops the check
pub record IsFirstStop (p : Program) (r : Refusal) : Type 0 where
  pub number : ℕ
  pub within : number < length p.bodies.items
  pub faults : List (List FaultAt)
  pub before : HaveFaults p number faults
  pub few : total_count faults ≤ most_faults
  pub stops : StopsCheck p (body_id number) (total_count faults) r

abbrev pub IsFaultStop : Program → Stop → Type 0
IsFaultStop p (stops.Refused r) = ⊥
IsFaultStop p (stops.TooMuch r) = IsFirstStop p r
IsFaultStop p stops.NoMemory = Unit {0}
