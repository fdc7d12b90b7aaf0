-- The steps from the visits of a search that break a rule, in the order of the visits and of the arcs of their nodes.
use Rattle.std.specs.Prelude.{ℕ, Bool, Option, Some, None, List, [], ◌∷◌, if◌then◌else◌, slice_get}
use Rattle.std.specs.FinSet as set
use Rattle.rlc_base.specs.declared.place.Pos.{Pos}
use Rattle.program_model.specs.declared.kinds.BodyId.{BodyId}
use Rattle.program_model.specs.declared.program.Program.{Program}
use Rattle.java_cfg.specs.declared.arc.Arc.{Arc}
use Rattle.control_actions.specs.declared.fact.Fact.{Fact}
use Rattle.control_actions.specs.declared.fact.Origin.{Origin}
use Rattle.control_actions.specs.declared.fact.Outcome.{Outcome}
use Rattle.control_actions.specs.declared.fact.Outcome.TheVariants.{Next, Gone, Fault}
use Rattle.flow_rules.specs.Facts.{Names}
use Rattle.flow_rules.specs.Flow.{flow}
use Rattle.reached_pairs.specs.Visited.{fact_in}
use Rattle.reached_pairs.specs.declared.visit.Visit.{Visit}
use Rattle.reached_facts.specs.Nodes.{arcs_at}
use Rattle.reached_facts.specs.Points.{flat_from}
use Rattle.body_faults.specs.declared.breach.Breach.{Breach}
use Rattle.body_faults.specs.declared.breach.Breached.{Breached}
use Rattle.body_faults.specs.contracts.breach.BreachPartialEq.TheImpl as breach_eq

abbrev pub same_breach : Breach → Breach → Bool
same_breach = (breach_eq.ghosts).eq

-- a step that breaks a rule: the names that are missing, the place of its visit, and that of its arc among those of the node
pub record BrokenStep : Type 0 where
  pub breach : Breach
  pub names : Names
  pub visit : ℕ
  pub arc : ℕ

abbrev pub broken_step : Breach → Names → ℕ → ℕ → BrokenStep
broken_step breach names visit arc = record { breach = breach; names = names; visit = visit; arc = arc }

abbrev pub broken_in : ℕ → Pos → ℕ → ℕ → Outcome → List BrokenStep
broken_in origin at visit arc (Next g) = []
broken_in origin at visit arc Gone = []
broken_in origin at visit arc (Fault rule names) = broken_step (record { origin = origin; rule = rule; at = at }) names visit arc ∷ []

-- the step of an arc from a fact of the origin, where it breaks a rule
abbrev pub broken_by : Program → BodyId → Origin → Fact → ℕ → ℕ → Arc → List BrokenStep
broken_by p b o f visit i a = broken_in f.origin a.pos visit i (flow p b o a.action a.edge f)

abbrev pub broken_of : Program → BodyId → List Arc → ℕ → Fact → Option Origin → List BrokenStep
broken_of p b row visit f None = []
broken_of p b row visit f (Some o) = flat_from (broken_by p b o f visit) 0 row

-- nothing breaks a rule where nothing is followed
abbrev pub broken_with : Program → BodyId → List Arc → List Origin → ℕ → Option Fact → List BrokenStep
broken_with p b row origins visit None = []
broken_with p b row origins visit (Some f) = broken_of p b row visit f (slice_get origins f.origin)

abbrev pub broken_from : Program → BodyId → List (List Arc) → List Origin → List Fact → ℕ → Visit → List BrokenStep
broken_from p b rows origins facts k v = broken_with p b (arcs_at rows v.node) origins k (fact_in facts v.fact)

-- all steps that break a rule
abbrev pub all_broken : Program → BodyId → List (List Arc) → List Origin → List Fact → List Visit → List BrokenStep
all_broken p b rows origins facts visits = flat_from (broken_from p b rows origins facts) 0 visits

-- ---- what is known of the steps that break the same rule

abbrev pub joined : Option Breached → BrokenStep → Breached
joined None x = record { missing = x.names; visit = x.visit; arc = x.arc }
joined (Some y) x = record y { missing = set.union y.missing x.names }

-- joined with those steps that break the rule
abbrev pub joined_all : Breach → Option Breached → List BrokenStep → Option Breached
joined_all k known [] = known
joined_all k known (x ∷ xs) = joined_all k (if same_breach x.breach k then Some (joined known x) else known) xs
