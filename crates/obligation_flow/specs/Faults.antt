-- The faults of a body: one for each origin, rule and place of which some path breaks the rule, with all names that are
-- missing on some such path, in the order of reports.
use Rattle.std.specs.Prelude.{◌≡◌, ◌↔◌, ℕ, true, List}
use Rattle.std.specs.FinSet as set
use Rattle.std.specs.List.Sorted.{IsNonDecreasingBy}
use Rattle.rlc_base.specs.declared.place.Pos.{Pos}
use Rattle.program_model.specs.declared.kinds.BodyId.{BodyId}
use Rattle.program_model.specs.declared.program.Program.{Program}
use Rattle.breadth_first.specs.Searches.{IsAt, Stands}
use Rattle.control_actions.specs.declared.fact.Origin.{Origin}
use Rattle.control_actions.specs.declared.fact.Rule.{Rule}
use Rattle.flow_rules.specs.Facts.{Names}
use Rattle.flow_rules.specs.Paths.{Faulty, Relation}
use Rattle.body_faults.specs.declared.breach.Breach.{Breach}
use Rattle.body_faults.specs.declared.breach.Breached.{Breached}
use Rattle.fault_order.specs.Order.{order_number}
use Rattle.fault_order.specs.declared.fault.FaultAt.{FaultAt}
use Rattle.obligation_flow.specs.declared.faults.TracedFault.{TracedFault}

abbrev pub breach_of : TracedFault → Breach × Breached
breach_of t = (t.breach, t.breached)

abbrev pub fault_of : TracedFault → FaultAt
fault_of t = record { rule = t.breach.rule; at = t.breach.at; origin = t.origin; missing = t.breached.missing }

abbrev pub order_of : TracedFault → ℕ
order_of t = order_number (fault_of t)

-- each fault has the origin with its number
abbrev pub AreNamed : List Origin → List TracedFault → Type 0
AreNamed origins faults = (i : ℕ) (t : TracedFault) → IsAt faults i t → IsAt origins t.breach.origin t.origin

-- the faults of a body, in their order
pub record AreFaultsOf {K : Type 0} (p : Program) (b : BodyId) (r : Relation K) (faults : List FaultAt) : Type 0 where
  -- each is derived
  pub derived : (i : ℕ) (x : FaultAt) → IsAt faults i x → (names : Names) × Faulty p b r x.origin x.rule x.at names
  -- its names are those that are missing on some path
  pub missing : (i n : ℕ) (x : FaultAt) → IsAt faults i x
      → (set.contains x.missing n ≡ true) ↔ ((names : Names) × (Faulty p b r x.origin x.rule x.at names × (set.contains names n ≡ true)))
  -- all that are derived are there
  pub all : (o : Origin) (rule : Rule) (at : Pos) (names : Names) → Faulty p b r o rule at names
      → (x : FaultAt) × (Stands faults x × ((x.origin ≡ o) × ((x.rule ≡ rule) × (x.at ≡ at))))
  -- each once
  pub once : (i j : ℕ) (x y : FaultAt) → IsAt faults i x → IsAt faults j y → x.origin ≡ y.origin → x.rule ≡ y.rule → x.at ≡ y.at → i ≡ j
  pub sorted : IsNonDecreasingBy order_number faults
