-- Steps that tell a path to a fault, step by step.
use Rattle.std.specs.Prelude.{◌≡◌, ℕ, true, Option, Some, None, List, [], ◌∷◌, map}
use Rattle.std.specs.FinSet as set
use Rattle.program_model.specs.declared.kinds.BodyId.{BodyId}
use Rattle.program_model.specs.declared.program.Program.{Program}
use Rattle.breadth_first.specs.Searches.{Stands}
use Rattle.java_cfg.specs.declared.arc.Arc.{Arc}
use Rattle.control_actions.specs.declared.fact.Fact.{Fact}
use Rattle.control_actions.specs.declared.fact.Origin.{Origin}
use Rattle.control_actions.specs.declared.fact.Outcome.TheVariants.{Next, Fault}
use Rattle.obligation_facts.specs.Facts.{Names}
use Rattle.flow_rules.specs.Births.{Birth, births_at_entry}
use Rattle.flow_rules.specs.Flow.{flow}
use Rattle.flow_rules.specs.Numbering.{numbered}
use Rattle.flow_rules.specs.Paths.{Taken}
use Rattle.flow_rules.specs.declared.path_step.PathStep.{PathStep}
use Rattle.obligation_paths.specs.Nodes.{arcs_at, relation_in}
use Rattle.obligation_paths.specs.Origins.{arc_births}
use Rattle.fault_order.specs.declared.fault.FaultAt.{FaultAt}
use Rattle.obligation_paths.specs.Telling.{told}
use Rattle.obligation_paths.specs.Paths.{IsPathTo}

-- The steps tell a path whose last step breaks the rule of the fault at its place, with no other missing names than those of
-- the fault. The facts of the steps carry one number.
pub record TellsPathTo (p : Program) (b : BodyId) (rows : List (List Arc)) (x : FaultAt) (steps : List PathStep) : Type 0 where
  pub number : ℕ
  pub path : List (Taken ℕ)
  pub told : steps ≡ map (told number) path
  pub names : Names
  pub is : IsPathTo p b (relation_in rows) x.origin x.rule x.at names path
  pub within : (n : ℕ) → set.contains names n ≡ true → set.contains x.missing n ≡ true

-- ---- the same, step by step

-- the fact is the first one of a birth of the origin, but for its number
abbrev pub IsFirstFact : List Birth → Origin → Fact → Type 0
IsFirstFact births o g = (f : Fact) × (Stands births (o, f) × (numbered g.origin f ≡ g))

-- what may be known at the entry of the body
abbrev pub CanEnter : Program → BodyId → Origin → Option Fact → Type 0
CanEnter p b o None = Unit {0}
CanEnter p b o (Some g) = IsFirstFact (births_at_entry p b) o g

-- what the step of an arc may make of what is known
abbrev pub CanBecome : Program → BodyId → Origin → Arc → Option Fact → Option Fact → Type 0
CanBecome p b o a None None = Unit {0}
CanBecome p b o a None (Some g) = IsFirstFact (arc_births p b a) o g
CanBecome p b o a (Some f) None = ⊥
CanBecome p b o a (Some f) (Some g) = flow p b o a.action a.edge f ≡ Next g

-- the step is told of the arc
abbrev pub IsStepOf : PathStep → Arc → Type 0
IsStepOf s a = (s.action ≡ a.action) × ((s.edge ≡ a.edge) × (s.pos ≡ a.pos))

-- the step leads to the node with what is known there
abbrev pub CanLead : Program → BodyId → List (List Arc) → Origin → PathStep → ℕ → Option Fact → Type 0
CanLead p b rows o s node known = (a : Arc) × (Stands (arcs_at rows s.node) a × (IsStepOf s a × ((node ≡ a.to) × CanBecome p b o a s.fact known)))

-- the step breaks the rule of the fault at its place
pub record CanBreak (p : Program) (b : BodyId) (rows : List (List Arc)) (x : FaultAt) (s : PathStep) : Type 0 where
  pub arc : Arc
  pub at : Stands (arcs_at rows s.node) arc
  pub step : IsStepOf s arc
  pub place : s.pos ≡ x.at
  pub fact : Fact
  pub known : s.fact ≡ Some fact
  pub names : Names
  pub breaks : flow p b x.origin arc.action arc.edge fact ≡ Fault x.rule names
  pub within : (n : ℕ) → set.contains names n ≡ true → set.contains x.missing n ≡ true

-- each step leads to the next one, and the last one breaks the rule
abbrev pub GoesOn : Program → BodyId → List (List Arc) → FaultAt → PathStep → List PathStep → Type 0
GoesOn p b rows x s [] = CanBreak p b rows x s
GoesOn p b rows x s (t ∷ steps) = CanLead p b rows x.origin s t.node t.fact × GoesOn p b rows x t steps

-- the steps go from the entry of the body to the fault
abbrev pub GoesTo : Program → BodyId → List (List Arc) → FaultAt → List PathStep → Type 0
GoesTo p b rows x [] = ⊥
GoesTo p b rows x (s ∷ steps) = (s.node ≡ 0) × (CanEnter p b x.origin s.fact × GoesOn p b rows x s steps)
