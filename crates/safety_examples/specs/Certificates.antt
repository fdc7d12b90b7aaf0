-- Certificates: finitely many controls of a body, and facts at them, that the flow rules do not leave. Where they meet no fault, the
-- body has none.
use Rattle.std.specs.Prelude.{List, All, Contains}
use Rattle.program_model.specs.declared.kinds.BodyId.{BodyId}
use Rattle.program_model.specs.declared.program.Program.{Program}
use Rattle.control_actions.specs.declared.fact.Fact.{Fact}
use Rattle.control_actions.specs.declared.fact.Origin.{Origin}
use Rattle.control_actions.specs.declared.fact.Outcome.{Outcome}
use Rattle.control_actions.specs.declared.fact.Outcome.TheVariants.{Next, Gone, Fault}
use Rattle.soundness_laws.specs.Births.{Birth, births_at_entry, births_of_step}
use Rattle.soundness_laws.specs.Flow.{flow}
use Rattle.soundness_laws.specs.Paths.{Move, Relation}

-- a fact of an origin, at a control
pub record Placed (K : Type 0) : Type 0 where
  pub control : K
  pub origin : Origin
  pub fact : Fact

abbrev pub placed : {K : Type 0} → K → Origin → Fact → Placed K
placed k o f = record { control = k; origin = o; fact = f }

-- the facts have this birth at the control
abbrev pub IsListed : {K : Type 0} → List (Placed K) → K → Birth → Type 0
IsListed facts k birth = Contains facts (placed k birth.0 birth.1)

-- what becomes of a fact of the origin at the control `k` is one of the facts, and no fault
abbrev pub IsFollowed : {K : Type 0} → List (Placed K) → K → Origin → Outcome → Type 0
IsFollowed facts k o (Next f) = Contains facts (placed k o f)
IsFollowed facts k o Gone = Unit {0}
IsFollowed facts k o (Fault rule names) = ⊥

-- The controls and the facts at them have all that the body begins with, and all that a step makes of them.
pub record IsCertificate {K : Type 0} (p : Program) (b : BodyId) (r : Relation K) (controls : List K) (facts : List (Placed K)) : Type 0 where
  pub start : Contains controls r.start
  pub steps : All (λ k. All (λ (t : Move K). Contains controls t.to) (r.next k)) controls
  pub entry : All (IsListed facts r.start) (births_at_entry p b)
  pub births : All (λ k. All (λ (t : Move K). All (IsListed facts t.to) (births_of_step p b t.action t.edge t.pos)) (r.next k)) controls
  pub flows : All (λ (x : Placed K). All (λ (t : Move K). IsFollowed facts t.to x.origin (flow p b x.origin t.action t.edge x.fact)) (r.next x.control)) facts
