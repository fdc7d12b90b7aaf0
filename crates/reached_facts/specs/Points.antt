-- The points to which a search through what is known at the nodes of a body's graph comes, in order.
use Rattle.std.specs.Prelude.{ℕ, suc, Option, Some, None, List, [], ◌∷◌, ◌++◌, position}
use Rattle.std.specs.List.{flat_map}
use Rattle.program_model.specs.declared.kinds.BodyId.{BodyId}
use Rattle.program_model.specs.declared.program.Program.{Program}
use Rattle.java_cfg.specs.declared.arc.Arc.{Arc}
use Rattle.control_actions.specs.declared.fact.Fact.{Fact}
use Rattle.control_actions.specs.declared.fact.Origin.{Origin}
use Rattle.control_actions.specs.declared.fact.Outcome.{Outcome}
use Rattle.control_actions.specs.declared.fact.Outcome.TheVariants.{Next, Gone, Fault}
use Rattle.body_origins.specs.Births.{Birth, births_at_entry}
use Rattle.body_origins.specs.Flow.{flow}
use Rattle.body_origins.specs.Numbering.{numbered}
use Rattle.reached_pairs.specs.declared.visit.Point.{Point}
use Rattle.reached_pairs.specs.declared.visit.Source.{Source as Step}
use Rattle.body_origins.specs.Origins.{arc_births, same_origin}

-- what each value of a list gives with its place, counted from the number
abbrev pub flat_from : {X Y : Type 0} → (ℕ → X → List Y) → ℕ → List X → List Y
flat_from f i [] = []
flat_from f i (x ∷ xs) = f i x ++ flat_from f (suc i) xs

abbrev pub point : ℕ → Option Fact → Option Step → Point Fact
point node f s = record { node = node; fact = f; source = s }

-- the step by the arc of that place from the visit of that place
abbrev pub step_at : ℕ → ℕ → Option Step
step_at visit i = Some (record { visit = visit; arc = i })

-- the first fact of a birth, where its origin has the number
abbrev pub birth_point : ℕ → Option Step → Birth → Option ℕ → List (Point Fact)
birth_point node s x None = []
birth_point node s x (Some n) = point node (Some (numbered n x.1)) s ∷ []

abbrev pub birth_points : List Origin → ℕ → Option Step → List Birth → List (Point Fact)
birth_points origins node s births = flat_map (λ (x : Birth). birth_point node s x (position (same_origin x.0) origins)) births

-- where nothing is followed yet, an arc leads on with nothing, and with each of its births
abbrev pub bare_points : Program → BodyId → List Origin → ℕ → ℕ → Arc → List (Point Fact)
bare_points p b origins visit i a = point a.to None (step_at visit i) ∷ birth_points origins a.to (step_at visit i) (arc_births p b a)

abbrev pub next_point : ℕ → Option Step → Outcome → List (Point Fact)
next_point node s (Next g) = point node (Some g) s ∷ []
next_point node s Gone = []
next_point node s (Fault rule names) = []

-- a fact goes on by the flow rules
abbrev pub fact_points : Program → BodyId → Origin → Fact → ℕ → ℕ → Arc → List (Point Fact)
fact_points p b o f visit i a = next_point a.to (step_at visit i) (flow p b o a.action a.edge f)

-- a body is entered with nothing, and with each birth
abbrev pub entry_points : Program → BodyId → List Origin → List (Point Fact)
entry_points p b origins = point 0 None None ∷ birth_points origins 0 None (births_at_entry p b)
