-- Parts of what a certificate has: births and steps that are among the pairs.
use Rattle.std.specs.Prelude.{ℕ, ◌<◌, Option, Some, None, List}
use Rattle.breadth_first.specs.Searches.{IsAt}
use Rattle.program_model.specs.declared.kinds.BodyId.{BodyId}
use Rattle.program_model.specs.declared.program.Program.{Program}
use Rattle.control_actions.specs.declared.fact.Fact.{Fact}
use Rattle.control_actions.specs.declared.fact.Origin.{Origin}
use Rattle.java_cfg.specs.declared.arc.Arc.{Arc}
use Rattle.body_origins.specs.Births.{Birth}
use Rattle.body_origins.specs.Flow.{flow}
use Rattle.body_origins.specs.Origins.{arc_births}
use Rattle.flow_certs.specs.declared.pair.Pair.{Pair}
use Rattle.flow_certs.specs.Certificates.{IsClosed, IsListed, Lists}

-- the births are among the pairs at the node
abbrev pub ListBirths : List Origin → List Pair → ℕ → List Birth → Type 0
ListBirths origins pairs node births = (n : ℕ) (x : Birth) → IsAt births n x → Lists origins pairs node x.0 x.1

-- so are the births of the arcs of a row, where the arcs lead
abbrev pub ListRowBirths : Program → BodyId → List Origin → List Pair → List Arc → Type 0
ListRowBirths p b origins pairs row = (i : ℕ) (a : Arc) → IsAt row i a → ListBirths origins pairs a.to (arc_births p b a)

-- what each arc of a row makes of the fact is among the pairs
abbrev pub AreStepsListed : Program → BodyId → List Pair → List Arc → ℕ → Origin → Fact → Type 0
AreStepsListed p b pairs row origin o f = (i : ℕ) (a : Arc) → IsAt row i a → IsListed pairs a.to origin (flow p b o a.action a.edge f)

-- the pairs before that place are closed
abbrev pub AreClosed : Program → BodyId → List (List Arc) → List Pair → List Pair → ℕ → Type 0
AreClosed p b rows pairs listed n = (i : ℕ) (x : Pair) → i < n → IsAt listed i x → IsClosed p b rows pairs x

-- the pair of that place is the first that is not closed, where there is one
abbrev pub IsFirstOpen : Program → BodyId → List (List Arc) → List Pair → List Pair → Option ℕ → Type 0
IsFirstOpen p b rows pairs listed None = (i : ℕ) (x : Pair) → IsAt listed i x → IsClosed p b rows pairs x
IsFirstOpen p b rows pairs listed (Some j) =
    AreClosed p b rows pairs listed j × ((x : Pair) × (IsAt listed j x × (IsClosed p b rows pairs x → ⊥)))
