-- The facts of a region are those of the pairs that paths reach, and the pairs read through it are exactly those pairs.
use Rattle.std.specs.Prelude.{◌≡◌, ℕ, List}
use Rattle.program_model.specs.declared.kinds.BodyId.{BodyId}
use Rattle.program_model.specs.declared.program.Program.{Program}
use Rattle.reached_pairs.specs.Searches.{AreOnce, IsAt, Stands}
use Rattle.fact_pool.specs.declared.handle.Handle.{Handle}
use Rattle.control_actions.specs.declared.fact.Fact.{Fact}
use Rattle.control_actions.specs.declared.fact.Origin.{Origin}
use Rattle.body_origins.specs.Numbering.{numbered}
use Rattle.body_origins.specs.Paths.{Reach, Relation}

-- a path reaches the node with the fact, but for the number of its origin in the list
abbrev pub IsReachedFact : Program → BodyId → Relation ℕ → List Origin → ℕ → Fact → Type 0
IsReachedFact p b r origins node g =
    (o : Origin) × ((f : Fact) × (IsAt origins g.origin o × (Reach p b r o node f × (numbered g.origin f ≡ g))))

-- the pairs are those of a node and a fact that paths reach, where the list has the facts
pub record AreReachedPairs (p : Program) (b : BodyId) (r : Relation ℕ) (origins : List Origin) (facts : List Fact) (pairs : List (ℕ × Handle)) : Type 0 where
  -- each pair once
  pub once : AreOnce pairs
  -- each is reached
  pub only : (i : ℕ) (x : ℕ × Handle) → IsAt pairs i x → (g : Fact) × (IsAt facts x.1.0 g × IsReachedFact p b r origins x.0 g)
  -- all that are reached are there
  pub all : (node : ℕ) (g : Fact) → IsReachedFact p b r origins node g → (x : ℕ × Handle) × (Stands pairs x × ((x.0 ≡ node) × IsAt facts x.1.0 g))
  -- the list has the facts of the pairs, each once
  pub facts_once : AreOnce facts
  pub facts_used : (i : ℕ) (g : Fact) → IsAt facts i g → (x : ℕ × Handle) × (Stands pairs x × (x.1.0 ≡ i))
