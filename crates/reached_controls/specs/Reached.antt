-- The pairs of a control and a fact that paths of controls reach.
use Rattle.std.specs.Prelude.{◌≡◌, ℕ, List}
use Rattle.program_model.specs.declared.kinds.BodyId.{BodyId}
use Rattle.program_model.specs.declared.program.Program.{Program}
use Rattle.breadth_first.specs.Searches.{AreOnce, IsAt, Stands}
use Rattle.fact_pool.specs.declared.handle.Handle.{Handle}
use Rattle.control_actions.specs.Remaining.{Todo}
use Rattle.control_actions.specs.declared.fact.Fact.{Fact}
use Rattle.control_actions.specs.declared.fact.Origin.{Origin}
use Rattle.reached_facts.specs.Numbering.{numbered}
use Rattle.graph_relation.specs.Paths.{Reach, relation_of}

-- a path reaches the control with the fact, but for the number of its origin in the list
abbrev pub IsReachedAt : Program → BodyId → List Origin → List Todo → Fact → Type 0
IsReachedAt p b origins control g =
    (o : Origin) × ((f : Fact) × (IsAt origins g.origin o × (Reach p b (relation_of p b) o control f × (numbered g.origin f ≡ g))))

-- The pairs, read through the nodes of a graph and a list of facts, are those of a control and a fact that paths reach.
pub record AreReachedControls (p : Program) (b : BodyId) (nodes : List (List Todo)) (origins : List Origin) (facts : List Fact) (pairs : List (ℕ × Handle)) : Type 0 where
  -- each pair once
  pub once : AreOnce pairs
  -- each is reached
  pub only : (i : ℕ) (x : ℕ × Handle) → IsAt pairs i x → (control : List Todo) × ((g : Fact) × (IsAt nodes x.0 control × (IsAt facts x.1.0 g × IsReachedAt p b origins control g)))
  -- all that are reached are there
  pub all : (control : List Todo) (g : Fact) → IsReachedAt p b origins control g → (x : ℕ × Handle) × (Stands pairs x × (IsAt nodes x.0 control × IsAt facts x.1.0 g))
  -- the list has the facts of the pairs, each once
  pub facts_once : AreOnce facts
  pub facts_used : (i : ℕ) (g : Fact) → IsAt facts i g → (x : ℕ × Handle) × (Stands pairs x × (x.1.0 ≡ i))
