-- Paths as they are told: each step with the node at which it is taken, and what held of the object before it. Facts carry
-- the number of their origin.
use Rattle.std.specs.Prelude.{◌≡◌, ◌≤◌, ℕ, Option, Some, None, List, [], ◌∷◌, ◌++◌, map, length}
use Rattle.program_model.specs.declared.kinds.BodyId.{BodyId}
use Rattle.program_model.specs.declared.program.Program.{Program}
use Rattle.breadth_first.specs.Searches.{IsAt}
use Rattle.java_cfg.specs.declared.arc.Arc.{Arc}
use Rattle.control_actions.specs.declared.fact.Fact.{Fact}
use Rattle.control_actions.specs.declared.fact.Origin.{Origin}
use Rattle.flow_rules.specs.Numbering.{numbered}
use Rattle.flow_rules.specs.Paths.{IsPath, Relation, Taken}
use Rattle.flow_rules.specs.declared.path_step.PathStep.{PathStep}
use Rattle.reached_pairs.specs.Visited.{fact_in}
use Rattle.reached_pairs.specs.declared.visit.Source.{Source as Step}
use Rattle.reached_pairs.specs.declared.visit.Visit.{Visit}
use Rattle.reached_facts.specs.Nodes.{arcs_at}

abbrev pub told_fact : ℕ → Option Fact → Option Fact
told_fact m None = None
told_fact m (Some f) = Some (numbered m f)

-- the step of a path as it is told
abbrev pub told : ℕ → Taken ℕ → PathStep
told m t = record { node = t.control; pos = t.move.pos; action = t.move.action; edge = t.move.edge; fact = told_fact m t.fact }

-- the steps tell a path of the origin with the number to the node, with what is known there
pub record Tells (p : Program) (b : BodyId) (r : Relation ℕ) (o : Origin) (m : ℕ) (node : ℕ) (known : Option Fact) (steps : List PathStep) : Type 0 where
  pub path : List (Taken ℕ)
  pub is : IsPath p b r o path node known
  pub told : steps ≡ map (told m) path

-- The steps tell a path to the node with the fact, which carries the number of its origin in the list, and no path to it has
-- fewer steps.
pub record IsShortestPath (p : Program) (b : BodyId) (r : Relation ℕ) (origins : List Origin) (node : ℕ) (g : Fact) (steps : List PathStep) : Type 0 where
  pub origin : Origin
  pub fact : Fact
  pub at : IsAt origins g.origin origin
  pub is : numbered g.origin fact ≡ g
  pub tells : Tells p b r origin g.origin node (Some fact) steps
  pub least : (others : List (Taken ℕ)) → IsPath p b r origin others node (Some fact) → length steps ≤ length others

-- the step from a visit by an arc, where this is known
abbrev pub step_from : Visit → Arc → Option Fact → PathStep
step_from v a known = record { node = v.node; pos = a.pos; action = a.action; edge = a.edge; fact = known }

-- the step of a search as it is told
pub record IsToldStep (rows : List (List Arc)) (facts : List Fact) (visits : List Visit) (s : Step) (x : PathStep) : Type 0 where
  pub visit : Visit
  pub arc : Arc
  pub place : IsAt visits s.visit visit
  pub taken : IsAt (arcs_at rows visit.node) s.arc arc
  pub is : x ≡ step_from visit arc (fact_in facts visit.fact)

-- the steps of a search, the last one first, are told in the order in which they are taken
abbrev pub AreToldBack : List (List Arc) → List Fact → List Visit → List Step → List PathStep → Type 0
AreToldBack rows facts visits [] told = told ≡ []
AreToldBack rows facts visits (s ∷ back) told =
    (front : List PathStep) × ((x : PathStep) × ((told ≡ front ++ x ∷ []) × (IsToldStep rows facts visits s x × AreToldBack rows facts visits back front)))
