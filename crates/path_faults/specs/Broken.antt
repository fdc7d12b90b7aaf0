-- Rules that are broken at visits.
use Rattle.std.specs.Prelude.{◌≡◌, ℕ, Some, List}
use Rattle.rlc_base.specs.declared.place.Pos.{Pos}
use Rattle.program_model.specs.declared.kinds.BodyId.{BodyId}
use Rattle.program_model.specs.declared.program.Program.{Program}
use Rattle.breadth_first.specs.Searches.{IsAt}
use Rattle.java_cfg.specs.declared.arc.Arc.{Arc}
use Rattle.control_actions.specs.declared.fact.Fact.{Fact}
use Rattle.control_actions.specs.declared.fact.Origin.{Origin}
use Rattle.control_actions.specs.declared.fact.Outcome.TheVariants.{Fault}
use Rattle.control_actions.specs.declared.fact.Rule.{Rule}
use Rattle.java_cfg.specs.Facts.{Names}
use Rattle.shortest_paths.specs.Flow.{flow}
use Rattle.reached_pairs.specs.Visited.{fact_in}
use Rattle.reached_pairs.specs.declared.visit.Visit.{Visit}
use Rattle.shortest_paths.specs.Nodes.{arcs_at}

-- an arc of the node of the visit breaks the rule for the visit's fact, whose origin has this number; these names are missing
pub record IsBroken (p : Program) (b : BodyId) (rows : List (List Arc)) (origins : List Origin) (facts : List Fact) (v : Visit) (i : ℕ) (m : ℕ) (rule : Rule) (at : Pos) (names : Names) : Type 0 where
  pub fact : Fact
  pub read : fact_in facts v.fact ≡ Some fact
  pub number : fact.origin ≡ m
  pub origin : Origin
  pub numbered : IsAt origins m origin
  pub arc : Arc
  pub taken : IsAt (arcs_at rows v.node) i arc
  pub breaks : flow p b origin arc.action arc.edge fact ≡ Fault rule names
  pub place : arc.pos ≡ at
