-- The graph is one of nodes, and each origin is listed once.
use Rattle.std.proofs.Common.{◌≡◌, ◌≤◌, List, length, subst, sym}
use Rattle.program_model.specs.declared.kinds.BodyId.{BodyId}
use Rattle.program_model.specs.declared.program.Program.{Program}
use Rattle.breadth_first.specs.Searches.{AreOnce}
use Rattle.java_cfg.specs.Graphs.{IsGraphOf}
use Rattle.java_cfg.specs.declared.arc.Arc.{Arc}
use Rattle.control_actions.specs.Remaining.{Todo}
use Rattle.control_actions.specs.declared.fact.Origin.{Origin}
use Rattle.body_origins.specs.Nodes.{FitsRows}
use Rattle.body_origins.specs.Origins.{births_in, origins_in, origins_of}
use Rattle.body_origins.proofs.BornOrigins.{origins_once}
use Rattle.graph_relation.proofs.NodeLaws.{graph_nodes}
use Rattle.reached_facts.specs.Steps.{IsReady}

-- the graph of a body and its origins are ready for the search
pub graph_ready : (p : Program) (b : BodyId) (nodes : List (List Todo)) (rows : List (List Arc)) (origins : List Origin) → FitsRows p b rows → IsGraphOf p b nodes rows
    → origins ≡ origins_of p b rows → length origins ≤ 1000000 → IsReady p b nodes rows origins
graph_ready p b nodes rows origins fits graph is few = record {
  fits = fits;
  graph = graph_nodes p b nodes rows graph;
  long = graph.rows_long;
  once = subst (λ (os : List Origin). AreOnce os) (sym is) (origins_once (origins_in (births_in p b rows)));
  few = few;
}
