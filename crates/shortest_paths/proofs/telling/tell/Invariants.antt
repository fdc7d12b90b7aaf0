use Rattle.std.proofs.Common.{◌-◌, length, take}
use Rattle.std.specs.Prelude.{reverse}
use Rattle.fact_pool.specs.Regions.{list_of}
use Rattle.java_cfg.specs.Contents.{arcs_of}
use Rattle.shortest_paths.specs.Telling.{AreToldBack}
use Rattle.shortest_paths.proofs.telling.tell.Given as goal

abbrev pub invariant-each : goal.invariant-each
invariant-each l = AreToldBack (arcs_of l.graph) (list_of l.pool l.region) l.visits.visits.keys (reverse (take (length l.path.items) l.sources)) l.path.items

abbrev pub decreases-each : goal.decreases-each
decreases-each l = length l.sources - length l.path.items
