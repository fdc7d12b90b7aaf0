use Rattle.std.proofs.Common.{take}
use Rattle.fact_pool.specs.Regions.{list_of}
use Rattle.java_cfg.specs.Contents.{arcs_of}
use Rattle.body_faults.specs.Breaches.{HasGathered}
use Rattle.body_faults.specs.Broken.{all_broken}
use Rattle.body_faults.proofs.breaches.gather_all.Given as goal

abbrev pub invariant-visits : goal.invariant-visits
invariant-visits l =
    HasGathered l.found (all_broken l.flow.program.now l.flow.body (arcs_of l.flow.graph.now) l.flow.origins.now.keys (list_of l.pool l.region) (take l.at l.visits.visits.keys))
