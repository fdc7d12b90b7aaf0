-- The steps from one visit more are joined.
use Rattle.std.proofs.Common.{◌+◌, arith, take}
use Rattle.breadth_first.proofs.ListLaws.{at_place}
use Rattle.fact_pool.specs.Regions.{list_of}
use Rattle.java_cfg.specs.Contents.{arcs_of}
use Rattle.reached_facts.specs.Points.{flat_from}
use Rattle.reached_facts.proofs.ListPoints.{from_more}
use Rattle.body_faults.specs.Broken.{broken_from}
use Rattle.body_faults.proofs.JoinLaws.{has_more}
use Rattle.body_faults.proofs.breaches.gather_all.Goals as goal

pub visits-preserved : goal.visits-preserved
visits-preserved c =
    let facts = list_of c.args.pool.now c.args.region.now in
    let visits = c.args.visits.now.visits.keys in
    let f = broken_from c.args.flow.now.program.now c.args.flow.now.body (arcs_of c.args.flow.now.graph.now) c.args.flow.now.origins.now.keys facts in
    let inside = c.visits-test.true in
    let count = c.count-at-end.ensures.count in
    let v = at_place visits c.visits.at (omega (arith, inside, count)) in
    has_more c.visits.found c.gather_visit.new.found (flat_from f 0 (take c.visits.at visits)) (f c.visits.at v.0) (flat_from f 0 (take (c.visits.at + 1) visits))
    c.visits.invariant (c.in_ok-gather_visit.ensures v.0 v.1) (from_more f c.visits.at visits v.0 v.1)
