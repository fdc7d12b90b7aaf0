-- What was gathered from all steps are the rules that paths break.
use Rattle.std.proofs.Common.{List, subst, sym}
use Rattle.fact_pool.specs.Regions.{list_of}
use Rattle.java_cfg.specs.Contents.{arcs_of}
use Rattle.reached_facts.proofs.ListPoints.{if_ok}
use Rattle.body_faults.specs.Breaches.{AreBreaches}
use Rattle.body_faults.specs.declared.breach.Breach.{Breach}
use Rattle.body_faults.specs.declared.breach.Breached.{Breached}
use Rattle.body_faults.proofs.BreachLaws.{gathered_breaches}
use Rattle.body_faults.proofs.breaches.body_breaches.Goals as goal

pub returns : goal.returns
returns c =
    let p = c.args.flow.now.program.now in
    let b = c.args.flow.now.body in
    let rows = arcs_of c.args.flow.now.graph.now in
    let origins = c.args.flow.now.origins.now.keys in
    let facts = list_of c.args.pool.now c.args.region.now in
    let visits = c.args.visits.now.visits.keys in
    if_ok c.list_breaches.result _ _
    (λ v is. subst (λ (xs : List (Breach × Breached)). AreBreaches p b rows origins facts visits xs) (sym is)
    (gathered_breaches p b rows origins facts visits c.args.visits.now.pairs.items c.args.visits.now.sources.items c.requires.searched c.requires.origins
    c.in_ok-found.found c.list_breaches.ensures.unique c.in_ok-found.ensures c.requires.ready.once)) c.list_breaches.ensures.items
