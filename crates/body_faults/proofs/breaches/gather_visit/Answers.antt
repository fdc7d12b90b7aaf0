-- What a visit has is reached: its node is one of the graph, and the origin of its fact has a number.
use Rattle.std.proofs.Common.{◌∙◌, arith, ap, length, refl, Some, List, subst, sym}
use Rattle.std.proofs.lemmas.Option.{slice_get_within}
use Rattle.breadth_first.specs.Searches.{IsAt}
use Rattle.fact_pool.specs.Regions.{list_of}
use Rattle.reached_facts.proofs.SearchedLaws.{visit_reached}
use Rattle.java_cfg.specs.Contents.{arcs_of}
use Rattle.java_cfg.specs.declared.arc.Arc.{Arc}
use Rattle.reached_pairs.specs.Visited.{fact_in}
use Rattle.reached_facts.specs.Nodes.{row_in}
use Rattle.reached_facts.specs.Steps.{Begins, Leads}
use Rattle.reached_facts.proofs.PathLaws.{walk_known, walk_within}
use Rattle.body_faults.proofs.breaches.gather_visit.Goals as goal

pub arcs-row-requires : goal.arcs-row-requires
arcs-row-requires c =
    let p = c.args.flow.now.program.now in
    let b = c.args.flow.now.body in
    let rows = arcs_of c.args.flow.now.graph.now in
    let origins = c.args.flow.now.origins.now.keys in
    let facts = list_of c.args.pool.now c.args.region.now in
    let v = c.visit-visit.result in
    let walk =
    visit_reached (Begins p b origins) (Leads p b rows origins) facts c.args.visits.now.visits.keys c.args.visits.now.pairs.items c.args.visits.now.sources.items (length c.args.visits.now.visits.keys) c.requires.searched
    c.args.at v (fact_in facts v.fact) c.visit-visit.ensures refl in
    let inside = walk_within p b rows origins c.requires.ready.graph walk.0 v.node (fact_in facts v.fact) walk.1 in
    let long = c.requires.ready.long in
    omega (arith, inside, long)

pub index-origin-requires : goal.index-origin-requires
index-origin-requires c =
    let p = c.args.flow.now.program.now in
    let b = c.args.flow.now.body in
    let rows = arcs_of c.args.flow.now.graph.now in
    let origins = c.args.flow.now.origins.now.keys in
    let facts = list_of c.args.pool.now c.args.region.now in
    let v = c.visit-visit.result in
    let walk =
    visit_reached (Begins p b origins) (Leads p b rows origins) facts c.args.visits.now.visits.keys c.args.visits.now.pairs.items c.args.visits.now.sources.items (length c.args.visits.now.visits.keys) c.requires.searched
    c.args.at v (Some c.get-fact.result) c.visit-visit.ensures (sym (ap (fact_in facts) c.in-Some.is ∙ c.get-fact.ensures.value)) in
    let known = walk_known p b rows origins walk.0 v.node c.get-fact.result walk.1 in
    slice_get_within origins c.get-fact.result.origin known.origin known.at

pub gather_row-requires-clause-small : goal.gather_row-requires-clause-small
gather_row-requires-clause-small c = λ i a here. c.requires.ready.fits.small c.visit-visit.result.node i a (subst (λ (r : List Arc). IsAt r i a) (sym (ap row_in c.arcs-row.ensures)) here)
