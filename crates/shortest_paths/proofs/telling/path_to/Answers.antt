-- The steps to the visit tell a shortest path.
use Rattle.std.proofs.Common.{◌∙◌, ap, arith, length, List, subst, sym}
use Rattle.std.specs.Prelude.{reverse}
use Rattle.std.proofs.lemmas.List.{length-reverse}
use Rattle.breadth_first.specs.Searches.{IsChain}
use Rattle.fact_pool.specs.Regions.{list_of}
use Rattle.java_cfg.specs.Contents.{arcs_of}
use Rattle.reached_pairs.specs.Trails.{IsBackToStart}
use Rattle.reached_pairs.specs.Visited.{fact_in, sources_in}
use Rattle.reached_pairs.specs.declared.visit.Source.{Source as Step}
use Rattle.shortest_paths.proofs.TellingLaws.{if_ok, sources_behind, sources_long, stands_reverse, step_place, tells_shortest, told_count}
use Rattle.shortest_paths.proofs.telling.path_to.Goals as goal

pub steps_to-requires-clause-within : goal.steps_to-requires-clause-within
steps_to-requires-clause-within c =
    let long =
    sources_long c.args.flow.now.program.now c.args.flow.now.body (arcs_of c.args.flow.now.graph.now) c.args.flow.now.origins.now.keys
    (list_of c.args.pool.now c.args.region.now) c.args.visits.now.visits.keys c.args.visits.now.pairs.items c.args.visits.now.sources.items c.requires.searched in
    let inside = c.requires.within in
    omega (arith, long, inside)

pub steps_to-requires-clause-behind : goal.steps_to-requires-clause-behind
steps_to-requires-clause-behind c =
    sources_behind c.args.flow.now.program.now c.args.flow.now.body (arcs_of c.args.flow.now.graph.now) c.args.flow.now.origins.now.keys
    (list_of c.args.pool.now c.args.region.now) c.args.visits.now.visits.keys c.args.visits.now.pairs.items c.args.visits.now.sources.items c.requires.searched

pub tell-requires-clause-places : goal.tell-requires-clause-places
tell-requires-clause-places c = λ i s here. (
    let trail = subst (λ (xs : List Step). IsBackToStart c.args.visits.now.sources.items (reverse xs) c.args.at) (sym c.deref.ensures.value) c.in_ok-steps.ensures.trail in
    let back = stands_reverse c.deref.result.now i s here in
    step_place c.args.flow.now.program.now c.args.flow.now.body (arcs_of c.args.flow.now.graph.now) c.args.flow.now.origins.now.keys
    (list_of c.args.pool.now c.args.region.now) c.args.visits.now.visits.keys c.args.visits.now.pairs.items c.args.visits.now.sources.items c.requires.searched
    (reverse c.deref.result.now) c.args.at back.0 s trail back.1)

pub returns : goal.returns
returns c =
    let trail = subst (λ (xs : List Step). IsBackToStart c.args.visits.now.sources.items (reverse xs) c.args.at) (sym c.deref.ensures.value) c.in_ok-steps.ensures.trail in
    let chain = subst (λ (xs : List Step). IsChain (sources_in c.args.visits.now.sources.items) (length xs) c.args.at) (sym c.deref.ensures.value) c.in_ok-steps.ensures.chain in
    if_ok c.tell.result _ _
    (λ v told x h g here fact_is read.
    tells_shortest c.args.flow.now.program.now c.args.flow.now.body (arcs_of c.args.flow.now.graph.now) c.args.flow.now.origins.now.keys
    (list_of c.args.pool.now c.args.region.now) c.args.visits.now.visits.keys c.args.visits.now.pairs.items c.args.visits.now.sources.items c.requires.searched
    (reverse c.deref.result.now) c.args.at (length c.deref.result.now) x g v.items trail here (sym (ap (fact_in (list_of c.args.pool.now c.args.region.now)) fact_is ∙ read)) told chain
    (told_count (arcs_of c.args.flow.now.graph.now) (list_of c.args.pool.now c.args.region.now) c.args.visits.now.visits.keys (reverse c.deref.result.now) v.items told ∙ length-reverse c.deref.result.now))
    c.tell.ensures
