-- The path to the visit, with the step that breaks the rule, is a shortest one.
use Rattle.std.proofs.Common.{◌∙◌, ap, subst}
use Rattle.breadth_first.specs.Searches.{IsAt}
use Rattle.breadth_first.proofs.ListLaws.{at_same, at_within}
use Rattle.fact_pool.specs.Regions.{list_of}
use Rattle.java_cfg.specs.Contents.{arcs_of}
use Rattle.reached_pairs.specs.declared.visit.Visit.{Visit}
use Rattle.graph_relation.specs.Nodes.{arcs_at}
use Rattle.shortest_paths.specs.Telling.{step_from}
use Rattle.obligation_paths.proofs.BreakingLaws.{tells_first}
use Rattle.obligation_paths.proofs.breaking.breaking_path.Goals as goal

pub path_to-requires-clause-within : goal.path_to-requires-clause-within
path_to-requires-clause-within c = let first = c.requires.first.1 in at_within c.args.visits.now.visits.keys c.args.step.now.visit first.visit first.place

pub visit-visit-requires : goal.visit-visit-requires
visit-visit-requires c = let first = c.requires.first.1 in at_within c.args.visits.now.visits.keys c.args.step.now.visit first.visit first.place

pub fact_of-known-requires : goal.fact_of-known-requires
fact_of-known-requires c = λ q is. c.requires.searched.held.handles c.args.step.now.visit c.visit-visit.result q c.visit-visit.ensures is

pub step_from-requires-clause-arc : goal.step_from-requires-clause-arc
step_from-requires-clause-arc c =
    let first = c.requires.first.1 in
    let same = at_same c.args.visits.now.visits.keys c.args.step.now.visit first.visit c.visit-visit.result first.place c.visit-visit.ensures in
    (first.breaks.arc, subst (λ (v : Visit). IsAt (arcs_at (arcs_of c.args.flow.now.graph.now) v.node) c.args.step.now.arc first.breaks.arc) same first.breaks.taken)

pub returns : goal.returns
returns c = λ x o at first. (
    let last = c.step_from.ensures in
    tells_first c.args.flow.now.program.now c.args.flow.now.body (arcs_of c.args.flow.now.graph.now) c.args.flow.now.origins.now.keys
    (list_of c.args.pool.now c.args.region.now) c.args.visits.now.visits.keys c.args.visits.now.pairs.items c.args.visits.now.sources.items c.requires.searched
    x c.args.step.now o at first c.in_ok-path.path.items c.in_ok-path.ensures c.step_from.result c.push.new.self.items
    (record { visit = c.visit-visit.result; arc = last.0; place = c.visit-visit.ensures; taken = last.1.0; is = last.1.1 ∙ ap (step_from c.visit-visit.result last.0) c.fact_of-known.ensures })
    c.in_ok-push.ensures.items)
