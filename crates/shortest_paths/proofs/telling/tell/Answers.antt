-- One step more is told.
use Rattle.std.proofs.Common.{◌∙◌, ap, arith, length, List, subst, sym, take}
use Rattle.std.specs.Prelude.{reverse}
use Rattle.std.proofs.lemmas.Option.{slice_get_within}
use Rattle.fact_pool.specs.Regions.{list_of}
use Rattle.flow_rules.specs.declared.path_step.PathStep.{PathStep}
use Rattle.java_cfg.specs.Contents.{arcs_of}
use Rattle.shortest_paths.specs.Telling.{AreToldBack}
use Rattle.shortest_paths.proofs.TellingLaws.{length_push, told_all, told_next, told_none}
use Rattle.shortest_paths.proofs.telling.tell.Goals as goal

pub each-init : goal.each-init
each-init c =
    subst (λ (q : List PathStep). AreToldBack (arcs_of c.args.graph.now) (list_of c.args.pool.now c.args.region.now) c.args.visits.now.visits.keys (reverse (take (length q) c.args.sources.now)) q)
    (sym c.new-path.ensures.items) (told_none (arcs_of c.args.graph.now) (list_of c.args.pool.now c.args.region.now) c.args.visits.now.visits.keys c.args.sources.now)

pub step_of-requires-clause-place : goal.step_of-requires-clause-place
step_of-requires-clause-place c = c.requires.places (length c.each.path.items) c.in-Some.source (sym c.in-Some.ensures)

pub each-smaller : goal.each-smaller
each-smaller c =
    let inside = slice_get_within c.args.sources.now (length c.each.path.items) c.in-Some.source (sym c.in-Some.ensures) in
    let size = ap length c.in_ok-push.ensures.items ∙ length_push c.each.path.items c.step_of.result in
    omega (arith, inside, size)

pub each-preserved : goal.each-preserved
each-preserved c =
    told_next (arcs_of c.args.graph.now) (list_of c.args.pool.now c.args.region.now) c.args.visits.now.visits.keys c.args.sources.now c.in-Some.source c.each.path.items c.push.new.self.items c.step_of.result
    (sym c.in-Some.ensures) c.each.invariant c.step_of.ensures c.in_ok-push.ensures.items

pub returns : goal.returns
returns c =
    told_all (arcs_of c.args.graph.now) (list_of c.args.pool.now c.args.region.now) c.args.visits.now.visits.keys c.args.sources.now c.each.path.items
    (sym c.next_source.ensures ∙ c.in_default.is) c.each.invariant
