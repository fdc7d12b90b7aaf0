-- The steps of the pair's node are those of its row.
use Rattle.std.proofs.Common.{◌∙◌, ◌<◌, arith, ap, sym, subst, length}
use Rattle.std.specs.Prelude.{slice_get}
use Rattle.breadth_first.specs.Searches.{IsAt}
use Rattle.java_cfg.specs.Contents.{arcs_of}
use Rattle.body_origins.specs.Nodes.{row_in}
use Rattle.flow_certs.proofs.StepLaws.{closed_by}
use Rattle.flow_certs.proofs.steps.is_closed.Goals as goal

pub are_steps_listed-requires-clause-small : goal.are_steps_listed-requires-clause-small
are_steps_listed-requires-clause-small c = λ i a at. c.requires.fits.small c.args.pair.now.node i a (subst (λ r. IsAt (row_in r) i a) (sym c.arcs.ensures) at)

pub returns-in-Some : goal.returns-in-Some
returns-in-Some c =
    let rows = arcs_of c.args.listed.now.graph.now in
    let below = c.if-pair-nodes.false in
    let nodes = c.nodes.ensures in
    let long = c.requires.long in
    let inside : c.args.pair.now.node < length rows = omega (arith, below, nodes, long) in
    closed_by c.args.listed.now.program.now c.args.listed.now.body rows c.args.listed.now.pairs.now.keys c.args.pair.now c.in-Some.origin.now c.arcs.result.now c.are_steps_listed.result inside
    (ap (λ os. slice_get os c.args.pair.now.origin) (sym c.requires.origins) ∙ sym c.in-Some.ensures.key) c.arcs.ensures c.are_steps_listed.ensures
