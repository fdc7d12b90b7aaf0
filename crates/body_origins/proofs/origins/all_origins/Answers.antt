-- The origins of one node more are put in.
use Rattle.std.proofs.Common.{◌≡◌, ◌∙◌, subst, sym}
use Rattle.reached_pairs.specs.Searches.{IsAt}
use Rattle.java_cfg.specs.Contents.{arcs_of}
use Rattle.flow_rules.specs.Births.{births_at_entry}
use Rattle.body_origins.specs.Nodes.{row_in}
use Rattle.body_origins.specs.Origins.{row_births}
use Rattle.body_origins.proofs.OriginLaws.{entry_taken, none_left, nodes_taken}
use Rattle.body_origins.proofs.origins.all_origins.Goals as goal

pub add_row-requires-clause-small : goal.add_row-requires-clause-small
add_row-requires-clause-small c = λ i a here. c.requires.fits.small c.each.node i a (subst (λ r. IsAt (row_in r) i a) (sym c.arcs.ensures) here)

pub add_row-requires-clause-few : goal.add_row-requires-clause-few
add_row-requires-clause-few c = λ i a here. c.requires.fits.few c.each.node i a (subst (λ r. IsAt (row_in r) i a) (sym c.arcs.ensures) here)

pub each-init : goal.each-init
each-init c =
    entry_taken c.new-origins.result.keys c.add_origins.new.origins.keys c.deref.result.now (births_at_entry c.args.p.now c.args.b) (row_births c.args.p.now c.args.b) (arcs_of c.args.graph.now)
    (none_left c.new-origins.result.keys c.new-origins.ensures.len) (c.deref.ensures.value ∙ c.in_ok-births.ensures) c.in_ok-add_origins.ensures

pub each-preserved : goal.each-preserved
each-preserved c =
    nodes_taken (row_births c.args.p.now c.args.b) (arcs_of c.args.graph.now) c.each.node c.arcs.result.now c.arcs.ensures (births_at_entry c.args.p.now c.args.b) c.each.origins.keys c.add_row.new.origins.keys c.each.invariant c.in_ok-add_row.ensures
