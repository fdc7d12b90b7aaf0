-- The origins of one node more are put in; where they are too many, so are the pairs.
use Rattle.std.proofs.Common.{◌∙◌, subst, sym}
use Rattle.std.specs.List.{flat_map}
use Rattle.reached_pairs.specs.Searches.{IsAt}
use Rattle.java_cfg.specs.Contents.{arcs_of}
use Rattle.flow_rules.specs.Births.{births_at_entry}
use Rattle.body_origins.specs.Nodes.{relation_in, row_in}
use Rattle.body_origins.specs.Origins.{row_births}
use Rattle.body_origins.specs.Pairs.{IsPairsCause}
use Rattle.body_origins.proofs.BornOrigins.{count_cause}
use Rattle.body_origins.proofs.OriginLaws.{entry_taken, many_nodes, many_none, none_left, nodes_taken, passed_on}
use Rattle.body_origins.proofs.origins.body_origins.Goals as goal

pub add_row-requires-clause-small : goal.add_row-requires-clause-small
add_row-requires-clause-small c = λ i a here. c.requires.fits.small c.each.node i a (subst (λ r. IsAt (row_in r) i a) (sym c.arcs.ensures) here)

pub add_row-requires-clause-few : goal.add_row-requires-clause-few
add_row-requires-clause-few c = λ i a here. c.requires.fits.few c.each.node i a (subst (λ r. IsAt (row_in r) i a) (sym c.arcs.ensures) here)

pub each-init : goal.each-init
each-init c = record {
  origins =
      entry_taken c.new-origins.result.keys c.add_origins.new.origins.keys c.deref.result.now (births_at_entry c.args.p.now c.args.b) (row_births c.args.p.now c.args.b) (arcs_of c.args.graph.now)
      (none_left c.new-origins.result.keys c.new-origins.ensures.len) (c.deref.ensures.value ∙ c.in_ok-births.ensures) c.in_ok-add_origins.ensures;
  few = c.in_ok-check_count.ensures.few;
}

pub each-preserved : goal.each-preserved
each-preserved c = record {
  origins =
      nodes_taken (row_births c.args.p.now c.args.b) (arcs_of c.args.graph.now) c.each.node c.arcs.result.now c.arcs.ensures (births_at_entry c.args.p.now c.args.b) c.each.origins.keys c.add_row.new.origins.keys
      c.each.invariant.origins c.in_ok-add_row.ensures;
  few = c.in_ok-check_count-2.ensures.few;
}

pub returns-in_err-check_count-clause-cause : goal.returns-in_err-check_count-clause-cause
returns-in_err-check_count-clause-cause c =
    let rows = arcs_of c.args.graph.now in
    let many =
    many_none c.new-origins.result.keys c.add_origins.new.origins.keys c.deref.result.now (births_at_entry c.args.p.now c.args.b) (flat_map (row_births c.args.p.now c.args.b) rows)
    (none_left c.new-origins.result.keys c.new-origins.ensures.len) (c.deref.ensures.value ∙ c.in_ok-births.ensures) c.in_ok-add_origins.ensures c.in_err-check_count.ensures.cause.1 in
    passed_on c.from_residual-in_err-check_count.result c.in_err-check_count.field-0.0 (IsPairsCause c.args.p.now c.args.b (relation_in rows) c.args.pos) c.from_residual-in_err-check_count.ensures.1
    (count_cause c.args.p.now c.args.b rows c.requires.nodes c.args.pos c.in_err-check_count.field-0.0 c.in_err-check_count.ensures.cause.0 many)

pub returns-in_err-check_count-2-clause-cause : goal.returns-in_err-check_count-2-clause-cause
returns-in_err-check_count-2-clause-cause c =
    let rows = arcs_of c.args.graph.now in
    let births = row_births c.args.p.now c.args.b in
    let entry = births_at_entry c.args.p.now c.args.b in
    let taken = nodes_taken births rows c.each.node c.arcs.result.now c.arcs.ensures entry c.each.origins.keys c.add_row.new.origins.keys c.each.invariant.origins c.in_ok-add_row.ensures in
    let many = many_nodes births rows c.each.node c.arcs.result.now c.arcs.ensures entry c.add_row.new.origins.keys taken c.in_err-check_count-2.ensures.cause.1 in
    passed_on c.from_residual-in_err-check_count-2.result c.in_err-check_count-2.field-0.0 (IsPairsCause c.args.p.now c.args.b (relation_in rows) c.args.pos) c.from_residual-in_err-check_count-2.ensures.1
    (count_cause c.args.p.now c.args.b rows c.requires.nodes c.args.pos c.in_err-check_count-2.field-0.0 c.in_err-check_count-2.ensures.cause.0 many)
