-- A graph with few nodes leaves no more controls, and a limit on places comes behind that on controls.
use Rattle.rlc_base.specs.declared.code.Code.TheVariants as refused
use Rattle.std.proofs.Common.{ap, arith, length, subst, sym, ◌≤◌}
use Rattle.java_cfg.specs.Contents.{arcs_of, nodes_of}
use Rattle.java_cfg.specs.RowTests.{rows_of}
use Rattle.java_cfg.specs.Limits.{IsCause, refusal, too_many_places}
use Rattle.java_cfg.proofs.SearchLemmas.{graph_few}
use Rattle.java_cfg.proofs.build.build_graph.Goals as goal

pub returns-then-has_too_many_places-clause-cause : goal.returns-then-has_too_many_places-clause-cause
unfolding nodes_of arcs_of
returns-then-has_too_many_places-clause-cause c =
    let g = c.in_ok-graph.graph in
    let few : length g.numbers.keys ≤ 65536 = let small = g.few in let each = g.each in omega (arith, small, each) in
    subst (IsCause c.args.p.now c.args.b) (sym c.stop.ensures)
    (too_many_places (ap (refusal refused.TooManyPlaces) c.method_place-pos.ensures)
    (graph_few c.args.p.now c.args.b g.lists.cells.keys g.numbers.keys (rows_of g.rows.items) c.in_ok-graph.ensures.graph few)
    (c.has_too_many_places.ensures.0 c.if-has_too_many_places.true))

pub returns-clause-small : goal.returns-clause-small
unfolding nodes_of arcs_of
returns-clause-small c =
    let g = c.in_ok-graph.graph in
    let few : length g.numbers.keys ≤ 65536 = let small = g.few in let each = g.each in omega (arith, small, each) in
    graph_few c.args.p.now c.args.b g.lists.cells.keys g.numbers.keys (rows_of g.rows.items) c.in_ok-graph.ensures.graph few
