-- The search goes on from one number more, or stops.
use Rattle.std.proofs.Common.{◌≡◌, ◌∙◌, ap, arith, length}
use Rattle.std.specs.Prelude.{slice_get}
use Rattle.java_cfg.specs.Contents.{arcs_of, nodes_of}
use Rattle.java_cfg.specs.Limits.{IsSearchCause}
use Rattle.java_cfg.proofs.NumberLemmas.{cells_once}
use Rattle.java_cfg.proofs.SearchLemmas.{passed_on, search_all, search_cause, search_next}
use Rattle.java_cfg.proofs.build.explore.Goals as goal

pub returns-in_err-row-clause-cause : goal.returns-in_err-row-clause-cause
returns-in_err-row-clause-cause c =
    let place : length c.nodes.rows.items ≡ c.len-in-nodes-2.result = omega arith in
    passed_on c.from_residual-in_err-row.result c.in_err-row.field-0.0 (IsSearchCause c.args.p.now c.args.b c.args.pos) c.from_residual-in_err-row.ensures.1
    (search_cause c.args.p.now c.args.b c.nodes.lists.cells.keys c.next.new.lists.cells.keys c.nodes.numbers.keys c.link.new.numbers.keys c.nodes.rows.items
    c.in_ok-steps.steps.items c.deref.result.now c.index-at.result.now c.args.pos c.in_err-row.field-0.0
    c.nodes.invariant c.next.ensures.kept (ap (slice_get c.nodes.numbers.keys) place ∙ c.index-at.ensures) c.in_ok-steps.ensures.steps c.in_ok-steps.ensures.within c.deref.ensures.value
    c.link.ensures.grows c.link.ensures.once c.next.new.lists.ordered (cells_once _ c.len-count.ensures.unique) c.in_err-row.ensures.cause)

pub nodes-preserved : goal.nodes-preserved
nodes-preserved c =
    let place : length c.nodes.rows.items ≡ c.len-in-nodes-2.result = omega arith in
    search_next c.args.p.now c.args.b c.nodes.lists.cells.keys c.next.new.lists.cells.keys c.nodes.numbers.keys c.link.new.numbers.keys c.nodes.rows.items c.push.new.self.items c.in_ok-row.row
    c.in_ok-steps.steps.items c.deref.result.now c.index-at.result.now
    c.nodes.invariant c.next.ensures.kept (ap (slice_get c.nodes.numbers.keys) place ∙ c.index-at.ensures) c.in_ok-steps.ensures.steps c.in_ok-steps.ensures.within c.deref.ensures.value
    c.link.ensures.grows c.link.ensures.once c.in_ok-row.ensures.arcs c.in_ok-row.ensures.order c.in_ok-row.ensures.count c.in_ok-row.ensures.few c.in_ok-push.ensures.items

pub returns-clause-graph : goal.returns-clause-graph
unfolding nodes_of arcs_of
returns-clause-graph c =
    search_all c.args.p.now c.args.b c.nodes.lists.cells.keys c.nodes.numbers.keys c.nodes.rows.items c.nodes.invariant c.nodes.lists.ordered (cells_once _ c.len-count-2.ensures.unique) (omega arith)
