-- A body with a graph passes no limit on controls and places, and the region of the body is released.
use Rattle.obligation_flow.proofs.OriginLaws.{passed_on}
use Rattle.fact_pool.specs.Regions.{list_of}
use Rattle.program_faults.specs.BodyReports.{IsBodyStop}
use Rattle.program_faults.proofs.LimitLaws.{graph_stop, no_limit}
use Rattle.program_faults.proofs.PoolLaws.{released}
use Rattle.program_faults.proofs.body.check_body.Goals as goal

pub returns-in_err-graph-clause-cause : goal.returns-in_err-graph-clause-cause
returns-in_err-graph-clause-cause c =
    passed_on c.from_residual.result c.in_err-graph.field-0.0 (IsBodyStop c.args.p.now c.args.b c.args.before) c.from_residual.ensures.1
    (graph_stop c.args.p.now c.args.b c.args.before c.in_err-graph.field-0.0 c.in_err-graph.ensures.cause)

pub report_body-count-requires-clause-small : goal.report_body-count-requires-clause-small
report_body-count-requires-clause-small c = no_limit c.args.p.now c.args.b c.in_ok-graph.ensures.small c.in_ok-graph.ensures.places

pub returns-clause-lists : goal.returns-clause-lists
returns-clause-lists c =
    released c.args.pool.now c.begin.new.self c.report_body-count.new.pool c.release.new.self c.in_ok-region.region (list_of c.report_body-count.new.pool c.in_ok-region.region)
    c.in_ok-region.ensures.fresh c.in_ok-region.ensures.lists c.report_body-count.ensures.others c.release.ensures.lists
