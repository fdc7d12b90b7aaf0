-- A body with a graph passes no limit on controls and places.
use Rattle.obligation_flow.proofs.OriginLaws.{passed_on}
use Rattle.program_faults.specs.BodyReports.{IsBodyStop}
use Rattle.program_faults.proofs.LimitLaws.{graph_stop, no_limit}
use Rattle.certificates.proofs.bodies.put_body.Goals as goal

pub returns-in_err-graph-clause-cause : goal.returns-in_err-graph-clause-cause
returns-in_err-graph-clause-cause c =
    passed_on c.from_residual.result c.in_err-graph.field-0.0 (IsBodyStop c.args.p.now c.args.b 0) c.from_residual.ensures.1
    (graph_stop c.args.p.now c.args.b 0 c.in_err-graph.field-0.0 c.in_err-graph.ensures.cause)

pub put_walked-verdict-requires-clause-small : goal.put_walked-verdict-requires-clause-small
put_walked-verdict-requires-clause-small c = no_limit c.args.p.now c.args.b c.in_ok-graph.ensures.small c.in_ok-graph.ensures.places
