-- A body with a graph passes no limit on controls and places.
use Rattle.java_cfg.specs.Contents.{arcs_of, nodes_of}
use Rattle.java_cfg.proofs.SearchLemmas.{passed_on}
use Rattle.graph_limits.proofs.StepRooms.{fits_rows}
use Rattle.flow_certs.specs.Causes.{IsPartStop}
use Rattle.flow_certs.specs.Forms.{lines_of, pairs_in}
use Rattle.flow_certs.proofs.BodyLaws.{graph_stop, no_limit}
use Rattle.flow_certs.proofs.body.check_body.Goals as goal

pub check_over-requires-clause-fits : goal.check_over-requires-clause-fits
check_over-requires-clause-fits c = fits_rows c.args.p.now c.args.b (nodes_of c.in_ok-graph.graph) (arcs_of c.in_ok-graph.graph) c.in_ok-graph.ensures.graph c.in_ok-graph.ensures.places c.requires.fields c.requires.interests

pub check_over-requires-clause-small : goal.check_over-requires-clause-small
check_over-requires-clause-small c = no_limit c.args.p.now c.args.b c.in_ok-graph.ensures.small c.in_ok-graph.ensures.places

pub returns-in_err-graph-clause-cause : goal.returns-in_err-graph-clause-cause
returns-in_err-graph-clause-cause c =
    let pairs = pairs_in c.args.p.now c.args.b c.args.count (lines_of c.args.text.now) in
    passed_on c.from_residual.result c.in_err-graph.field-0.0 (IsPartStop c.args.p.now c.args.file c.args.b c.args.line pairs) c.from_residual.ensures.1
    (graph_stop c.args.p.now c.args.b c.args.file c.args.line pairs c.in_err-graph.field-0.0 c.in_err-graph.ensures.cause)
