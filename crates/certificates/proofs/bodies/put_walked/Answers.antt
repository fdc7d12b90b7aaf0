-- The trace of the body has its faults; where there is none, its pairs are put.
use Rattle.std.proofs.Common.{◌≡◌, ◌<◌, arith, length}
use Rattle.breadth_first.proofs.ListLaws.{at_within}
use Rattle.java_cfg.specs.Contents.{arcs_of, nodes_of}
use Rattle.graph_limits.proofs.StepRooms.{fits_rows}
use Rattle.obligation_flow.proofs.OriginLaws.{passed_on}
use Rattle.obligation_flow.specs.Traces.{faults_of}
use Rattle.program_faults.proofs.LimitLaws.{has_faults, pairs_stop}
use Rattle.program_faults.specs.BodyReports.{IsBodyStop}
use Rattle.certificates.proofs.VerdictLaws.{has_none, is_faulty}
use Rattle.certificates.proofs.bodies.put_walked.Goals as goal

pub check_into-requires-clause-fits : goal.check_into-requires-clause-fits
check_into-requires-clause-fits c = fits_rows c.args.p.now c.args.b (nodes_of c.args.graph.now) (arcs_of c.args.graph.now) c.requires.graph c.requires.places c.requires.fields c.requires.interests

pub returns-in_err-trace-clause-cause : goal.returns-in_err-trace-clause-cause
returns-in_err-trace-clause-cause c =
    passed_on c.from_residual.result c.in_err-trace.field-0.0 (IsBodyStop c.args.p.now c.args.b 0) c.from_residual.ensures.1
    (pairs_stop c.args.p.now c.args.b (nodes_of c.args.graph.now) (arcs_of c.args.graph.now) c.requires.graph 0 c.in_err-trace.field-0.0 c.requires.small c.in_err-trace.ensures.cause)

pub returns-then-count-gt0-clause-verdict : goal.returns-then-count-gt0-clause-verdict
returns-then-count-gt0-clause-verdict c =
    let counted = c.count.ensures in
    let more = c.if-count-gt0.true in
    let some : 0 < length (faults_of c.in_ok-trace.trace) = omega (arith, counted, more) in
    is_faulty c.args.p.now c.args.b (faults_of c.in_ok-trace.trace) c.in_ok-trace.ensures.faults some

pub returns-clause-verdict : goal.returns-clause-verdict
returns-clause-verdict c =
    let has = has_faults c.args.p.now c.args.b (nodes_of c.args.graph.now) (arcs_of c.args.graph.now) c.requires.graph (faults_of c.in_ok-trace.trace) c.requires.small c.in_ok-trace.ensures.few c.in_ok-trace.ensures.faults in
    let counted = c.count.ensures in
    let few = c.if-count-gt0.false in
    let none : length (faults_of c.in_ok-trace.trace) ≡ 0 = omega (arith, counted, few) in
    has_none c.args.p.now c.args.b (faults_of c.in_ok-trace.trace) has none

pub pair_lines-requires : goal.pair_lines-requires
pair_lines-requires c = λ i x here.
    let found = c.in_ok-trace.ensures.pairs.only i x (rw c.pairs.ensures at here) in
    at_within _ x.1.0 found.0 found.1.0
