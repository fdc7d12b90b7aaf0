-- The trace of the body has its faults; where there is none, or its faults are too many, the check stops.
use Rattle.std.proofs.Common.{◌∙◌, ap, ◌+◌}
use Rattle.obligation_flow.proofs.OriginLaws.{passed_on}
use Rattle.graph_limits.proofs.StepRooms.{fits_rows}
use Rattle.java_cfg.specs.Contents.{arcs_of, nodes_of}
use Rattle.obligation_flow.specs.Traces.{faults_of}
use Rattle.program_faults.specs.BodyReports.{IsBodyStop}
use Rattle.program_faults.proofs.LimitLaws.{count_stop, has_faults, pairs_stop}
use Rattle.program_faults.proofs.PrintLaws.{all_appended}
use Rattle.program_faults.proofs.body.report_body.Goals as goal

pub check_into-requires-clause-fits : goal.check_into-requires-clause-fits
check_into-requires-clause-fits c = fits_rows c.args.p.now c.args.b (nodes_of c.args.graph.now) (arcs_of c.args.graph.now) c.requires.graph c.requires.places c.requires.fields c.requires.interests

pub returns-in_err-trace-clause-cause : goal.returns-in_err-trace-clause-cause
returns-in_err-trace-clause-cause c =
    passed_on c.from_residual.result c.in_err-trace.field-0.0 (IsBodyStop c.args.p.now c.args.b c.args.before) c.from_residual.ensures.1
    (pairs_stop c.args.p.now c.args.b (nodes_of c.args.graph.now) (arcs_of c.args.graph.now) c.requires.graph c.args.before c.in_err-trace.field-0.0 c.requires.small c.in_err-trace.ensures.cause)

pub returns-in_err-after-clause-cause : goal.returns-in_err-after-clause-cause
returns-in_err-after-clause-cause c =
    let has = has_faults c.args.p.now c.args.b (nodes_of c.args.graph.now) (arcs_of c.args.graph.now) c.requires.graph (faults_of c.in_ok-trace.trace) c.requires.small c.in_ok-trace.ensures.few c.in_ok-trace.ensures.faults in
    passed_on c.from_residual-in_err-after.result c.in_err-after.field-0.0 (IsBodyStop c.args.p.now c.args.b c.args.before) c.from_residual-in_err-after.ensures.1
    (count_stop c.args.p.now c.args.b c.args.before c.count.result (faults_of c.in_ok-trace.trace) c.method_place.result c.in_err-after.field-0.0 has c.count.ensures c.method_place.ensures
    c.in_err-after.ensures.stop c.in_err-after.ensures.many)

pub returns-clause-reports : goal.returns-clause-reports
returns-clause-reports c =
    let has = has_faults c.args.p.now c.args.b (nodes_of c.args.graph.now) (arcs_of c.args.graph.now) c.requires.graph (faults_of c.in_ok-trace.trace) c.requires.small c.in_ok-trace.ensures.few c.in_ok-trace.ensures.faults in
    all_appended c.args.p.now c.args.files.now c.args.b (faults_of c.in_ok-trace.trace) c.args.before c.in_ok-after.after c.args.into.now c.print_faults.new.into
    has c.in_ok-print_faults.ensures (c.in_ok-after.ensures.sum ∙ ap (λ n. c.args.before + n) c.count.ensures) c.in_ok-after.ensures.few
