-- The report of one fault more is put.
use Rattle.std.proofs.Common.{◌<◌, arith, length}
use Rattle.breadth_first.proofs.ListLaws.{at_place}
use Rattle.obligation_flow.specs.Traces.{faults_of}
use Rattle.program_faults.proofs.PrintLaws.{printed_more}
use Rattle.program_faults.proofs.body.print_faults.Goals as goal

pub faults-preserved : goal.faults-preserved
faults-preserved c =
    let count = c.count-at-end.ensures in
    let test = c.faults-test.true in
    let within : c.faults.at < length (faults_of c.args.trace.now) = omega (arith, count, test) in
    let at = at_place (faults_of c.args.trace.now) c.faults.at within in
    printed_more c.args.p.now c.args.files.now c.args.b (faults_of c.args.trace.now) c.faults.at at.0 c.in_ok-report.report c.args.into.now c.faults.into c.print_report.new.into
    at.1 c.faults.invariant (c.in_ok-report.ensures at.0 at.1) c.in_ok-print_report.ensures.printed
