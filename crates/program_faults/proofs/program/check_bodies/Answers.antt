-- The reports of one body more are put, or the check stops at it.
use Rattle.std.proofs.Common.{◌<◌, arith, length}
use Rattle.obligation_flow.proofs.OriginLaws.{passed_on}
use Rattle.program_faults.specs.ProgramReports.{IsFaultStop}
use Rattle.program_faults.proofs.CountLaws.{one_body_more, stops_first}
use Rattle.program_faults.proofs.program.check_bodies.Goals as goal

pub returns-in_err-count-clause-cause : goal.returns-in_err-count-clause-cause
returns-in_err-count-clause-cause c =
    let all = c.in-Ok.ensures in
    let long = c.len.ensures in
    let test = c.bodies-test.true in
    let within : c.bodies.number < length c.args.p.now.bodies.items = omega (arith, all, long, test) in
    passed_on c.from_residual.result c.in_err-count.field-0.0 (IsFaultStop c.args.p.now) c.from_residual.ensures.1
    (stops_first c.args.p.now c.args.files.now c.bodies.number c.bodies.count c.bodies.text c.in_err-count.field-0.0 within c.bodies.invariant c.in_err-count.ensures.cause)

pub bodies-preserved : goal.bodies-preserved
bodies-preserved c =
    one_body_more c.args.p.now c.args.files.now c.bodies.number c.bodies.count c.in_ok-count.count c.bodies.text c.check_body.new.into c.bodies.invariant c.in_ok-count.ensures.reports
