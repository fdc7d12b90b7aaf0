-- One body more, or the check stops at it.
use Rattle.std.proofs.Common.{◌<◌, arith, length}
use Rattle.obligation_flow.proofs.OriginLaws.{passed_on}
use Rattle.program_faults.specs.ProgramReports.{IsFaultStop}
use Rattle.certificates.proofs.VerdictLaws.{all_faultless, one_more, stops_first}
use Rattle.certificates.proofs.program.put_bodies.Goals as goal

pub returns-in_err-put_body-clause-cause : goal.returns-in_err-put_body-clause-cause
returns-in_err-put_body-clause-cause c =
    let all = c.in-Ok.ensures in
    let long = c.len.ensures in
    let test = c.bodies-test.true in
    let within : c.bodies.number < length c.args.p.now.bodies.items = omega (arith, all, long, test) in
    passed_on c.from_residual.result c.in_err-put_body.field-0.0 (IsFaultStop c.args.p.now) c.from_residual.ensures.1
    (stops_first c.args.p.now c.bodies.number c.in_err-put_body.field-0.0 within c.bodies.invariant c.in_err-put_body.ensures.cause)

pub returns-clause-verdict : goal.returns-clause-verdict
returns-clause-verdict c =
    let all = c.in-Ok.ensures in
    let long = c.len.ensures in
    let done = c.bodies-test.false in
    all_faultless c.args.p.now (λ i inside. c.bodies.invariant i (omega (arith, inside, all, long, done)))

pub bodies-preserved : goal.bodies-preserved
bodies-preserved c = one_more c.args.p.now c.bodies.number c.bodies.invariant (rw c.if-not-branch.false at c.in_ok-put_body.ensures.verdict)
