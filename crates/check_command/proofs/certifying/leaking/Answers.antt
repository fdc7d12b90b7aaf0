use Rattle.std.proofs.Common.{refl}
use Rattle.command_inputs.proofs.HaltLaws.{halts_too}
use Rattle.check_command.specs.Certificates as certificates
use Rattle.check_command.specs.Checks.{by_limit}
use Rattle.check_command.proofs.certifying.leaking.Goals as goal

pub returns-in-Ok : goal.returns-in-Ok
returns-in-Ok c =
    let faults = c.in-Ok.ensures.faults in
    certificates.leaking c.args.program c.in-Ok.faults.count c.requires.program c.requires.faulty refl faults.counted faults.reported

pub returns-in-Err : goal.returns-in-Err
returns-in-Err c = halts_too c.in-Err.halt _ _ (λ answer why. certificates.unchecked (by_limit c.args.program why)) c.in-Err.ensures.limit
