use Rattle.std.proofs.Common.{refl}
use Rattle.acceptance_laws.proofs.AcceptedFiles.{counted_accepted}
use Rattle.command_inputs.proofs.HaltLaws.{halts_too}
use Rattle.command_inputs.specs.Inputs.{texts_of}
use Rattle.command_programs.specs.Programs.{input_of}
use Rattle.check_command.specs.Certificates as certificates
use Rattle.check_command.specs.Checks.{by_limit}
use Rattle.check_command.proofs.StopLaws.{stopped_by_limit}
use Rattle.check_command.proofs.certifying.certified.Goals as goal

pub returns-in-Ok-Written : goal.returns-in-Ok-Written
returns-in-Ok-Written c =
    let program = c.requires.program in
    let said = rw c.in-Ok-Written.field-0-is at c.in-Ok-Written.ensures.certified in
    certificates.written c.args.program program (counted_accepted (input_of program.settings (texts_of c.args.files)) c.args.program program.program said.0.counted said.0.none) said.0.counted refl said.1

pub returns-in-Err : goal.returns-in-Err
returns-in-Err c =
    halts_too c.halt_of.result _ _ (λ answer why. certificates.unchecked (by_limit c.args.program why))
    (stopped_by_limit (texts_of c.args.files) c.args.program c.args.names.now c.in-Err.stop c.halt_of.result c.requires.names c.requires.program c.in-Err.ensures.cause c.halt_of.ensures)

pub returns-in_ok-too_long-in-Ok-TooLong : goal.returns-in_ok-too_long-in-Ok-TooLong
returns-in_ok-too_long-in-Ok-TooLong c =
    let program = c.requires.program in
    let said = rw c.in-Ok-TooLong.field-0-is at c.in-Ok-TooLong.ensures.certified in
    let answer = c.in_ok-too_long-in-Ok-TooLong.ensures in
    certificates.too_long c.args.program program (counted_accepted (input_of program.settings (texts_of c.args.files)) c.args.program program.program said.counted said.none) said.counted answer.outcome answer.text
