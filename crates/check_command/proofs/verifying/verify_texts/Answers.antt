use Rattle.command_inputs.proofs.HaltLaws.{halts_too}
use Rattle.check_command.specs.Certificates.{by_program}
use Rattle.check_command.proofs.verifying.verify_texts.Goals as goal

pub verified-requires-clause-program : goal.verified-requires-clause-program
verified-requires-clause-program c = record { settings = c.in_ok-settings.settings; are_settings = c.in_ok-settings.ensures.read; program = c.in-Ok.ensures.program }

pub returns-in-Err : goal.returns-in-Err
returns-in-Err c = halts_too c.in-Err.halt _ _ (λ answer why. by_program c.in_ok-settings.settings c.in_ok-settings.ensures.read why) c.in-Err.ensures.refused
