use Rattle.command_inputs.proofs.HaltLaws.{halts_too}
use Rattle.check_command.specs.Certificates as certificates
use Rattle.check_command.specs.Checks.{by_program}
use Rattle.check_command.proofs.certifying.certify_texts.Goals as goal

pub certified-requires-clause-program : goal.certified-requires-clause-program
certified-requires-clause-program c = record { settings = c.in_ok-settings.settings; are_settings = c.in_ok-settings.ensures.read; program = c.in-Ok.ensures.program }

pub returns : goal.returns
returns c = halts_too c.in-Err.halt _ _ (λ answer why. certificates.unchecked (by_program c.in_ok-settings.settings c.in_ok-settings.ensures.read why)) c.in-Err.ensures.refused
