use Rattle.command_inputs.proofs.HaltLaws.{halted_too, halts_too}
use Rattle.check_command.specs.Checks.{by_limit, by_program}
use Rattle.check_command.proofs.FaultLaws.{ok_too}
use Rattle.check_command.proofs.faults.file_faults.Goals as goal

pub returns-clause-unchecked : goal.returns-clause-unchecked
returns-clause-unchecked c =
    halts_too c.in-Err.halt _ _ (λ answer why. by_program c.in_ok-settings.settings c.in_ok-settings.ensures.read why) c.in-Err.ensures.refused

pub returns-in-Ok-clause-faults : goal.returns-in-Ok-clause-faults
returns-in-Ok-clause-faults c = ok_too c.program_faults.result _ _ (λ x are. (c.in-Ok.program, are)) c.program_faults.ensures.faults

pub returns-in-Ok-clause-unchecked : goal.returns-in-Ok-clause-unchecked
returns-in-Ok-clause-unchecked c = halted_too c.program_faults.result _ _ (λ answer why. by_limit c.in-Ok.program why) c.program_faults.ensures.limit

pub program_faults-requires-clause-program : goal.program_faults-requires-clause-program
program_faults-requires-clause-program c = record { settings = c.in_ok-settings.settings; are_settings = c.in_ok-settings.ensures.read; program = c.in-Ok.ensures.program }
