use Rattle.command_inputs.proofs.HaltLaws.{halts_too}
use Rattle.check_command.specs.Checks.{unchecked}
use Rattle.check_command.proofs.checks.check_texts.Goals as goal

pub returns-in-Err : goal.returns-in-Err
returns-in-Err c = halts_too c.in-Err.halt _ _ (λ answer why. unchecked why) c.in-Err.ensures.unchecked

pub returns-in-Ok : goal.returns-in-Ok
returns-in-Ok c = c.answer_to.ensures _ c.in-Ok.ensures.faults.0 c.in-Ok.ensures.faults.1
