use Rattle.command_inputs.proofs.HaltLaws.{halts_too}
use Rattle.check_command.specs.Generated.{counted, unchecked}
use Rattle.check_command.proofs.generated.counted_answer.Goals as goal

pub returns-in_ok-counts_answer-in-Ok : goal.returns-in_ok-counts_answer-in-Ok
returns-in_ok-counts_answer-in-Ok c =
    counted (record {
      program = c.in-Ok.ensures.faults.0;
      count = c.in-Ok.faults.count;
      reports = c.in-Ok.faults.text;
      faults = c.in-Ok.ensures.faults.1;
      outcome_is = c.in_ok-counts_answer-in-Ok.ensures.outcome;
      text_is = c.in_ok-counts_answer-in-Ok.ensures.text;
    })

pub returns-in-Err : goal.returns-in-Err
returns-in-Err c = halts_too c.in-Err.halt _ _ (λ answer why. unchecked why) c.in-Err.ensures.unchecked
