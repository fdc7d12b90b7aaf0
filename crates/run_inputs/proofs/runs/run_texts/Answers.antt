use Rattle.command_inputs.proofs.HaltLaws.{answers_too, halts_too}
use Rattle.run_inputs.specs.Runs.{by_choices, by_program, ran}
use Rattle.run_inputs.proofs.runs.run_texts.Goals as goal

pub returns-in-Err : goal.returns-in-Err
returns-in-Err c = halts_too c.in-Err.halt _ _ (λ answer why. by_choices c.in_ok-settings.settings c.in_ok-settings.ensures.read why) c.in-Err.ensures.refused

pub run_program-requires-clause-program : goal.run_program-requires-clause-program
run_program-requires-clause-program c = record {
  settings = c.in_ok-settings.settings;
  are_settings = c.in_ok-settings.ensures.read;
  program = c.in-Ok-program_under.ensures.program;
}

pub returns-in-Ok-program_under : goal.returns-in-Ok-program_under
returns-in-Ok-program_under c = answers_too c.run_program.result _ _ (λ answer is. ran c.in-Ok.choices c.in-Ok.ensures.read is) c.run_program.ensures

pub returns : goal.returns
returns c =
    halts_too c.in-Err-program_under.halt _ _ (λ answer why. by_program c.in_ok-settings.settings c.in-Ok.choices c.in_ok-settings.ensures.read c.in-Ok.ensures.read why)
    c.in-Err-program_under.ensures.refused
