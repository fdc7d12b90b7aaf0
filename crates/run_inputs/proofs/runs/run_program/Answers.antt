use Rattle.std.proofs.Common.{◌∙◌, ap, ℕ, List}
use Rattle.command_inputs.specs.Inputs.{texts_of}
use Rattle.command_programs.specs.Inputs.{file_names}
use Rattle.run_command.specs.RunAnswers.{answer_text}
use Rattle.run_inputs.proofs.runs.run_program.Goals as goal

pub returns-in-Ok : goal.returns-in-Ok
returns-in-Ok c = record {
  program = c.args.program;
  is_program = c.requires.program;
  outcome_is = c.in-Ok.ensures.outcome;
  text_is =
      c.in-Ok.ensures.text
      ∙ ap (λ (names : List (List ℕ)). answer_text c.args.program names c.first_name-first.result.now c.args.run.class.now c.args.choices c.args.run.steps) c.requires.names
      ∙ ap (λ (first : List ℕ). answer_text c.args.program (file_names (texts_of c.args.files).names) first c.args.run.class.now c.args.choices c.args.run.steps) c.first_name-first.ensures;
}
