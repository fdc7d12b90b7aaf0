-- The answer of `gen`.
use Rattle.std.specs.Prelude.{◌≡◌, ◌≤◌, ◌<◌, ℕ, None, List, [], ◌∷◌, length, codes}
use Rattle.outside.specs.Files.{max_file}
use Rattle.rlc_base.specs.declared.code.Code.TheVariants as refused
use Rattle.command_answers.specs.Texts.{placeless_text}
use Rattle.command_answers.specs.declared.answers.Answer.{Answer}
use Rattle.command_answers.specs.declared.answers.Outcome.TheVariants as outcomes
use Rattle.command_inputs.specs.Inputs.{FileTexts}
use Rattle.check_command.specs.Checks.{AreFaults, IsUnchecked}
use Rattle.program_generator.specs.Generation.{program_text}
use Rattle.program_model.specs.declared.program.Program.{Program}
use Rattle.side_commands.specs.Counts.{counts_text, outcome_of}

-- the name of the generated file
unfoldable pub generated_name : List ℕ
generated_name = codes "Gen.java"

-- the files of a check of the generated file, whose text alone is listed, under the default settings
abbrev pub generated_files : List (List ℕ) → FileTexts
generated_files texts = record { settings = None; choices = None; names = generated_name ∷ []; texts = texts }

-- so many faults are derived in the program of the files; their reports are not written
pub record IsCounted (files : FileTexts) (methods : ℕ) (answer : Answer) : Type 0 where
  pub program : Program
  pub count : ℕ
  pub reports : List ℕ
  pub faults : AreFaults files program count reports
  pub outcome_is : answer.outcome ≡ outcome_of count
  pub text_is : answer.text ≡ counts_text methods count

-- why this is the answer for a generated program of so many methods: the flow rules say nothing of it, or so many faults are
-- derived in it
pub data IsCountedAnswer (methods : ℕ) (texts : List (List ℕ)) (answer : Answer) : Type 0 where
  unchecked : IsUnchecked (generated_files texts) answer → IsCountedAnswer methods texts answer
  counted : IsCounted (generated_files texts) methods answer → IsCountedAnswer methods texts answer

-- why this is the answer for the program of a seed and so many methods: its file is longer than a file may be, or this is said of it
pub data IsGeneratedAnswer (seed methods : ℕ) (answer : Answer) : Type 0 where
  too_big : max_file < length (program_text seed methods) → answer.outcome ≡ outcomes.Limit → answer.text ≡ placeless_text generated_name refused.FileTooBig
      → IsGeneratedAnswer seed methods answer
  short : length (program_text seed methods) ≤ max_file → IsCountedAnswer methods (program_text seed methods ∷ []) answer → IsGeneratedAnswer seed methods answer
