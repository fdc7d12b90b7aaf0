-- The answers where the files of a command are refused, or pass a limit.
use Rattle.std.specs.Prelude.{◌≡◌, ℕ, Option, Some, None, List}
use Rattle.rlc_base.specs.declared.code.Code.{Code}
use Rattle.rlc_base.specs.declared.faults.Refusal.{Refusal}
use Rattle.rlc_base.specs.declared.faults.Stop.{Stop}
use Rattle.rlc_base.specs.declared.faults.Stop.TheVariants as stops
use Rattle.command_answers.specs.Texts.{placeless_text, refusal_text}
use Rattle.command_answers.specs.declared.answers.Answer.{Answer}
use Rattle.command_answers.specs.declared.answers.Outcome.{Outcome}
use Rattle.command_answers.specs.declared.answers.Outcome.TheVariants as outcomes
use Rattle.command_inputs.specs.Inputs.{FileText}
use Rattle.program_texts.specs.Texts.{file_name}
use Rattle.settings_file.specs.Reading.{IsCause}

-- the answer is this outcome with the line of the refusal, which names the file by its number
pub record IsLine (names : List (List ℕ)) (outcome : Outcome) (r : Refusal) (answer : Answer) : Type 0 where
  pub outcome_is : answer.outcome ≡ outcome
  pub text_is : answer.text ≡ refusal_text (file_name names r.pos.file) r

-- the answer where a layer stops; want of memory has none
abbrev pub IsStopAnswer : List (List ℕ) → Stop → Answer → Type 0
IsStopAnswer names (stops.Refused r) answer = IsLine names outcomes.Refused r answer
IsStopAnswer names (stops.TooMuch r) answer = IsLine names outcomes.Limit r answer
IsStopAnswer names stops.NoMemory answer = ⊥

-- the answer where a settings file is refused by this code, which has no place
pub record IsSettingsLine (file : FileText) (answer : Answer) : Type 0 where
  pub code : Code
  pub cause : IsCause file.text code
  pub outcome_is : answer.outcome ≡ outcomes.Refused
  pub text_is : answer.text ≡ placeless_text file.name code

-- the settings file is refused, and this is the answer
abbrev pub IsSettingsAnswer : Option FileText → Answer → Type 0
IsSettingsAnswer None answer = ⊥
IsSettingsAnswer (Some file) answer = IsSettingsLine file answer
