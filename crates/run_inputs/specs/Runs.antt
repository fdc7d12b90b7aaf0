-- The answer of `run`.
use Rattle.std.specs.Prelude.{◌≡◌, ◌<◌, ◌-◌, ◌^◌, ℕ, Option, Some, None, List, [], ◌∷◌, length}
use Rattle.outside.specs.Files.{Contents}
use Rattle.rlc_base.specs.declared.faults.Refusal.{Refusal}
use Rattle.source_files.specs.Reading.{Counts, CountsNoFault}
use Rattle.choices_file.specs.Files as choices_file
use Rattle.command_answers.specs.Texts.{refusal_text}
use Rattle.command_answers.specs.declared.answers.Answer.{Answer}
use Rattle.command_answers.specs.declared.answers.Outcome.TheVariants as outcomes
use Rattle.command_inputs.specs.Inputs.{AreFileTexts, FileNames, FileText, FileTexts, IsUnread}
use Rattle.command_programs.specs.Programs.{IsProgramAnswer, IsProgramOf, IsSettings}
use Rattle.command_programs.specs.Refusals.{IsSettingsAnswer}
use Rattle.java_syntax.specs.declared.settings.Settings.{Settings}
use Rattle.program_model.specs.declared.program.Program.{Program}
use Rattle.command_programs.specs.Inputs.{file_names}
use Rattle.run_command.specs.RunAnswers.{answer_outcome, answer_text}
use Rattle.stub_conduct.specs.declared.choice.Choices.{Choices}
use Rattle.run_inputs.specs.declared.runs.MainRun.{MainRun}

-- ---- the choices

-- no choice, and an argument of `main` without elements
pub record IsDefault (choices : Choices) : Type 0 where
  pub args : choices.args ≡ 0
  pub list : choices.list.items ≡ []

-- the choices that the choices file says, or the default ones where there is none
abbrev pub AreChoices : Option FileText → Choices → Type 0
AreChoices None choices = IsDefault choices
AreChoices (Some file) choices = choices_file.IsRead file.text choices

-- a line of the choices file is refused, and the answer names its place
pub record IsChoicesLine (file : FileText) (answer : Answer) : Type 0 where
  pub number : ℕ
  pub refusal : Refusal
  pub cause : choices_file.IsRefused number file.text refusal
  pub outcome_is : answer.outcome ≡ outcomes.Refused
  pub text_is : answer.text ≡ refusal_text file.name refusal

-- the choices file is refused, and this is the answer
abbrev pub IsChoicesAnswer : Option FileText → Answer → Type 0
IsChoicesAnswer None answer = ⊥
IsChoicesAnswer (Some file) answer = IsChoicesLine file answer

-- ---- the answer

-- what is run: the `main` of a class for at most so many steps
pub record Run : Type 0 where
  pub class : List ℕ
  pub steps : ℕ

-- the first of the file words
abbrev pub first_name : List (List ℕ) → List ℕ
first_name [] = []
first_name (name ∷ names) = name

-- the answer of the run itself
pub record IsRun (run : Run) (files : FileTexts) (choices : Choices) (answer : Answer) : Type 0 where
  pub program : Program
  pub is_program : IsProgramOf files program
  pub outcome_is : answer.outcome ≡ answer_outcome program run.class choices run.steps
  pub text_is : answer.text ≡ answer_text program (file_names files.names) (first_name files.names) run.class choices run.steps

-- Why this is the answer of a run over these texts: the settings are refused, or the choices, or the program; or else the run comes to it.
pub data IsRunOf (run : Run) (files : FileTexts) (answer : Answer) : Type 0 where
  by_settings : IsSettingsAnswer files.settings answer → IsRunOf run files answer
  by_choices : (s : Settings) → IsSettings files.settings s → IsChoicesAnswer files.choices answer → IsRunOf run files answer
  by_program : (s : Settings) (choices : Choices) → IsSettings files.settings s → AreChoices files.choices choices → IsProgramAnswer s files answer → IsRunOf run files answer
  ran : (choices : Choices) → AreChoices files.choices choices → IsRun run files choices answer → IsRunOf run files answer

-- why this is the answer of `run` over the files of these names: they are not read, or this is said of their texts
pub data IsRunAnswer (run : Run) (told : Option Contents) (names : FileNames) (c : Counts) (answer : Answer) : Type 0 where
  unread : IsUnread told names c answer → IsRunAnswer run told names c answer
  read : (files : FileTexts) → AreFileTexts told names files → CountsNoFault c → IsRunOf run files answer → IsRunAnswer run told names c answer

-- the file is so short that places in it have 32 bits
abbrev pub IsShortFile : Option FileText → Type 0
IsShortFile None = Unit {0}
IsShortFile (Some file) = length file.text < 2 ^ 32 - 1

abbrev pub run_of : MainRun → Run
run_of r = record { class = r.class.now; steps = r.steps }
