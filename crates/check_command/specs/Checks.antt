-- What the flow rules say of the files of a command, and the answer of `check`.
use Rattle.std.specs.Prelude.{◌≡◌, ◌<◌, ℕ, Option, List, []}
use Rattle.outside.specs.Files.{Contents}
use Rattle.rlc_base.specs.declared.faults.Stop.{Stop}
use Rattle.source_files.specs.Reading.{Counts, CountsNoFault}
use Rattle.command_answers.specs.declared.answers.Answer.{Answer}
use Rattle.command_answers.specs.declared.answers.Outcome.TheVariants as outcomes
use Rattle.command_inputs.specs.Inputs.{AreFileTexts, FileNames, FileTexts, IsUnread}
use Rattle.command_programs.specs.Programs.{IsProgramAnswer, IsProgramOf, IsSettings}
use Rattle.command_programs.specs.Refusals.{IsSettingsAnswer, IsStopAnswer}
use Rattle.java_syntax.specs.declared.settings.Settings.{Settings}
use Rattle.program_model.specs.declared.program.Program.{Program}
use Rattle.acceptance_laws.specs.Accept.{Accept}
use Rattle.program_faults.specs.ProgramReports.{IsFaultCount, IsFaultStop, IsFaulty, IsReportText}
use Rattle.command_programs.specs.Inputs.{file_names}

-- ---- what the flow rules say

-- The program of the files, the number of its faults, and the text of their reports. The number is 0 exactly where the flow rules
-- derive no fault.
pub record AreFaults (files : FileTexts) (p : Program) (count : ℕ) (text : List ℕ) : Type 0 where
  pub program : IsProgramOf files p
  pub counted : IsFaultCount p count
  pub none : count ≡ 0 → IsFaulty p → ⊥
  pub some : 0 < count → IsFaulty p
  pub reported : IsReportText p (file_names files.names) count text

-- a body of the program passes a limit, and this is the answer
pub record IsLimitAnswer (files : FileTexts) (p : Program) (answer : Answer) : Type 0 where
  pub program : IsProgramOf files p
  pub stop : Stop
  pub cause : IsFaultStop p stop
  pub line : IsStopAnswer (file_names files.names) stop answer

-- Why the flow rules say nothing of the files, and the answer that says so: the settings are refused, or the program, or a body
-- passes a limit.
pub data IsUnchecked (files : FileTexts) (answer : Answer) : Type 0 where
  by_settings : IsSettingsAnswer files.settings answer → IsUnchecked files answer
  by_program : (s : Settings) → IsSettings files.settings s → IsProgramAnswer s files answer → IsUnchecked files answer
  by_limit : (p : Program) → IsLimitAnswer files p answer → IsUnchecked files answer

-- ---- the answer

-- Why this is the answer of a check of these texts: it is accepted where the program is, so that it is well formed and no path in a
-- body of it breaks a rule, and no body passes a limit; and it has leaks, with their reports, where the flow rules derive a fault in the program.
pub data IsChecked (files : FileTexts) (answer : Answer) : Type 0 where
  unchecked : IsUnchecked files answer → IsChecked files answer
  accepted : (p : Program) → IsProgramOf files p → Accept p → IsFaultCount p 0 → answer.outcome ≡ outcomes.Accepted → answer.text ≡ [] → IsChecked files answer
  leaking : (p : Program) (count : ℕ) → IsProgramOf files p → IsFaulty p → answer.outcome ≡ outcomes.Leaks → IsFaultCount p count
      → IsReportText p (file_names files.names) count answer.text → IsChecked files answer

-- why this is the answer of `check` for the files of these names: they are not read, or this is said of their texts
pub data IsCheckAnswer (told : Option Contents) (names : FileNames) (c : Counts) (answer : Answer) : Type 0 where
  unread : IsUnread told names c answer → IsCheckAnswer told names c answer
  read : (files : FileTexts) → AreFileTexts told names files → CountsNoFault c → IsChecked files answer → IsCheckAnswer told names c answer
