-- The settings and the program of the files of a command.
use Rattle.std.specs.Prelude.{◌<◌, ◌-◌, ◌^◌, ℕ, Option, Some, None, List, length, All}
use Rattle.rlc_base.specs.declared.faults.Stop.{Stop}
use Rattle.command_answers.specs.declared.answers.Answer.{Answer}
use Rattle.command_inputs.specs.Inputs.{FileText, FileTexts}
use Rattle.command_programs.specs.Refusals.{IsStopAnswer}
use Rattle.java_syntax.specs.declared.settings.Settings.{Settings}
use Rattle.program_model.specs.declared.program.Program.{Program}
use Rattle.program_reading.specs.Inputs.{file_names}
use Rattle.program_reading.specs.Programs.{Input, IsProgram, IsProgramStop}
use Rattle.settings_file.specs.Reading.{IsDefault, IsRead}

-- the settings that the settings file says, or the default ones where there is none
abbrev pub IsSettings : Option FileText → Settings → Type 0
IsSettings None s = IsDefault s
IsSettings (Some file) s = IsRead file.text s

-- the files of the program, as they are read under these settings
abbrev pub input_of : Settings → FileTexts → Input
input_of s files = record { settings = s; words = files.names; texts = files.texts }

-- this is the program of the files
pub record IsProgramOf (files : FileTexts) (p : Program) : Type 0 where
  pub settings : Settings
  pub are_settings : IsSettings files.settings settings
  pub program : IsProgram (input_of settings files) p

-- the files make no program under these settings, and this is the answer
pub record IsProgramAnswer (s : Settings) (files : FileTexts) (answer : Answer) : Type 0 where
  pub stop : Stop
  pub cause : IsProgramStop (input_of s files) stop
  pub line : IsStopAnswer (file_names files.names) stop answer

-- there are so few files, and they are so short, that numbers and places have 32 bits
pub record IsShort (files : FileTexts) : Type 0 where
  pub few : length files.names < 2 ^ 31
  pub short : All (λ text. length text < 2 ^ 32 - 1) files.texts
