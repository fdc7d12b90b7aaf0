-- What is to be said of a settings file, and why.
use Rattle.std.specs.Prelude.{◌≡◌, ◌≤◌, ℕ, Option, List, length, Result, Ok, Err}
use Rattle.outside.specs.Counts.{Rose}
use Rattle.outside.specs.Files.{Contents, max_file}
use Rattle.outside.specs.declared.files.ReadFail.{ReadFail}
use Rattle.outside.specs.declared.files.ReadFail.TheVariants as fails
use Rattle.source_files.specs.Reading.{Counts, CountsNoFault, IsContent, IsTooBig}
use Rattle.java_syntax.specs.declared.settings.Settings.{Settings}
use Rattle.settings_file.specs.Reading.{IsCause, IsRead, SaysSame}
use Rattle.rlc_base.specs.declared.code.Code.TheVariants as refused
use Rattle.command_answers.specs.Texts.{placeless_text, read_fault_text}
use Rattle.command_answers.specs.declared.answers.Answer.{Answer}
use Rattle.command_answers.specs.declared.answers.Outcome.{Outcome}
use Rattle.command_answers.specs.declared.answers.Outcome.TheVariants as outcomes
use Rattle.side_commands.specs.declared.migration.Due.{Due}
use Rattle.side_commands.specs.declared.migration.Due.TheVariants as dues

-- why reading one file ended so; want of memory is always a reason
abbrev pub IsFileRead : Option Contents → List ℕ → Counts → Result (List ℕ) ReadFail → Type 0
IsFileRead told name c (Ok text) = IsContent told name text × (length text ≤ max_file) × CountsNoFault c
IsFileRead told name c (Err fails.Failed) = Rose c.faults c.faults_now
IsFileRead told name c (Err fails.TooBig) = IsTooBig told name c × CountsNoFault c
IsFileRead told name c (Err fails.NoMemory) = CountsNoFault c

-- the text is a document of the newest version that says the same as the bytes
abbrev pub IsPrinted : List ℕ → List ℕ → Type 0
IsPrinted bytes text = (s : Settings) × IsRead bytes s × SaysSame s text

-- what is to be said of the bytes of a settings file
abbrev pub IsMigration : List ℕ → Due → Type 0
IsMigration bytes (dues.Printed text) = IsPrinted bytes text
IsMigration bytes (dues.Refused code) = IsCause bytes code
IsMigration bytes dues.TooBig = ⊥
IsMigration bytes dues.ReadFault = ⊥

-- the file was read to its end, and this is to be said of its bytes
pub record IsOfFile (told : Option Contents) (name : List ℕ) (due : Due) : Type 0 where
  pub bytes : List ℕ
  pub content : IsContent told name bytes
  pub fits : length bytes ≤ max_file
  pub said : IsMigration bytes due

-- why this is to be said of the settings file of this name
abbrev pub IsDueFor : Option Contents → List ℕ → Counts → Due → Type 0
IsDueFor told name c (dues.Printed text) = IsOfFile told name (dues.Printed text) × CountsNoFault c
IsDueFor told name c (dues.Refused code) = IsOfFile told name (dues.Refused code) × CountsNoFault c
IsDueFor told name c dues.TooBig = IsTooBig told name c × CountsNoFault c
IsDueFor told name c dues.ReadFault = Rose c.faults c.faults_now

abbrev pub due_outcome : Due → Outcome
due_outcome (dues.Printed text) = outcomes.Accepted
due_outcome (dues.Refused code) = outcomes.Refused
due_outcome dues.TooBig = outcomes.Limit
due_outcome dues.ReadFault = outcomes.ReadFault

abbrev pub due_text : List ℕ → Due → List ℕ
due_text name (dues.Printed text) = text
due_text name (dues.Refused code) = placeless_text name code
due_text name dues.TooBig = placeless_text name refused.FileTooBig
due_text name dues.ReadFault = read_fault_text name

-- the answer for the settings file of this name
pub record IsSettingsAnswer (told : Option Contents) (name : List ℕ) (c : Counts) (answer : Answer) : Type 0 where
  pub due : Due
  pub cause : IsDueFor told name c due
  pub outcome : answer.outcome ≡ due_outcome due
  pub text : answer.text ≡ due_text name due
