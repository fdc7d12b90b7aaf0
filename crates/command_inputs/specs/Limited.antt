-- A file with a limit of its own, which is read behind the settings file and the choices file, and before the program's files. It does not
-- count among the text of all files.
use Rattle.std.specs.Prelude.{◌≡◌, ◌≤◌, ℕ, Option, List, [], length}
use Rattle.outside.specs.Counts.{Rose}
use Rattle.outside.specs.Files.{Contents}
use Rattle.rlc_base.specs.declared.code.Code.{Code}
use Rattle.rlc_base.specs.declared.code.Code.TheVariants as refused
use Rattle.input_files.specs.Reading.{AreContents, Counts, CountsNoFault, HasAll, HasNamed, IsContent, IsLonger, total_of}
use Rattle.input_files.specs.Inputs.{IsLimitLine, IsStopped}
use Rattle.input_files.specs.Names.{reading_list}
use Rattle.command_answers.specs.Texts.{placeless_text, read_fault_text}
use Rattle.command_answers.specs.declared.answers.Answer.{Answer}
use Rattle.command_answers.specs.declared.answers.Outcome.TheVariants as outcomes
use Rattle.command_inputs.specs.Inputs.{AreRead, FileNames, IsFew, list_of}
use Rattle.command_inputs.specs.declared.limited.LimitedFile.{LimitedFile}

-- its name, the most bytes that it may have, and the code that says that it has more
pub record LimitedName : Type 0 where
  pub name : List ℕ
  pub most : ℕ
  pub code : Code

abbrev pub limited_of : LimitedFile → LimitedName
limited_of x = record { name = x.name.now; most = x.most; code = x.code }

-- the text is that of the file, and has not too many bytes
pub record IsLimitedText (told : Option Contents) (x : LimitedName) (text : List ℕ) : Type 0 where
  pub content : IsContent told x.name text
  pub fits : length text ≤ x.most

-- why the file was not read, and the answer that says so
pub data IsLimitedStop (told : Option Contents) (x : LimitedName) (c : Counts) (answer : Answer) : Type 0 where
  failed : Rose c.faults c.faults_now → answer.outcome ≡ outcomes.ReadFault → answer.text ≡ read_fault_text x.name → IsLimitedStop told x c answer
  too_long : IsLonger x.most told x.name c → CountsNoFault c → answer.outcome ≡ outcomes.Limit → answer.text ≡ placeless_text x.name x.code → IsLimitedStop told x c answer

-- the names of the settings file and the choices file, where there are such
abbrev pub first_names : FileNames → List (List ℕ)
first_names names = reading_list names.settings names.choices []

-- the files were read, and so was this one
pub record AreReadBeside (told : Option Contents) (names : FileNames) (x : LimitedName) (c : Counts) (texts : List (List ℕ)) (text : List ℕ) : Type 0 where
  pub are : AreRead told names c texts
  pub limited : IsLimitedText told x text

-- Why the files were not read, and the answer that says so: the words name too many; or reading stopped at one before it, at it, or at one
-- behind it.
pub data IsUnreadBeside (told : Option Contents) (names : FileNames) (x : LimitedName) (c : Counts) (answer : Answer) : Type 0 where
  too_many : IsLimitLine refused.TooManyFiles names.files 256 answer → CountsNoFault c → IsUnreadBeside told names x c answer
  before : IsFew names → IsStopped told 0 (first_names names) c answer → IsUnreadBeside told names x c answer
  at : IsFew names → (texts : List (List ℕ)) → AreContents told (first_names names) texts → IsLimitedStop told x c answer → IsUnreadBeside told names x c answer
  behind : IsFew names → (texts : List (List ℕ)) (text : List ℕ) → AreContents told (first_names names) texts → IsLimitedText told x text
      → IsStopped told (total_of texts) names.files c answer → IsUnreadBeside told names x c answer

-- all files are there, this one too
abbrev pub HasAllBeside : Option Contents → FileNames → List ℕ → Type 0
HasAllBeside told names name = HasAll told (list_of names) × HasNamed told name
