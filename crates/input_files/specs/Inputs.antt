-- What reading the files of a command comes to.
use Rattle.std.specs.Prelude.{◌≡◌, ◌+◌, ◌<◌, ◌≤◌, ℕ, Option, Some, None, List, slice_get, Err}
use Rattle.std.specs.declared.alloc.Global.{Global}
use Rattle.outside.specs.Files.{Contents}
use Rattle.rlc_base.specs.declared.code.Code.{Code}
use Rattle.rlc_base.specs.declared.code.Code.TheVariants as refused
use Rattle.source_files.specs.Reading.{AreContents, Counts, CountsNoFault, IsReading, max_text, total_of}
use Rattle.source_files.specs.declared.stops.ReadingStop.{ReadingStop}
use Rattle.source_files.specs.declared.stops.ReadingStop.TheVariants as stops
use Rattle.command_answers.specs.Texts.{placeless_text, read_fault_text}
use Rattle.command_answers.specs.declared.answers.Answer.{Answer}
use Rattle.command_answers.specs.declared.answers.Outcome.TheVariants as outcomes
use Rattle.input_files.specs.declared.reading.ReadOutcome as declared

-- the file at which reading stopped is one of so many
abbrev pub IsInside : ℕ → ReadingStop → Type 0
IsInside count (stops.Failed at) = at < count
IsInside count (stops.TooBig at) = at < count
IsInside count (stops.TooMuch at) = at < count
IsInside count stops.NoMemory = Unit {0}

-- the file of this place passes a limit
abbrev pub IsLimitLine : Code → List (List ℕ) → ℕ → Answer → Type 0
IsLimitLine code names at answer = (name : List ℕ) × (slice_get names at ≡ Some name) × (answer.outcome ≡ outcomes.Limit) × (answer.text ≡ placeless_text name code)

-- the answer where reading the files of these names stopped; want of memory has none
abbrev pub IsStopLine : List (List ℕ) → ReadingStop → Answer → Type 0
IsStopLine names (stops.Failed at) answer = (name : List ℕ) × (slice_get names at ≡ Some name) × (answer.outcome ≡ outcomes.ReadFault) × (answer.text ≡ read_fault_text name)
IsStopLine names (stops.TooBig at) answer = IsLimitLine refused.FileTooBig names at answer
IsStopLine names (stops.TooMuch at) answer = IsLimitLine refused.TooMuchText names at answer
IsStopLine names stops.NoMemory answer = ⊥

-- reading the files stopped, where so many bytes were held before, and this is the answer
pub record IsStopped (told : Option Contents) (held : ℕ) (names : List (List ℕ)) (c : Counts) (answer : Answer) : Type 0 where
  pub stop : ReadingStop
  pub cause : IsReading {A = Global} told held names c (Err stop)
  pub line : IsStopLine names stop answer

-- the texts of the files, none of which is too long; or the answer where reading them stopped. So many bytes were held before
abbrev pub IsInputReading : Option Contents → ℕ → List (List ℕ) → Counts → declared.ReadOutcome → Type 0
IsInputReading told held names c (declared.TheVariants.Texts texts) = AreContents told names texts.items × (held + total_of texts.items ≤ max_text) × CountsNoFault c
IsInputReading told held names c (declared.TheVariants.Answered answer) = IsStopped told held names c answer

-- the words name more than 256 files: the answer has the 257th; or they name fewer
abbrev pub IsTooMany : List (List ℕ) → Option Answer → Type 0
IsTooMany files None = slice_get files 256 ≡ None
IsTooMany files (Some answer) = IsLimitLine refused.TooManyFiles files 256 answer
