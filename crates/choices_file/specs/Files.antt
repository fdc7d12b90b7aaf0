-- What a choices file says: the length of the argument of `main`, and one choice for each call of the library, in order.
use Rattle.std.specs.Prelude.{ℕ, ◌+◌, ◌≡◌, Bool, true, false, ◌==◌, Option, Some, None, List, [], ◌∷◌, map}
use Rattle.std.specs.List.{slice_split}
use Rattle.rlc_base.specs.declared.code.Code.TheVariants as refused
use Rattle.rlc_base.specs.declared.faults.Refusal.{Refusal}
use Rattle.rlc_base.specs.declared.faults.Stop.{Stop}
use Rattle.rlc_base.specs.declared.faults.Stop.TheVariants as stops
use Rattle.stub_conduct.specs.declared.choice.Choice.{Choice}
use Rattle.stub_conduct.specs.declared.choice.Choices.{Choices}
use Rattle.choices_file.specs.declared.line.Line.{Line}
use Rattle.choices_file.specs.declared.line.Line.TheVariants as lines
use Rattle.choices_file.specs.Lines.{meaning}

-- what each line says; a line feed (its code is 10) stands between two lines
abbrev pub lines_in : List ℕ → List Line
lines_in bytes = map meaning (slice_split (λ b. b == 10) bytes)

-- the choices, in order
abbrev pub chosen_in : List Line → List Choice
chosen_in [] = []
chosen_in (lines.Skipped ∷ rest) = chosen_in rest
chosen_in (lines.Arguments count ∷ rest) = chosen_in rest
chosen_in (lines.Chosen c ∷ rest) = c ∷ chosen_in rest
chosen_in (lines.Wrong ∷ rest) = chosen_in rest

-- the length of the argument of `main`: 0 where no line says it
abbrev pub arguments_in : List Line → ℕ
arguments_in [] = 0
arguments_in (lines.Skipped ∷ rest) = arguments_in rest
arguments_in (lines.Arguments count ∷ rest) = count
arguments_in (lines.Chosen c ∷ rest) = arguments_in rest
arguments_in (lines.Wrong ∷ rest) = arguments_in rest

-- The number of the first line that is none of a choices file, where `number` is that of the first line here. The length
-- of the argument stands in front of all choices, and once: `opens` says that no line so far said anything.
abbrev pub first_wrong : Bool → ℕ → List Line → Option ℕ
first_wrong opens number [] = None
first_wrong opens number (lines.Skipped ∷ rest) = first_wrong opens (number + 1) rest
first_wrong true number (lines.Arguments count ∷ rest) = first_wrong false (number + 1) rest
first_wrong false number (lines.Arguments count ∷ rest) = Some number
first_wrong opens number (lines.Chosen c ∷ rest) = first_wrong false (number + 1) rest
first_wrong opens number (lines.Wrong ∷ rest) = Some number

-- the bytes say these choices
pub record IsRead (bytes : List ℕ) (c : Choices) : Type 0 where
  pub lines : first_wrong true 1 (lines_in bytes) ≡ None
  pub args : c.args ≡ arguments_in (lines_in bytes)
  pub list : c.list.items ≡ chosen_in (lines_in bytes)

-- a line is none of a choices file, and it is the first such line
pub record IsRefused (number : ℕ) (bytes : List ℕ) (r : Refusal) : Type 0 where
  pub code : r.code ≡ refused.BadChoices
  pub file : r.pos.file ≡ number
  pub line : first_wrong true 1 (lines_in bytes) ≡ Some r.pos.line
  pub column : r.pos.col ≡ 1

-- why no choices are answered for the bytes of this file
abbrev pub IsStopOf : ℕ → List ℕ → Stop → Type 0
IsStopOf file bytes (stops.Refused r) = IsRefused file bytes r
IsStopOf file bytes (stops.TooMuch r) = ⊥
IsStopOf file bytes stops.NoMemory = Unit {0}
