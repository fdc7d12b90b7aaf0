-- What a store of files tells, and what a read of it counts and answers.
use Rattle.std.specs.Prelude.{◌≡◌, ℕ, ◌+◌, ◌<◌, ◌≤◌, List, length, Option, Some, IsSome, Result, Ok, Err}
use Rattle.std.specs.Ordering.{nat_cmp}
use Rattle.std.specs.Cmp.Lexicographic.{slice_cmp}
use Rattle.std.specs.FinMap as map
use Rattle.outside.specs.Counts.{Rose, RoseBy}
use Rattle.outside.specs.declared.files.ReadFail.{ReadFail}
use Rattle.outside.specs.declared.files.ReadFail.TheVariants.{Failed, TooBig, NoMemory}

-- the most bytes that a file may have
abbrev pub max_file : ℕ
max_file = 1048576

-- a finite map from names to bytes
abbrev pub Contents : Type 0
Contents = map.FinMap (slice_cmp nat_cmp) (List ℕ)

-- the bytes of the file of this name
abbrev pub file : Contents → List ℕ → Option (List ℕ)
file files name = map.get files name

-- there is a file of this name
abbrev pub HasFile : Contents → List ℕ → Type 0
HasFile files name = IsSome (file files name)

-- a read counts a fault exactly where it answers Failed
abbrev pub CountsRead : {T : Type 0} → ℕ → ℕ → Result T ReadFail → Type 0
CountsRead before now (Ok x) = now ≡ before
CountsRead before now (Err Failed) = Rose before now
CountsRead before now (Err TooBig) = now ≡ before
CountsRead before now (Err NoMemory) = now ≡ before

-- what a read of at most so many bytes answers by the contents: the whole file, or that it is longer
abbrev pub AnswersUpTo : {T : Type 0} → ℕ → Contents → List ℕ → Result T ReadFail → List ℕ → Type 0
AnswersUpTo most files name (Ok x) into = (file files name ≡ Some into) × (length into ≤ most)
AnswersUpTo most files name (Err TooBig) into = (bytes : List ℕ) × (file files name ≡ Some bytes) × (most < length bytes)
AnswersUpTo most files name (Err Failed) into = Unit {0}
AnswersUpTo most files name (Err NoMemory) into = Unit {0}

-- more than so many bytes were taken, or their count stands at the last value
abbrev pub TakesMore : ℕ → ℕ → ℕ → Type 0
TakesMore most before now = RoseBy (most + 1) before now
