-- What a store of files in memory holds, and which of its reads fail.
use Rattle.std.specs.Prelude.{◌≡◌, ℕ, Bool, true, false, List, map, ◌==◌, ◌||◌, is_none, Result, Ok, Err, Vec}
use Rattle.std.specs.declared.alloc.Global.{Global}
use Rattle.std.specs.List.{list_any}
use Rattle.std.specs.FinMap as fin
use Rattle.outside.specs.Counts.{raised}
use Rattle.outside.specs.Files.{Contents, file}
use Rattle.outside.specs.declared.files.ReadFail.{ReadFail}
use Rattle.outside.specs.declared.files.ReadFail.TheVariants.{Failed, TooBig, NoMemory}
use Rattle.outside.specs.declared.memory_files.MemFiles.{MemFiles}

-- names and bytes as lists
abbrev pub pairs_of : List (Vec ℕ Global × Vec ℕ Global) → List (List ℕ × List ℕ)
pairs_of files = map (λ e. (e.0.items, e.1.items)) files

-- the map of a list of files, in which the first file of a name counts
abbrev pub contents_of : List (Vec ℕ Global × Vec ℕ Global) → Contents
contents_of files = fin.from_entries (pairs_of files)

abbrev pub mem_contents : MemFiles → Contents
mem_contents s = contents_of s.files.items

-- the numbers of the reads that are to fail, from 1
abbrev pub failing_reads : MemFiles → List ℕ
failing_reads s = s.failing.items

-- how many reads there were so far: after a read, the read's own number
abbrev pub read_number : MemFiles → ℕ
read_number s = s.reads

abbrev pub read_faults : MemFiles → ℕ
read_faults s = s.faults

abbrev pub taken_bytes : MemFiles → ℕ
taken_bytes s = s.taken

-- a read of this number and name is to fail: its number is listed, or no file has the name
abbrev pub is_read_failing : Contents → List ℕ → ℕ → List ℕ → Bool
is_read_failing files failing number name = list_any (λ k. k == number) failing || is_none (file files name)

-- a read that is to fail answers Failed and counts one fault, and no other does
abbrev pub FailsAsListed : {T : Type 0} → Bool → ℕ → ℕ → Result T ReadFail → Type 0
FailsAsListed fails before now (Ok x) = (fails ≡ false) × (now ≡ before)
FailsAsListed fails before now (Err Failed) = (fails ≡ true) × (now ≡ raised 1 before)
FailsAsListed fails before now (Err TooBig) = (fails ≡ false) × (now ≡ before)
FailsAsListed fails before now (Err NoMemory) = (fails ≡ false) × (now ≡ before)

-- the counts stay
pub record KeepsCounts (old new : MemFiles) : Type 0 where
  pub number : read_number new ≡ read_number old
  pub faults : read_faults new ≡ read_faults old
  pub taken : taken_bytes new ≡ taken_bytes old
