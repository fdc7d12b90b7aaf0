-- What was read behind other files was read with the counts from before these.
use Rattle.std.proofs.Common.{◌≡◌, ◌≤◌, ◌+◌, ◌∙◌, sym, arith, ℕ, List, Option, Some, None, Err}
use Rattle.outside.specs.Counts.{RoseBy}
use Rattle.outside.specs.Files.{Contents, max_file}
use Rattle.source_files.specs.Reading.{Counts, CountsNoFault, IsLonger, IsReading}
use Rattle.source_files.specs.declared.stops.ReadingStop.{ReadingStop}
use Rattle.source_files.specs.declared.stops.ReadingStop.TheVariants as stops

-- counts that stood where the parts before left them
pub record AreLater (c later : Counts) : Type 0 where
  pub before : later.faults ≡ c.faults
  pub now : later.faults_now ≡ c.faults_now
  pub taken : c.taken ≤ later.taken
  pub taken_now : later.taken_now ≡ c.taken_now

rose_from : (n a b c : ℕ) → a ≤ b → RoseBy n b c → RoseBy n a c
rose_from n a b c below (rose, raised, last) = (omega (arith, below, rose), omega (arith, below, raised), last)

pub longer_from : (most : ℕ) (told : Option Contents) (name : List ℕ) (c later : Counts) → AreLater c later → IsLonger most told name later → IsLonger most told name c
longer_from most None name c later are longer = rose_from (most + 1) c.taken later.taken c.taken_now are.taken (rw (sym are.taken_now) longer)
longer_from most (Some files) name c later are longer = longer

pub none_from : (c later : Counts) → AreLater c later → CountsNoFault later → CountsNoFault c
none_from c later are none = sym are.now ∙ none ∙ are.before

pub reading_from : (A : Type 0) (told : Option Contents) (held : ℕ) (names : List (List ℕ)) (c later : Counts) (stop : ReadingStop) → AreLater c later → IsReading {A = A} told held names later (Err stop)
    → IsReading {A = A} told held names c (Err stop)
reading_from A told held names c later (stops.Failed at) are (name, texts, reached, rose) = (name, texts, reached, rw (sym are.before) (rw (sym are.now) rose))
reading_from A told held names c later (stops.TooBig at) are (name, texts, reached, long, none) = (name, texts, reached, longer_from max_file told name c later are long, none_from c later are none)
reading_from A told held names c later (stops.TooMuch at) are (name, texts, reached, past, none) = (name, texts, reached, past, none_from c later are none)
reading_from A told held names c later stops.NoMemory are none = none_from c later are none
