-- What is to be said of a file, from what is to be said of its bytes.
use Rattle.std.proofs.Common.{◌≤◌, ℕ, List, length, Option, Result, Ok, Err}
use Rattle.std.specs.Prelude.{IfOk}
use Rattle.outside.specs.Files.{Contents, max_file}
use Rattle.rlc_base.specs.declared.faults.NoMemory.{NoMemory}
use Rattle.source_files.specs.Reading.{Counts, CountsNoFault, IsContent}
use Rattle.side_commands.specs.Migration.{IsDueFor, IsMigration}
use Rattle.side_commands.specs.declared.migration.Due.{Due}
use Rattle.side_commands.specs.declared.migration.Due.TheVariants as dues

of_bytes : (told : Option Contents) (name : List ℕ) (c : Counts) (bytes : List ℕ) → IsContent told name bytes → length bytes ≤ max_file → CountsNoFault c
    → (due : Due) → IsMigration bytes due → IsDueFor told name c due
of_bytes told name c bytes content fits no_fault (dues.Printed text) said = (record { bytes = bytes; content = content; fits = fits; said = said }, no_fault)
of_bytes told name c bytes content fits no_fault (dues.Refused code) said = (record { bytes = bytes; content = content; fits = fits; said = said }, no_fault)
of_bytes told name c bytes content fits no_fault dues.TooBig said = absurd said
of_bytes told name c bytes content fits no_fault dues.ReadFault said = absurd said

pub due_of_file : (told : Option Contents) (name : List ℕ) (c : Counts) (bytes : List ℕ) → IsContent told name bytes → length bytes ≤ max_file → CountsNoFault c
    → (r : Result Due NoMemory) → IfOk r (IsMigration bytes) → IfOk r (IsDueFor told name c)
due_of_file told name c bytes content fits no_fault (Ok due) said = of_bytes told name c bytes content fits no_fault due said
due_of_file told name c bytes content fits no_fault (Err e) said = tt
