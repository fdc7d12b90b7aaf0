-- Stores into owning fields.
use Rattle.std.specs.Prelude.{ℕ, ◌≡◌, Bool, false, Option, Some, None, List, ◌++◌, Result, Ok, Err, nat_eq}
use Rattle.rlc_base.specs.declared.faults.NoMemory.{NoMemory}
use Rattle.program_model.specs.declared.program.Program.{Program}
use Rattle.rlc_base.specs.declared.place.Pos.{Pos}
use Rattle.ledger_state.specs.declared.entry.Entry.{Entry}
use Rattle.ledger_state.specs.declared.entry.LeakWord.TheVariants as words
use Rattle.ledger_state.specs.declared.object.StoredField.{StoredField}
use Rattle.ledger_state.specs.Contents.{HeapContents}
use Rattle.ledger_obligations.specs.declared.stores.OwningStore.{OwningStore}
use Rattle.ledger_obligations.specs.Obligations.{displaced, holder_roots, moved_in, reset_roots}
use Rattle.ledger_steps.specs.Entries.{leak_entries, owner_entries, reset_entries}
use Rattle.draft_steps.specs.declared.steps.DraftStep.{DraftStep}

-- the root has the number 0, which no object has
abbrev pub is_zero : Option ℕ → Bool
is_zero None = false
is_zero (Some k) = nat_eq k 0

-- the heap after the store, but for the value that is stored
abbrev pub store_left : Program → HeapContents → OwningStore → HeapContents
store_left p h s = reset_roots p (holder_roots p h s.holder s.field s.bound s.value) (moved_in p h s.holder s.field s.bound s.value)

-- its lines: resets, then the new owner
abbrev pub store_written : Program → Pos → HeapContents → OwningStore → List Entry
store_written p pos h s =
    reset_entries p pos (holder_roots p h s.holder s.field s.bound s.value) (moved_in p h s.holder s.field s.bound s.value)
    ++ owner_entries p pos (displaced p h s.holder s.field s.value) (moved_in p h s.holder s.field s.bound s.value)

-- the leak of what it drops
abbrev pub store_leaks : Program → Pos → HeapContents → OwningStore → List Entry
store_leaks p pos h s = leak_entries p words.Overwritten pos h (displaced p h s.holder s.field s.value)

abbrev pub field_of_store : OwningStore → StoredField
field_of_store s = record { holder = s.holder; field = s.field; value = s.value }

-- the same step, which stores the value besides
pub record StoresToo (d : DraftStep) (s : OwningStore) (e : DraftStep) : Type 0 where
  pub changes : e.changes ≡ d.changes
  pub made : e.made ≡ d.made
  pub stored : e.stored ≡ Some (field_of_store s)
  pub lines : e.lines ≡ d.lines

abbrev pub StoredBy : Result (Option DraftStep) NoMemory → OwningStore → DraftStep → Type 0
StoredBy (Ok (Some d)) s e = StoresToo d s e
StoredBy (Ok None) s e = ⊥
StoredBy (Err x) s e = ⊥
