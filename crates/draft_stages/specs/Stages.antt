-- The stages of a step, and what it changes of the heap.
use Rattle.std.specs.Prelude.{ℕ, ◌≡◌, true, false, Some, option_map, List, map}
use Rattle.std.specs.List.{flat_map}
use Rattle.program_model.specs.Lookups.{optional}
use Rattle.ledger_state.specs.declared.object.Object.{Object}
use Rattle.ledger_state.specs.Contents.{HeapContents}
use Rattle.ledger_state.specs.Heaps.{has_number, is_reached, object_at}
use Rattle.object_index.specs.declared.index.ObjectIndex.{ObjectIndex}
use Rattle.object_index.specs.ObjectIndexes.{aliases_of, is_indexed}
use Rattle.draft_lines.specs.declared.change.ObjectChange.{ObjectChange}
use Rattle.heap_drafts.specs.declared.saved.SavedObject.{SavedObject}
use Rattle.heap_drafts.specs.Drafts.{is_saved, numbers_rise}

-- The changes of a stage

abbrev pub change_of : SavedObject → Object → ObjectChange
change_of b y = record { number = b.number; before = Some b.object; after = y }

abbrev pub change_since : HeapContents → SavedObject → List ObjectChange
change_since g b = optional (option_map (change_of b) (object_at g b.number))

-- what became of the saved objects in the heap `g`
abbrev pub changes_since : HeapContents → List SavedObject → List ObjectChange
changes_since g bs = flat_map (change_since g) bs

abbrev pub saved_number : SavedObject → ℕ
saved_number b = b.number

abbrev pub saved_numbers : List SavedObject → List ℕ
saved_numbers bs = map saved_number bs

-- Aliases

-- each object that was not saved stands in the index
abbrev pub IndexedRest : ObjectIndex → List SavedObject → HeapContents → Type 0
IndexedRest index bs h = (k : ℕ) (x : Object) → object_at h k ≡ Some x → is_saved bs k ≡ false → is_indexed index k x ≡ true

-- what the index has for each of these is among them
abbrev pub AliasesAmong : ObjectIndex → List ℕ → Type 0
AliasesAmong index ks = (r k : ℕ) → has_number ks r ≡ true → has_number (aliases_of index r) k ≡ true → has_number ks k ≡ true

-- these are the objects that have one of the roots, by their numbers
pub record AllWithRoots (h : HeapContents) (roots ks : List ℕ) : Type 0 where
  pub rise : numbers_rise 0 ks ≡ true
  pub all : (k : ℕ) (x : Object) → object_at h k ≡ Some x → is_reached h roots k ≡ true → has_number ks k ≡ true
  pub only : (k : ℕ) → has_number ks k ≡ true → is_reached h roots k ≡ true
