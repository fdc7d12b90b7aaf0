-- What a step changes of the heap, apart from it.
use Rattle.std.specs.Prelude.{ℕ, ◌≡◌, Option, Some, None, option_map, List, [], length, map, Result, Ok, Err, Vec}
use Rattle.std.specs.Global.{Global}
use Rattle.std.specs.List.{flat_map}
use Rattle.program_model.specs.Lookups.{optional}
use Rattle.rlc_base.specs.declared.faults.NoMemory.{NoMemory}
use Rattle.ledger_state.specs.declared.entry.Entry.{Entry}
use Rattle.ledger_state.specs.declared.object.StoredField.{StoredField}
use Rattle.ledger_state.specs.declared.value.Value.{Value}
use Rattle.ledger_state.specs.Contents.{HeapContents}
use Rattle.ledger_state.specs.Heaps.{object_at, put_field}
use Rattle.ledger_steps.specs.Effects.{Effect}
use Rattle.heap_drafts.specs.Settled.{Settled}
use Rattle.spread_notes.specs.declared.numbered.Numbered.{Numbered}
use Rattle.spread_notes.specs.SpreadNotes.{add_made, numbered, put_each}
use Rattle.heap_drafts.specs.declared.saved.SavedObject.{SavedObject}
use Rattle.heap_drafts.specs.Drafts.{Drafted}
use Rattle.draft_steps.specs.declared.steps.DraftStep.{DraftStep}

abbrev pub number_in : Numbered → ℕ
number_in b = b.number

abbrev pub numbers_in : List Numbered → List ℕ
numbers_in bs = map number_in bs

abbrev pub put_stored : Option StoredField → HeapContents → HeapContents
put_stored None h = h
put_stored (Some s) h = put_field s.holder s.field s.value h

-- the heap after the step: one object more, each changed object in its place, and the stored field
abbrev pub drafted : DraftStep → HeapContents → HeapContents
drafted d h = put_stored d.stored (put_each d.changes.items (add_made d.made h))

-- the step leads from the heap `h` to the effect `e`, after which no object is left to lose; `held` is what each frame holds then
pub record IsDraft (d : DraftStep) (h : HeapContents) (held : List (List Value)) (e : Effect) : Type 0 where
  pub heap : drafted d h ≡ e.heap
  pub lines : d.lines.items ≡ e.lines
  pub settled : Settled e.heap held

abbrev pub numbered_one : HeapContents → ℕ → List Numbered
numbered_one g k = optional (option_map (numbered k) (object_at g k))

-- these objects of the heap as they are
abbrev pub numbered_in : HeapContents → List ℕ → List Numbered
numbered_in g ks = flat_map (numbered_one g) ks

-- it is what a step changed that led to the heap `g` from one of so many objects, where `bs` were saved
pub record IsDrafted (d : DraftStep) (count : ℕ) (bs : List SavedObject) (g : HeapContents) (written : List Entry) : Type 0 where
  pub heap : (h : HeapContents) → length h.objects ≡ count → Drafted [] h bs g → put_each d.changes.items (add_made d.made h) ≡ g
  pub stored : d.stored ≡ None
  pub lines : d.lines.items ≡ written

-- the same, where a step in the heap gave these lines
abbrev pub IsDraftedBy : DraftStep → ℕ → List SavedObject → HeapContents → Result (Option (Vec Entry Global)) NoMemory → Type 0
IsDraftedBy d count bs g (Ok (Some v)) = IsDrafted d count bs g v.items
IsDraftedBy d count bs g (Ok None) = ⊥
IsDraftedBy d count bs g (Err e) = ⊥
