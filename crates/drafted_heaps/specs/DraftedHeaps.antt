-- The heap after a step that changes some objects.
use Rattle.std.specs.Prelude.{ℕ, ◌≡◌, Bool, true, false, Option, Some, None, List, [], ◌∷◌}
use Rattle.frame_owners.specs.FrameOwners.{is_listed}
use Rattle.ledger_state.specs.declared.object.Object.{Object}
use Rattle.ledger_state.specs.Contents.{HeapContents}
use Rattle.ledger_obligations.specs.Obligations.{is_frame}
use Rattle.spread_notes.specs.declared.numbered.Numbered.{Numbered}
use Rattle.spread_notes.specs.SpreadNotes.{add_made, put_each}
use Rattle.draft_steps.specs.Steps.{put_stored}
use Rattle.drafted_heaps.specs.declared.change.DraftChange.{DraftChange}
use Rattle.drafted_heaps.specs.declared.change.HeapChange.{HeapChange}
use Rattle.drafted_heaps.specs.declared.change.HeapChange.TheVariants as changes

abbrev pub drafted_by : DraftChange → HeapContents → HeapContents
drafted_by c h = put_stored c.stored (put_each c.changed.items (add_made c.made h))

-- what a step leaves of the heap
abbrev pub heap_left : HeapChange → HeapContents → HeapContents
heap_left (changes.Whole g) h = g
heap_left (changes.Drafted c) h = drafted_by c h

-- each of these objects stands in the list of its owner
abbrev pub AllListed : List (List ℕ) → List Numbered → Type 0
AllListed lists [] = Unit {0}
AllListed lists (b ∷ bs) = (is_listed lists b.object.owner b.number ≡ true) × AllListed lists bs

-- the frame at position `j` owns the object
abbrev pub belongs_to : ℕ → Option Object → Bool
belongs_to j None = false
belongs_to j (Some x) = is_frame x.owner j
