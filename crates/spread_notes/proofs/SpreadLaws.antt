-- What notes, and all that follow from them, leave of a heap.
use Rattle.std.proofs.Common.{◌≡◌, ◌∙◌, ap, ℕ, ◌≤◌, Some, List, length}
use Rattle.program_model.specs.declared.program.Program.{Program}
use Rattle.ledger_state.specs.declared.object.Object.{Object}
use Rattle.ledger_state.specs.Contents.{HeapContents}
use Rattle.ledger_state.specs.Heaps.{change_each, object_at}
use Rattle.ledger_obligations.specs.declared.note.Note.{Note}
use Rattle.ledger_obligations.specs.Obligations.{noted, noted_object}
use Rattle.spread_notes.specs.declared.numbered.Numbered.{Numbered}
use Rattle.spread_notes.specs.SpreadNotes.{NotedAs, put_each}
use Rattle.spread_notes.proofs.NoteTurns.{spread_all, spreads_alike}
use Rattle.spread_notes.proofs.PlacedLaws.{all_there, each_placed}

-- in any heap that has the objects and the same fields
pub noted_as : (p : Program) (h g : HeapContents) (first : List Note) (bs : List Numbered) → ((k : ℕ) (x : Object) → object_at h k ≡ Some x → object_at g k ≡ Some x) → g.fields ≡ h.fields → length h.objects ≤ length g.objects → NotedAs p h first bs → noted p first g ≡ put_each bs g
noted_as p h g first bs more same longer as' =
    ap (λ ns. change_each (noted_object ns) g) (spread_all p g first as'.all (spreads_alike p h g _ as'.all more same longer (all_there h as'.all bs as'.all as'.made as'.speak) as'.spreads))
    ∙ each_placed h g as'.all bs more as'.made as'.speak
