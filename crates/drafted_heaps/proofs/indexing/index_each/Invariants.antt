use Rattle.std.proofs.Common.{take}
use Rattle.ledger_state.specs.Contents.{HeapContents}
use Rattle.object_index.specs.ObjectIndexes.{HasMore, Indexed}
use Rattle.spread_notes.specs.SpreadNotes.{put_each}
use Rattle.drafted_heaps.proofs.indexing.index_each.Given as goal

-- the index has what it had, and the objects so far as they are put
abbrev pub invariant-each : goal.invariant-each
invariant-each l = record {
  all : HasMore l.fn.index l.index;
  put : (g : HeapContents) → Indexed l.fn.index g → Indexed l.index (put_each (take l.found-index l.changed) g);
}
