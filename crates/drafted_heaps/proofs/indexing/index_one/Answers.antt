use Rattle.std.proofs.Common.{◌≡◌, true, Bool, Result, Ok, Err}
use Rattle.std.specs.Prelude.{IfOk}
use Rattle.ledger_state.specs.Contents.{HeapContents}
use Rattle.object_index.specs.ObjectIndexes.{Indexed, is_indexed}
use Rattle.spread_notes.specs.SpreadNotes.{put_numbered}
use Rattle.rlc_base.specs.declared.faults.NoMemory.{NoMemory}
use Rattle.drafted_heaps.proofs.IndexLaws.{index_put}
use Rattle.drafted_heaps.proofs.indexing.index_one.Goals as goal

pub returns-clause-put : goal.returns-clause-put
returns-clause-put c = go c.change_object.result c.change_object.ensures.there
  where
    go : (r : Result Bool NoMemory) → IfOk r (λ b. b ≡ true → is_indexed c.change_object.new.index c.args.changed.now.number c.args.changed.now.object ≡ true)
        → IfOk r (λ b. b ≡ true → (g : HeapContents) → Indexed c.args.index.now g → Indexed c.change_object.new.index (put_numbered c.args.changed.now g))
    go (Err e) h = h
    go (Ok b) h = λ is g indexed. index_put c.args.index.now c.change_object.new.index c.args.changed.now g c.change_object.ensures.all (h is) indexed
