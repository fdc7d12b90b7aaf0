use Rattle.std.proofs.Common.{◌≡◌, true, Bool, Result, Ok, Err, subst, List}
use Rattle.std.specs.Prelude.{IfOk}
use Rattle.ledger_state.specs.Contents.{HeapContents}
use Rattle.object_index.specs.ObjectIndexes.{Indexed}
use Rattle.object_index.proofs.IndexLaws.{all_indexed}
use Rattle.rlc_base.specs.declared.faults.NoMemory.{NoMemory}
use Rattle.spread_notes.specs.declared.numbered.Numbered.{Numbered}
use Rattle.spread_notes.specs.SpreadNotes.{add_made, put_each}
use Rattle.drafted_heaps.specs.DraftedHeaps.{drafted_by}
use Rattle.drafted_heaps.proofs.StoredLaws.{indexed_stored}
use Rattle.drafted_heaps.proofs.indexing.index_draft.Goals as goal

pub index_each-requires : goal.index_each-requires
index_each-requires c = all_indexed c.args.index.now c.index_made.new.index c.args.heap.now c.index_made.ensures.all c.requires

pub returns-in_err-index_made-clause-kept : goal.returns-in_err-index_made-clause-kept
returns-in_err-index_made-clause-kept c = all_indexed c.args.index.now c.index_made.new.index c.args.heap.now c.index_made.ensures.all c.requires

pub returns-then-not-branch-clause-kept : goal.returns-then-not-branch-clause-kept
returns-then-not-branch-clause-kept c = all_indexed c.args.index.now c.index_made.new.index c.args.heap.now c.index_made.ensures.all c.requires

pub returns-clause-kept : goal.returns-clause-kept
returns-clause-kept c =
    all_indexed c.index_made.new.index c.index_each.new.index c.args.heap.now c.index_each.ensures.all
    (all_indexed c.args.index.now c.index_made.new.index c.args.heap.now c.index_made.ensures.all c.requires)

pub returns-clause-indexed : goal.returns-clause-indexed
returns-clause-indexed c = go c.index_each.result c.index_each.ensures.put
  where
    go : (r : Result Bool NoMemory) → IfOk r (λ b. b ≡ true → (g : HeapContents) → Indexed c.index_made.new.index g → Indexed c.index_each.new.index (put_each c.deref.result.now g))
        → IfOk r (λ b. b ≡ true → Indexed c.index_each.new.index (drafted_by c.args.change.now c.args.heap.now))
    go (Err e) h = h
    go (Ok b) h = λ is.
        let made : HeapContents = add_made c.args.change.now.made c.args.heap.now in
        indexed_stored c.index_each.new.index c.args.change.now.stored (put_each c.args.change.now.changed.items made)
        (subst (λ (bs : List Numbered). Indexed c.index_each.new.index (put_each bs made)) c.deref.ensures.value
        (h is made (c.in_ok-index_made.ensures.put c.if-not-branch.false c.args.heap.now c.next_number.ensures c.requires)))
