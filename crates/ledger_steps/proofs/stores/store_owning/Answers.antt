use Rattle.std.proofs.Common.{◌≡◌, ◌∙◌, ◌++◌, List, Result, Ok, Err, ap, append_assoc}
use Rattle.std.specs.Prelude.{OnOk}
use Rattle.ledger_entries.specs.Entries.{owner_entries, reset_entries}
use Rattle.ledger_obligations.specs.Obligations.{displaced, holder_roots, moved_in, resets_holder, roots_where}
use Rattle.ledger_state.specs.declared.entry.Entry.{Entry}
use Rattle.ledger_state.specs.declared.value.Value.TheVariants as values
use Rattle.ledger_state.specs.Contents.{HeapContents}
use Rattle.ledger_state.specs.Fields.{field_of}
use Rattle.ledger_steps.proofs.stores.store_owning.Goals as goal

on_ok : {X E P : Type 0} (r : Result X E) → P → OnOk r P
on_ok (Ok x) h = h
on_ok (Err e) h = tt

pub returns-clause-lines : goal.returns-clause-lines
returns-clause-lines c =
    let p = c.args.p.now in
    let pos = c.args.pos in
    let h = c.args.heap.now in
    let s = c.args.s in
    let old = c.args.lines.now.items in
    let released : c.in_ok-released.released ≡ displaced p h s.holder s.field s.value = c.in_ok-released.ensures in
    let moved : c.in_ok-moved.moved ≡ moved_in p h s.holder s.field s.bound s.value = c.in_ok-moved.ensures in
    let roots : c.deref.result.now ≡ holder_roots p h s.holder s.field s.bound s.value = c.deref.ensures.value ∙ c.in_ok-roots.ensures
    ∙ ap (λ (x : HeapContents). roots_where (resets_holder p h s.holder s.field s.bound (field_of p h (values.Object s.holder) s.field) s.value) x s.holder) moved in
    on_ok c.put_in.result
    (c.in_ok-owner_entries.ensures
    ∙ ap (λ (xs : List Entry). xs ++ owner_entries p pos c.in_ok-released.released c.in_ok-moved.moved) c.in_ok-reset_entries.ensures
    ∙ (λ i. (old ++ reset_entries p pos (roots i) (moved i)) ++ owner_entries p pos (released i) (moved i))
    ∙ append_assoc old (reset_entries p pos (holder_roots p h s.holder s.field s.bound s.value) (moved_in p h s.holder s.field s.bound s.value)) (owner_entries p pos (displaced p h s.holder s.field s.value) (moved_in p h s.holder s.field s.bound s.value)))
