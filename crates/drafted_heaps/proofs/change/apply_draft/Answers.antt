use Rattle.std.proofs.Common.{◌∙◌}
use Rattle.spread_notes.specs.SpreadNotes.{add_made, put_each}
use Rattle.drafted_heaps.proofs.StoredLaws.{stored_later}
use Rattle.drafted_heaps.proofs.change.apply_draft.Goals as goal

pub returns-clause-ok : goal.returns-clause-ok
returns-clause-ok c =
    let change = c.args.change.now in
    let bs = change.changed.items in
    c.put_each.ensures ∙ (λ i. put_each (c.deref.ensures.value i) (c.in_ok-add_and_store.ensures.ok i))
    ∙ stored_later bs change.stored (add_made change.made c.args.heap.now)
