use Rattle.std.proofs.Common.{◌≡◌, ap, sym, subst, List, [], ◌∷◌, length, map, reverse, arith}
use Rattle.draft_steps.proofs.StepLaws.{draft_stores, draft_whole}
use Rattle.heap_drafts.specs.declared.saved.SavedObject.{SavedObject}
use Rattle.heap_drafts.specs.Drafts.{Drafted}
use Rattle.ledger_obligations.specs.Obligations.{held_in}
use Rattle.ledger_state.specs.Contents.{HeapContents}
use Rattle.ledger_state.specs.Locals.{held}
use Rattle.ledger_steps.specs.Effects.{left}
use Rattle.draft_stores.specs.OwningStores.{store_leaks, store_left, store_written}
use Rattle.draft_stores.proofs.StoreLaws.{stored_whole}
use Rattle.draft_stores.proofs.stores.draft_store.Goals as goal

pub returns-clause-draft : goal.returns-clause-draft
returns-clause-draft c =
    let p = c.args.p.now in
    let h = c.args.heap.now in
    let pos = c.args.pos in
    let s = c.args.s in
    let g = c.store_in_place-lines.new.heap in
    let list = held c.args.now.now ∷ map held_in (reverse c.args.below.now) in
    let count : length h.objects ≡ c.len-count.result = (let n = ap (λ (i : HeapContents). length i.objects) c.heap.view_is in omega (arith, n)) in
    let begun : Drafted [] h c.store_in_place-lines.new.saved.items g = subst (λ (bs : List SavedObject). Drafted bs h c.store_in_place-lines.new.saved.items g) c.new-saved.ensures.items c.store_in_place-lines.ensures.drafted in
    let drafted : Drafted [] h c.deref.result.now g = subst (λ (bs : List SavedObject). Drafted [] h bs g) (sym c.deref.ensures.value) begun in
    stored_whole p pos c.step_of-step.result c.with_store.result s h (store_left p h s) list (store_written p pos h s) (store_leaks p pos h s) c.with_store.ensures
    (draft_whole c.step_of-step.result c.store_in_place-lines.result h g c.len-count.result c.deref.result.now list (left p pos list (store_written p pos h s) (store_leaks p pos h s) (store_left p h s))
    c.step_of-step.ensures c.store_in_place-lines.ensures.heap c.store_in_place-lines.ensures.lines c.store_in_place-lines.ensures.settled count drafted)
    (draft_stores c.step_of-step.result c.store_in_place-lines.result g c.len-count.result c.deref.result.now c.step_of-step.ensures)
