use Rattle.std.proofs.Common.{[], ◌∷◌, map, reverse, false}
use Rattle.ledger_obligations.specs.declared.stores.OwningStore.{OwningStore}
use Rattle.ledger_obligations.specs.Obligations.{held_in}
use Rattle.ledger_state.specs.Locals.{held}
use Rattle.draft_stores.proofs.StoreLaws.{stored_whole}
use Rattle.draft_stores.proofs.inner.draft_put.Goals as goal

pub returns-clause-draft : goal.returns-clause-draft
returns-clause-draft c =
    let h = c.args.heap.now in
    let s : OwningStore = record { holder = c.args.s.holder; field = c.args.s.field; bound = false; value = c.args.s.value } in
    stored_whole c.args.p.now c.args.pos c.draft_operation-step.result c.with_store.result s h h (held c.args.now.now ∷ map held_in (reverse c.args.below.now)) [] [] c.with_store.ensures c.draft_operation-step.ensures.draft c.draft_operation-step.ensures.stored
