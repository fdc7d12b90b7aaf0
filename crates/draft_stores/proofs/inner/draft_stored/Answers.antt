use Rattle.std.proofs.Common.{◌≡◌, ◌∙◌, sym, subst, ◌∷◌, map, reverse, true, false}
use Rattle.std.specs.Prelude.{IfOk, IfSome}
use Rattle.program_model.specs.Lookups.{method_at}
use Rattle.control_actions.specs.Owned.{is_owning}
use Rattle.ledger_obligations.specs.Obligations.{held_in}
use Rattle.ledger_state.specs.Locals.{held}
use Rattle.ledger_steps.specs.Effects.{Effect}
use Rattle.draft_steps.specs.Steps.{IsDraft}
use Rattle.draft_stores.proofs.StoreLaws.{owning_as, put_as}
use Rattle.draft_stores.proofs.inner.draft_stored.Goals as goal

pub returns-then-is_owning-clause-draft : goal.returns-then-is_owning-clause-draft
returns-then-is_owning-clause-draft c =
    let p = c.args.p.now in
    let h = c.args.heap.now in
    let l = c.args.locals.now in
    let s = c.owning_store-s.result in
    let list = held c.args.now.now ∷ map held_in (reverse c.args.below.now) in
    let owning : is_owning p c.args.found.field ≡ true = sym c.is_owning.ensures ∙ c.if-is_owning.true in
    subst (λ (e : Effect). IfOk c.draft_store.result (λ o. IfSome o (λ d. IsDraft d h list e)))
    (owning_as p h (method_at p c.args.method) l c.args.pos list c.args.found s owning c.owning_store-s.ensures.holder c.owning_store-s.ensures.field c.owning_store-s.ensures.value c.owning_store-s.ensures.bound)
    c.draft_store.ensures.draft

pub returns-else-is_owning-clause-draft : goal.returns-else-is_owning-clause-draft
returns-else-is_owning-clause-draft c =
    let p = c.args.p.now in
    let h = c.args.heap.now in
    let l = c.args.locals.now in
    let list = held c.args.now.now ∷ map held_in (reverse c.args.below.now) in
    let none : is_owning p c.args.found.field ≡ false = sym c.is_owning.ensures ∙ c.if-is_owning.false in
    subst (λ (e : Effect). IfOk c.draft_put.result (λ o. IfSome o (λ d. IsDraft d h list e)))
    (put_as p h (method_at p c.args.method) l c.args.pos list c.args.found none)
    c.draft_put.ensures.draft
