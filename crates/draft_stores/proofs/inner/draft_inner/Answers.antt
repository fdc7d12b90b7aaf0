use Rattle.std.proofs.Common.{◌≡◌, ◌∙◌, sym, subst, ◌∷◌, map, reverse, Some, None}
use Rattle.std.specs.Prelude.{IfOk, IfSome}
use Rattle.ledger_obligations.specs.Obligations.{held_in}
use Rattle.ledger_state.specs.Locals.{held}
use Rattle.ledger_steps.specs.Effects.{Effect}
use Rattle.ledger_steps.specs.InnerSteps.{store_of, store_unless}
use Rattle.draft_steps.specs.Steps.{IsDraft}
use Rattle.draft_stores.proofs.StoreLaws.{inner_kept, inner_stored}
use Rattle.draft_stores.proofs.inner.draft_inner.Goals as goal

pub returns-in-None-clause-draft : goal.returns-in-None-clause-draft
returns-in-None-clause-draft c =
    let p = c.args.p.now in
    let h = c.args.heap.now in
    let l = c.args.locals.now in
    let list = held c.args.now.now ∷ map held_in (reverse c.args.below.now) in
    let none : store_unless c.args.thrown (store_of l c.args.action) ≡ None = sym c.store_done-store.ensures ∙ c.in-None.is in
    subst (λ (e : Effect). IfOk c.draft_operation.result (λ o. IfSome o (λ d. IsDraft d h list e))) (inner_kept p h c.args.method l c.args.thrown c.args.action c.args.pos list none) c.draft_operation.ensures.draft

pub returns-in-Some-clause-draft : goal.returns-in-Some-clause-draft
returns-in-Some-clause-draft c =
    let p = c.args.p.now in
    let h = c.args.heap.now in
    let l = c.args.locals.now in
    let list = held c.args.now.now ∷ map held_in (reverse c.args.below.now) in
    let done : store_unless c.args.thrown (store_of l c.args.action) ≡ Some c.in-Some.found = sym c.store_done-store.ensures ∙ c.in-Some.is in
    subst (λ (e : Effect). IfOk c.draft_stored.result (λ o. IfSome o (λ d. IsDraft d h list e))) (inner_stored p h c.args.method l c.args.thrown c.args.action c.args.pos list c.in-Some.found done) c.draft_stored.ensures.draft
