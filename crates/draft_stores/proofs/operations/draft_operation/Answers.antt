use Rattle.std.proofs.Common.{sym, subst, Option, [], ◌∷◌, map, reverse}
use Rattle.program_model.specs.declared.kinds.ClassId.{ClassId}
use Rattle.ledger_obligations.specs.Obligations.{held_in}
use Rattle.ledger_state.specs.Locals.{held}
use Rattle.ledger_steps.specs.Effects.{left}
use Rattle.ledger_steps.specs.InnerSteps.{thrown_heap}
use Rattle.draft_steps.specs.Steps.{IsDraft}
use Rattle.draft_stores.proofs.OperationLaws.{quiet_draft, still_top}
use Rattle.draft_stores.proofs.operations.draft_operation.Goals as goal

pub returns-then-keeps_all-clause-draft : goal.returns-then-keeps_all-clause-draft
returns-then-keeps_all-clause-draft c =
    let p = c.args.p.now in
    let h = c.args.heap.now in
    let list = held c.args.now.now ∷ map held_in (reverse c.args.below.now) in
    let keeps = c.if-keeps_all.true in
    let settled = still_top h c.args.locals.now c.args.now.now c.args.below.now c.requires (c.keeps_all.ensures.drops keeps) in
    subst (λ (t : Option ClassId). IsDraft c.no_change.result h list (left p c.args.pos list [] [] (thrown_heap p t h))) (sym (c.keeps_all.ensures.thrown keeps))
    (quiet_draft p c.args.pos c.no_change.result h list settled c.no_change.ensures.changes c.no_change.ensures.made c.no_change.ensures.stored c.no_change.ensures.lines)
