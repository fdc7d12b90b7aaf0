use Rattle.std.proofs.Common.{◌≡◌, ◌∙◌, ◌∷◌, ◌++◌, [], map, reverse}
use Rattle.ledger_obligations.specs.Obligations.{held_in}
use Rattle.ledger_state.specs.Locals.{held}
use Rattle.ledger_steps.specs.Effects.{left}
use Rattle.ledger_steps.specs.InnerSteps.{displaced_entries, heap_stored, store_entries, store_of, store_unless, thrown_heap}
use Rattle.program_model.specs.Lookups.{method_at}
use Rattle.ledger_steps.proofs.inner_steps.inner_effect.Goals as goal

pub returns-clause-lines : goal.returns-clause-lines
returns-clause-lines c =
    let p = c.args.p.now in
    let pos = c.args.pos in
    let m = method_at c.args.p.now c.args.method in
    let l = c.args.locals.now in
    let store : c.store_unless-store.result ≡ store_unless c.args.thrown (store_of l c.args.action) = c.store_unless-store.ensures in
    let before : c.in_ok-before.before ≡ thrown_heap p c.args.thrown c.args.heap.now = c.in_ok-before.ensures in
    let lines = c.in_ok-after.ensures.lines ∙ (λ i. (c.new-lines.ensures.items i) ++ store_entries p pos m l (store i) (before i)) in
    let leaks = c.in_ok-after.ensures.leaks ∙ (λ i. (c.new-leaks.ensures.items i) ++ displaced_entries p pos (store i) (before i)) in
    let after = c.in_ok-after.ensures.heap ∙ (λ i. heap_stored p m l (store i) (before i)) in
    c.in_ok-effect.ensures.lines ∙ (λ i. (left p pos (held c.args.top.now ∷ map held_in (reverse c.args.below.now)) (lines i) (leaks i) (after i)).lines)
