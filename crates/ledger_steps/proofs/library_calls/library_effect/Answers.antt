use Rattle.std.proofs.Common.{◌≡◌, ◌∙◌, ◌∷◌, ◌++◌, [], List, ap, map, reverse}
use Rattle.ledger_obligations.specs.Obligations.{held_in}
use Rattle.ledger_state.specs.declared.entry.Entry.{Entry}
use Rattle.ledger_state.specs.Locals.{held}
use Rattle.ledger_steps.specs.CallSteps.{library_entries}
use Rattle.ledger_steps.specs.Effects.{left}
use Rattle.program_model.specs.Lookups.{method_at}
use Rattle.ledger_steps.proofs.library_calls.library_effect.Goals as goal

pub returns-clause-lines : goal.returns-clause-lines
returns-clause-lines c =
    let p = c.args.p.now in
    let n = method_at c.args.p.now c.args.named in
    let m = method_at c.args.p.now c.args.method in
    let written = library_entries p c.args.pos c.args.locals.now c.args.action n m c.args.conduct c.args.position c.args.heap.now in
    let lines : c.library_heap.new.lines.items ≡ written = c.in_ok-after.ensures.lines ∙ ap (λ (xs : List Entry). xs ++ written) c.new-lines.ensures.items in
    c.in_ok-effect.ensures.lines
    ∙ (λ i. (left p c.args.pos (held c.args.top.now ∷ map held_in (reverse c.args.below.now)) (lines i) (c.new.ensures.items i) (c.in_ok-after.ensures.heap i)).lines)
