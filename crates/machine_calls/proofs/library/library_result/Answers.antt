use Rattle.std.proofs.Common.{◌≡◌, ◌+◌, ◌∷◌, length, map, reverse, subst}
use Rattle.std.specs.Prelude.{IfOk}
use Rattle.ledger_obligations.specs.Obligations.{held_in}
use Rattle.ledger_state.specs.Contents.{HeapContents}
use Rattle.ledger_state.specs.Locals.{held}
use Rattle.ledger_steps.specs.CallSteps.{library_done}
use Rattle.drafted_heaps.specs.DraftedHeaps.{heap_left}
use Rattle.program_model.specs.Lookups.{method_at}
use Rattle.machine_calls.proofs.library.library_result.Goals as goal

pub returns-in-None-clause-heap : goal.returns-in-None-clause-heap
returns-in-None-clause-heap c =
    let p = c.args.p.now in
    subst (λ (h : HeapContents). IfOk c.whole_library.result (λ r. heap_left r.change h ≡ (library_done p h c.args.top.now.locals c.args.s.action (method_at p c.args.named) (method_at p c.args.method) c.args.conduct (length c.args.below.now + 1) c.args.s.pos (held c.args.locals.now ∷ map held_in (reverse c.args.below.now))).heap))
    c.library_drafted.ensures.same c.whole_library.ensures.heap

pub returns-in-None-clause-lines : goal.returns-in-None-clause-lines
returns-in-None-clause-lines c =
    let p = c.args.p.now in
    subst (λ (h : HeapContents). IfOk c.whole_library.result (λ r. r.lines.items ≡ (library_done p h c.args.top.now.locals c.args.s.action (method_at p c.args.named) (method_at p c.args.method) c.args.conduct (length c.args.below.now + 1) c.args.s.pos (held c.args.locals.now ∷ map held_in (reverse c.args.below.now))).lines))
    c.library_drafted.ensures.same c.whole_library.ensures.lines
