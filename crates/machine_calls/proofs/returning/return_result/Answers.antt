use Rattle.std.proofs.Common.{◌≡◌, ◌+◌, ◌∷◌, length, map, reverse, subst}
use Rattle.std.specs.Prelude.{IfOk}
use Rattle.ledger_obligations.specs.Obligations.{held_in}
use Rattle.ledger_state.specs.Contents.{HeapContents}
use Rattle.ledger_state.specs.Locals.{held}
use Rattle.ledger_steps.specs.Ends as ends
use Rattle.program_model.specs.Lookups.{method_at}
use Rattle.machine_calls.proofs.returning.return_result.Goals as goal

pub returns-in-None-clause-lines : goal.returns-in-None-clause-lines
returns-in-None-clause-lines c =
    let p = c.args.p.now in
    subst (λ (h : HeapContents). IfOk c.whole_return.result (λ r. r.lines.items ≡ (ends.returned p h (length c.args.below.now + 1) c.args.end.this c.args.caller.now.locals c.args.t.action (method_at p c.args.end.method) (method_at p c.args.named) c.args.end.value c.args.end.thrown c.args.end.pos c.args.t.pos (held c.args.locals.now ∷ map held_in (reverse c.args.below.now))).lines))
    c.return_drafted.ensures.same c.whole_return.ensures.lines
