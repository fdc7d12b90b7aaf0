use Rattle.std.proofs.Common.{◌≡◌, ◌+◌, ◌∷◌, length, map, reverse, subst}
use Rattle.std.specs.Prelude.{IfOk}
use Rattle.ledger_obligations.specs.Obligations.{held_in}
use Rattle.ledger_state.specs.Contents.{HeapContents}
use Rattle.ledger_state.specs.Locals.{held}
use Rattle.ledger_steps.specs.CallSteps.{started}
use Rattle.program_model.specs.Lookups.{method_at}
use Rattle.machine_calls.proofs.starting.start_result.Goals as goal

pub returns-in-None-clause-lines : goal.returns-in-None-clause-lines
returns-in-None-clause-lines c =
    let p = c.args.p.now in
    subst (λ (h : HeapContents). IfOk c.whole_start.result (λ r. r.lines.items ≡ (started p h c.args.top.now.locals c.args.action (method_at p c.args.named) (length c.args.frames.now + 1) c.args.pos (held c.args.locals.now ∷ map held_in (reverse c.args.frames.now))).lines))
    c.start_drafted.ensures.same c.whole_start.ensures.lines
