use Rattle.std.proofs.Common.{◌≡◌, ◌∷◌, map, reverse, subst}
use Rattle.std.specs.Prelude.{IfOk}
use Rattle.ledger_obligations.specs.Obligations.{held_in}
use Rattle.ledger_state.specs.Contents.{HeapContents}
use Rattle.ledger_state.specs.Locals.{held}
use Rattle.ledger_steps.specs.InnerSteps.{inner}
use Rattle.machine_steps.proofs.inner_run.inner_result.Goals as goal

pub returns-in-None-clause-lines : goal.returns-in-None-clause-lines
returns-in-None-clause-lines c =
    let p = c.args.p.now in
    subst (λ (h : HeapContents). IfOk c.whole_inner.result (λ r. r.lines.items ≡ (inner p h c.args.top.now.method c.args.top.now.locals c.args.thrown c.args.s.action c.args.s.pos (held c.args.locals.now ∷ map held_in (reverse c.args.below.now))).lines))
    c.inner_drafted.ensures.same c.whole_inner.ensures.lines
