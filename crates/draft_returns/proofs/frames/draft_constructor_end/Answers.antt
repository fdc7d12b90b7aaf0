use Rattle.std.proofs.Common.{◌≡◌, None, rules}
use Rattle.program_model.specs.Lookups.{method_at}
use Rattle.ledger_state.specs.declared.entry.LeakWord.TheVariants as words
use Rattle.ledger_steps.specs.Ends.{constructor_ended}
use Rattle.draft_returns.specs.DraftReturns.{holder_ended}
use Rattle.draft_returns.proofs.FrameLaws.{none_ended, none_leaks}
use Rattle.draft_returns.proofs.frames.draft_constructor_end.Goals as goal

pub returns-in-None-clause-leaks : goal.returns-in-None-clause-leaks
returns-in-None-clause-leaks c =
    let m = method_at c.args.p.now c.args.end.method in
    let h = c.args.heap.now in
    let none : holder_ended c.args.end.this m c.args.end.thrown ≡ None = search rules in
    none_leaks c.args.p.now words.ConstructorThrow c.args.end.pos h (constructor_ended c.args.end.this m c.args.end.thrown h) c.args.leaks.now.items (none_ended c.args.end.this m c.args.end.thrown h none)
