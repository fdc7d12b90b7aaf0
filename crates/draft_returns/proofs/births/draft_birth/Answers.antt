use Rattle.std.proofs.Common.{◌≡◌, None, rules}
use Rattle.program_model.specs.Lookups.{method_at}
use Rattle.ledger_calls.specs.Calls.{alias_target, operand_of}
use Rattle.ledger_state.specs.Values.{number_of}
use Rattle.ledger_steps.specs.Ends.{program_birth}
use Rattle.draft_returns.specs.DraftReturns.{newborn}
use Rattle.draft_returns.proofs.ResultLaws.{none_births, none_born}
use Rattle.draft_returns.proofs.births.draft_birth.Goals as goal

pub returns-in-None-clause-lines : goal.returns-in-None-clause-lines
returns-in-None-clause-lines c =
    let m = method_at c.args.p.now c.args.named in
    let alias = alias_target (operand_of c.args.locals.now c.args.action) m in
    let none : newborn c.args.action c.args.end.this c.args.end.thrown ≡ None = search rules in
    λ _. none_births c.args.p.now c.args.pos c.args.heap.now (program_birth c.args.p.now c.args.position c.args.action m (number_of c.args.end.this) alias c.args.end.thrown c.args.heap.now) c.args.lines.now.items
    (none_born c.args.p.now c.args.position c.args.action m c.args.end.this alias c.args.end.thrown c.args.heap.now none)
