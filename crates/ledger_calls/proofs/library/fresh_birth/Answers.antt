use Rattle.std.proofs.Common.{◌≡◌, ◌∙◌, ap, sym, None, Some}
use Rattle.program_model.specs.Lookups.{method_at}
use Rattle.ledger_obligations.proofs.ChangeLaws.{change_as}
use Rattle.ledger_state.specs.Heaps.{change_one, object_at}
use Rattle.ledger_calls.specs.Calls.{position_of}
use Rattle.ledger_calls.specs.Conducts.{fresh_born}
use Rattle.ledger_calls.proofs.library.fresh_birth.Goals as goal

pub returns-in-Some : goal.returns-in-Some
returns-in-Some c =
    let o : object_at c.args.heap.now c.args.number ≡ Some c.in-Some.x = sym c.object.ensures ∙ c.in-Some.is in
    c.put.ensures ∙ ap (λ y. change_one c.args.number (λ _. y) c.args.heap.now) c.fresh_born.ensures
    ∙ change_as (fresh_born c.args.p.now c.args.class (method_at c.args.p.now c.args.method) c.args.action c.args.position (position_of None c.args.locals.now c.args.action)) c.args.number c.args.heap.now c.in-Some.x o
