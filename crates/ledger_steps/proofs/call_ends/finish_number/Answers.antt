use Rattle.std.proofs.Common.{◌≡◌, ◌∙◌, ap, sym, Some}
use Rattle.ledger_obligations.proofs.ChangeLaws.{change_as}
use Rattle.ledger_state.specs.Heaps.{change_one, object_at}
use Rattle.ledger_steps.specs.Ends.{object_finished}
use Rattle.program_model.specs.Lookups.{method_at}
use Rattle.ledger_steps.proofs.call_ends.finish_number.Goals as goal

pub returns-in-Some : goal.returns-in-Some
returns-in-Some c =
    let o : object_at c.args.heap.now c.args.number ≡ Some c.in-Some.x = sym c.object.ensures ∙ c.in-Some.is in
    c.put.ensures ∙ ap (λ y. change_one c.args.number (λ _. y) c.args.heap.now) c.object_finished.ensures
    ∙ change_as (object_finished c.args.p.now c.args.position (method_at c.args.p.now c.args.named) c.args.alias) c.args.number c.args.heap.now c.in-Some.x o
