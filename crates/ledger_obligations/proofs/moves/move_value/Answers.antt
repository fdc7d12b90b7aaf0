use Rattle.std.proofs.Common.{◌≡◌, ◌∙◌, ap, sym, Some}
use Rattle.ledger_obligations.specs.Obligations.{moved_to}
use Rattle.ledger_obligations.proofs.ChangeLaws.{change_as}
use Rattle.ledger_state.specs.Heaps.{change_one, object_at, root_of}
use Rattle.ledger_obligations.proofs.moves.move_value.Goals as goal

pub returns-in-Some-object : goal.returns-in-Some-object
returns-in-Some-object c =
    let r : root_of c.args.heap.now c.args.value ≡ Some c.in-Some.root = sym c.root_of.ensures ∙ c.in-Some.is in
    let o : object_at c.args.heap.now c.in-Some.root ≡ Some c.in-Some-object.x = sym c.object.ensures ∙ c.in-Some-object.is in
    rw r
    (c.put.ensures ∙ ap (λ y. change_one c.in-Some.root (λ _. y) c.args.heap.now) c.moved_to.ensures
    ∙ change_as (moved_to c.args.p.now c.args.t c.args.owner) c.in-Some.root c.args.heap.now c.in-Some-object.x o)
