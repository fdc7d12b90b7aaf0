use Rattle.std.proofs.Common.{◌≡◌, ◌∙◌, ap, sym, Some}
use Rattle.ledger_obligations.specs.Obligations.{with_owner}
use Rattle.ledger_obligations.proofs.ChangeLaws.{change_as}
use Rattle.ledger_state.specs.Heaps.{change_one, object_at}
use Rattle.draft_stores.proofs.stages.own.Goals as goal

pub returns-in-Some-object : goal.returns-in-Some-object
returns-in-Some-object c =
    let o : object_at c.args.heap.now c.in-Some.number ≡ Some c.in-Some-object.x = sym c.object.ensures ∙ c.in-Some-object.is in
    rw (c.if-moved.true, c.in-Some.is)
    (c.put.ensures ∙ ap (λ y. change_one c.in-Some.number (λ _. y) c.args.heap.now) c.with_owner.ensures
    ∙ change_as (with_owner c.args.owner) c.in-Some.number c.args.heap.now c.in-Some-object.x o)
