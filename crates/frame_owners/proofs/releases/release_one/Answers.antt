use Rattle.std.proofs.Common.{◌≡◌, ◌∙◌, ap, Some}
use Rattle.ledger_obligations.specs.Obligations.{given_up_by_frame}
use Rattle.ledger_obligations.proofs.ChangeLaws.{change_as}
use Rattle.ledger_state.specs.Heaps.{change_one, object_at}
use Rattle.frame_owners.proofs.releases.release_one.Goals as goal

pub returns-in-Some : goal.returns-in-Some
returns-in-Some c =
    let case = c.in-Some.is in
    let there = c.object.ensures in
    let found : object_at c.args.heap.now c.args.number ≡ Some c.in-Some.x = cc in
    c.put.ensures ∙ ap (λ y. change_one c.args.number (λ _. y) c.args.heap.now) c.given_up_by.ensures
    ∙ change_as (given_up_by_frame c.args.position c.args.number) c.args.number c.args.heap.now c.in-Some.x found
