use Rattle.ledger_obligations.specs.Obligations.{given_up_by_frame}
use Rattle.ledger_obligations.proofs.ChangeLaws.{changed_once}
use Rattle.ledger_obligations.proofs.heap_changes.end_frame_of.Goals as goal

pub each-preserved : goal.each-preserved
each-preserved c =
    changed_once (given_up_by_frame c.args.position) c.args.objects.now c.each.objects c.each.place c.index-objects-place.result c.given_up_by_frame.result
    c.each.invariant c.each-test.true c.index-objects-place.is c.given_up_by_frame.ensures
