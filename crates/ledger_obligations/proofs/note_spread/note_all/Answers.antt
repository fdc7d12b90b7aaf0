use Rattle.ledger_obligations.specs.Obligations.{noted_object}
use Rattle.ledger_obligations.proofs.ChangeLaws.{changed_once}
use Rattle.ledger_obligations.proofs.note_spread.note_all.Goals as goal

pub each-preserved : goal.each-preserved
each-preserved c =
    changed_once (noted_object c.args.notes.now) c.args.objects.now c.each.objects c.each.place c.index-objects-place.result c.noted_object.result
    c.each.invariant c.each-test.true c.index-objects-place.is c.noted_object.ensures
