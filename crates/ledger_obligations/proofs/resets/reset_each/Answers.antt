use Rattle.ledger_obligations.specs.Obligations.{reset_in}
use Rattle.ledger_obligations.proofs.ChangeLaws.{changed_once}
use Rattle.ledger_obligations.proofs.resets.reset_each.Goals as goal

pub each-preserved : goal.each-preserved
each-preserved c =
    changed_once (reset_in c.args.p.now c.args.before.now c.args.roots.now) c.args.objects.now c.each.objects c.each.place c.index-objects-place.result c.reset_in.result
    c.each.invariant c.each-test.true c.index-objects-place.is c.reset_in.ensures
