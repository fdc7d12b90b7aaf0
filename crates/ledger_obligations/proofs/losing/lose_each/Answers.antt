use Rattle.ledger_obligations.specs.Obligations.{held_in, lost_object}
use Rattle.ledger_obligations.proofs.ChangeLaws.{changed_once}
use Rattle.std.proofs.Common.{◌∷◌, map, reverse}
use Rattle.ledger_state.specs.Locals.{held}
use Rattle.ledger_obligations.proofs.losing.lose_each.Goals as goal

pub each-preserved : goal.each-preserved
each-preserved c =
    changed_once (lost_object c.args.before.now (held c.args.top.now ∷ map held_in (reverse c.args.below.now))) c.args.objects.now c.each.objects c.each.place c.index-objects-place.result c.lost_object.result
    c.each.invariant c.each-test.true c.index-objects-place.is c.lost_object.ensures
