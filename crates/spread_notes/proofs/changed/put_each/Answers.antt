use Rattle.spread_notes.proofs.PlacedLaws.{put_next}
use Rattle.spread_notes.proofs.changed.put_each.Goals as goal

pub each-preserved : goal.each-preserved
each-preserved c =
    put_next c.args.objects.now c.each.b-index c.b-item.result c.each.heap c.put.new.self _ c.each-test.true c.b-item.is c.put.ensures c.each.invariant
