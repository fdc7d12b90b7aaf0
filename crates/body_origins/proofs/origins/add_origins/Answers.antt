-- The origin of one birth more is put in.
use Rattle.body_origins.proofs.OriginLaws.{inserted_next, item_at}
use Rattle.body_origins.proofs.origins.add_origins.Goals as goal

pub each-preserved : goal.each-preserved
each-preserved c =
    inserted_next c.args.origins.now.keys c.each.origins.keys c.insert_full.new.self.keys c.args.births.now c.each.birth-index c.birth-item.result
    (item_at c.args.births.now c.each.birth-index c.birth-item.result c.each-test.true c.birth-item.is) c.each.invariant c.in_ok-insert_full.ensures.keys
