-- The point of one birth more is added.
use Rattle.std.proofs.Common.{◌+◌, take}
use Rattle.std.specs.Prelude.{position}
use Rattle.body_origins.specs.Births.{Birth}
use Rattle.body_origins.specs.Origins.{same_origin}
use Rattle.body_origins.proofs.OriginLaws.{flat_next, item_at}
use Rattle.reached_facts.specs.Points.{birth_point, birth_points}
use Rattle.reached_facts.proofs.ListPoints.{pushed_more}
use Rattle.reached_facts.proofs.points.push_births.Goals as goal

pub births-preserved : goal.births-preserved
births-preserved c =
    let origins = c.args.origins.now.keys in
    pushed_more c.args.points.now.items c.births.points.items c.push_birth.new.points.items
    (birth_points origins c.args.node c.args.source (take c.births.birth-index c.args.births.now))
    (birth_point c.args.node c.args.source c.birth-item.result (position (same_origin c.birth-item.result.0) origins))
    (birth_points origins c.args.node c.args.source (take (c.births.birth-index + 1) c.args.births.now)) c.births.invariant c.in_ok-push_birth.ensures
    (flat_next (λ (x : Birth). birth_point c.args.node c.args.source x (position (same_origin x.0) origins)) c.args.births.now c.births.birth-index c.birth-item.result
    (item_at c.args.births.now c.births.birth-index c.birth-item.result c.births-test.true c.birth-item.is))
