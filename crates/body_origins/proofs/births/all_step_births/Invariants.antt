use Rattle.std.proofs.Common.{◌≡◌, ◌≤◌, ◌-◌, length, take}
use Rattle.body_origins.specs.Origins.{arc_births}
use Rattle.body_origins.proofs.births.all_step_births.Given as goal

abbrev pub invariant-each : goal.invariant-each
invariant-each l = record {
  items : l.found.items ≡ take l.k (arc_births l.p l.b l.arc);
  count : l.k ≤ length (arc_births l.p l.b l.arc);
}

abbrev pub decreases-each : goal.decreases-each
decreases-each l = length (arc_births l.p l.b l.arc) - l.k
