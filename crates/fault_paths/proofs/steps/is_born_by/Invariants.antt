use Rattle.std.proofs.Common.{◌≡◌, ◌≤◌, ◌-◌, false, length, take}
use Rattle.std.specs.List.{list_any}
use Rattle.obligation_paths.specs.Origins.{arc_births}
use Rattle.fault_paths.specs.Tests.{is_first}
use Rattle.fault_paths.proofs.steps.is_born_by.Given as goal

abbrev pub invariant-each : goal.invariant-each
invariant-each l = record {
  none : list_any (is_first l.origin l.fact) (take l.k (arc_births l.p l.b l.arc)) ≡ false;
  count : l.k ≤ length (arc_births l.p l.b l.arc);
}

abbrev pub decreases-each : goal.decreases-each
decreases-each l = length (arc_births l.p l.b l.arc) - l.k
