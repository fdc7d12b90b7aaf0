use Rattle.std.proofs.Common.{◌≡◌, ◌≤◌, ◌-◌, false, length, take}
use Rattle.std.specs.List.{list_any}
use Rattle.flow_rules.specs.Births.{births_at_entry}
use Rattle.fault_paths.specs.Tests.{is_first}
use Rattle.fault_paths.proofs.steps.is_born_at_entry.Given as goal

abbrev pub invariant-each : goal.invariant-each
invariant-each l = record {
  none : list_any (is_first l.origin l.fact) (take l.k (births_at_entry l.p l.b)) ≡ false;
  count : l.k ≤ length (births_at_entry l.p l.b);
}

abbrev pub decreases-each : goal.decreases-each
decreases-each l = length (births_at_entry l.p l.b) - l.k
