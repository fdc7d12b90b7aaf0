use Rattle.std.proofs.Common.{◌≡◌, ◌≤◌, ◌-◌, length, take}
use Rattle.flow_rules.specs.Births.{births_at_entry}
use Rattle.body_origins.proofs.births.all_entry_births.Given as goal

abbrev pub invariant-each : goal.invariant-each
invariant-each l = record {
  items : l.found.items ≡ take l.k (births_at_entry l.p l.b);
  count : l.k ≤ length (births_at_entry l.p l.b);
}

abbrev pub decreases-each : goal.decreases-each
decreases-each l = length (births_at_entry l.p l.b) - l.k
