use Rattle.std.proofs.Common.{◌≡◌, ◌+◌, ◌≤◌, drop, length}
use Rattle.ownership_rules.specs.MovesAtCalls.{owners_from}
use Rattle.ownership_rules.proofs.calls.owner_count.Given as goal

abbrev pub invariant-loop-index : goal.invariant-loop-index
invariant-loop-index l = record {
  counted : l.count + length (owners_from l.action l.held l.index (drop l.index l.parameters)) ≡ length (owners_from l.action l.held 0 l.parameters);
  small : l.count ≤ l.index;
}
