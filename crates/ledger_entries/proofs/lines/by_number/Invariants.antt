use Rattle.std.proofs.Common.{◌≡◌, ◌+◌, ◌-◌, ◌++◌}
use Rattle.std.specs.List.{flat_map, range_with_len}
use Rattle.ledger_entries.specs.Entries.{leaks_of}
use Rattle.ledger_entries.proofs.lines.by_number.Given as goal

abbrev pub invariant-objects : goal.invariant-objects
invariant-objects l = l.into.items ++ flat_map (leaks_of l.leaks) (range_with_len (l.before + 1) (l.count - l.before)) ≡ l.initial.into.items ++ flat_map (leaks_of l.leaks) (range_with_len 1 l.count)
