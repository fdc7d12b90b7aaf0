use Rattle.std.proofs.Common.{◌≡◌, ◌-◌}
use Rattle.std.specs.List.{range_with_len}
use Rattle.ledger_entries.specs.Entries.{in_order}
use Rattle.ledger_entries.proofs.names.names_in_order.Given as goal

abbrev pub invariant-names : goal.invariant-names
invariant-names l = l.names.items ≡ in_order l.p (range_with_len (l.count - l.done) l.done)
