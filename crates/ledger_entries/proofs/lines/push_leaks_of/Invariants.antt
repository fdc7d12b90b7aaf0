use Rattle.std.proofs.Common.{◌≡◌, ◌++◌, drop}
use Rattle.std.specs.Prelude.{filter}
use Rattle.ledger_entries.specs.Entries.{is_leak_of}
use Rattle.ledger_entries.proofs.lines.push_leaks_of.Given as goal

abbrev pub invariant-leaks : goal.invariant-leaks
invariant-leaks l = l.into.items ++ filter (is_leak_of l.number) (drop l.leak-index l.leaks) ≡ l.initial.into.items ++ filter (is_leak_of l.number) l.leaks
