use Rattle.std.proofs.Common.{◌≡◌, ◌+◌, ◌++◌, drop}
use Rattle.ledger_entries.specs.Entries.{reset_in, lines_from}
use Rattle.ledger_entries.proofs.lines.reset_entries.Given as goal

abbrev pub invariant-objects : goal.invariant-objects
invariant-objects l = record {
  counted : l.number ≡ l.object-index;
  whole : l.into.items ++ lines_from l.p (reset_in l.pos l.heap l.roots) (l.object-index + 1) (drop l.object-index l.object-items) ≡ l.initial.into.items ++ lines_from l.p (reset_in l.pos l.heap l.roots) 1 l.object-items;
}
