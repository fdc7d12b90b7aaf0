use Rattle.std.proofs.Common.{◌≡◌, ◌+◌, ◌++◌, drop}
use Rattle.ledger_entries.specs.Entries.{leak_in, lines_from}
use Rattle.ledger_entries.proofs.lines.leak_entries.Given as goal

abbrev pub invariant-objects : goal.invariant-objects
invariant-objects l = record {
  counted : l.number ≡ l.object-index;
  whole : l.into.items ++ lines_from l.p (leak_in l.word l.pos l.before) (l.object-index + 1) (drop l.object-index l.object-items) ≡ l.initial.into.items ++ lines_from l.p (leak_in l.word l.pos l.before) 1 l.object-items;
}
