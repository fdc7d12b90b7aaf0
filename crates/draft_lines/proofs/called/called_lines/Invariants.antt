use Rattle.std.proofs.Common.{◌≡◌, ◌++◌, drop}
use Rattle.ledger_entries.specs.Entries.{called_lines}
use Rattle.draft_lines.proofs.called.called_lines.Given as goal

abbrev pub invariant-names : goal.invariant-names
invariant-names l = l.into.items ++ called_lines l.pos (drop l.name-index l.names) l.fresh l.number ≡ l.initial.into.items ++ called_lines l.pos l.names l.fresh l.number
