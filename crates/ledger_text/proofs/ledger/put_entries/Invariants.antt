use Rattle.std.proofs.Common.{◌≡◌, ◌++◌, take}
use Rattle.ledger_text.specs.Ledger.{entry_lines}
use Rattle.ledger_text.proofs.ledger.put_entries.Given as goal

-- the lines so far have been put
abbrev pub invariant-each : goal.invariant-each
invariant-each l = l.into ≡ l.fn.into ++ entry_lines l.p l.files (take l.entry-index l.entries)
