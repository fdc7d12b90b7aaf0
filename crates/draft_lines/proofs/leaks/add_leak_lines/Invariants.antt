use Rattle.std.proofs.Common.{◌≡◌, ◌++◌, take}
use Rattle.draft_lines.specs.DraftLines.{leak_entries_of}
use Rattle.draft_lines.proofs.leaks.add_leak_lines.Given as goal

abbrev pub invariant-each : goal.invariant-each
invariant-each l = l.into.items ≡ l.fn.into.items ++ leak_entries_of (take l.leak-index l.leaks)
