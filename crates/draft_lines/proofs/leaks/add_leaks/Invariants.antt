use Rattle.std.proofs.Common.{◌≡◌, ◌++◌, take}
use Rattle.draft_lines.specs.DraftLines.{leak_changes}
use Rattle.draft_lines.proofs.leaks.add_leaks.Given as goal

abbrev pub invariant-each : goal.invariant-each
invariant-each l = l.into.items ≡ l.fn.into.items ++ leak_changes l.p l.word l.pos (take l.change-index l.changes)
