use Rattle.std.proofs.Common.{◌≡◌, ◌++◌, take}
use Rattle.draft_lines.specs.DraftLines.{birth_changes}
use Rattle.draft_lines.proofs.lines.add_birth_lines.Given as goal

abbrev pub invariant-each : goal.invariant-each
invariant-each l = l.into.items ≡ l.fn.into.items ++ birth_changes l.p l.pos (take l.change-index l.changes)
