use Rattle.std.proofs.Common.{◌≡◌, ◌++◌, take}
use Rattle.draft_lines.specs.DraftLines.{called_changes}
use Rattle.draft_lines.proofs.called.add_called_lines.Given as goal

abbrev pub invariant-each : goal.invariant-each
invariant-each l = l.into.items ≡ l.fn.into.items ++ called_changes l.p l.pos (take l.change-index l.changes)
