use Rattle.std.proofs.Common.{◌≡◌, ◌++◌, take}
use Rattle.heap_drafts.specs.Drafts.{snapshots}
use Rattle.heap_drafts.proofs.saved.save.Given as goal

abbrev pub invariant-each : goal.invariant-each
invariant-each l = l.saved.items ≡ l.fn.saved.items ++ snapshots l.heap (take l.number-index l.numbers)
