use Rattle.std.proofs.Common.{◌≡◌, ◌++◌, take}
use Rattle.heap_drafts.specs.Drafts.{roots_of}
use Rattle.heap_drafts.proofs.numbers.add_roots.Given as goal

abbrev pub invariant-each : goal.invariant-each
invariant-each l = l.into.items ≡ l.fn.into.items ++ roots_of l.heap (take l.value-index l.values)
