use Rattle.std.proofs.Common.{◌≡◌, take}
use Rattle.heap_drafts.specs.Drafts.{renewed}
use Rattle.ledger_obligations.specs.Obligations.{reset_in}
use Rattle.heap_drafts.proofs.renewals.all_reset.Given as goal

abbrev pub invariant-each : goal.invariant-each
invariant-each l = l.left.items ≡ renewed (reset_in l.p l.heap l.roots) l.heap (take l.number-index l.numbers)
