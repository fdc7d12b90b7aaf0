use Rattle.std.proofs.Common.{◌≡◌, take}
use Rattle.heap_drafts.specs.Drafts.{renewed}
use Rattle.ledger_obligations.specs.Obligations.{given_up_by_frame}
use Rattle.heap_drafts.proofs.renewals.all_left_by_frame.Given as goal

abbrev pub invariant-each : goal.invariant-each
invariant-each l = l.left.items ≡ renewed (given_up_by_frame l.position) l.heap (take l.number-index l.numbers)
