use Rattle.std.proofs.Common.{◌≡◌, ◌*◌, length}
use Rattle.ledger_obligations.specs.Obligations.{spread}
use Rattle.ledger_obligations.proofs.note_spread.spread.Given as goal

abbrev pub decreases-turns : goal.decreases-turns
decreases-turns l = l.left

abbrev pub invariant-turns : goal.invariant-turns
invariant-turns l = spread l.left l.p l.heap l.notes.items ≡ spread (256 * length l.heap.objects) l.p l.heap l.fn.notes.items
