use Rattle.std.proofs.Common.{◌≡◌, ◌+◌, ◌-◌, [], length}
use Rattle.ledger_obligations.specs.Obligations.{reached_within}
use Rattle.ledger_obligations.proofs.resets.reached_from.Given as goal

-- the rest of the way reaches what the whole way reaches
abbrev pub invariant-upwards : goal.invariant-upwards
invariant-upwards l = reached_within (l._turn-end - l._turn) l.heap l.seen.items l.number ≡ reached_within (length l.heap.objects + 1) l.heap [] l.fn.start
