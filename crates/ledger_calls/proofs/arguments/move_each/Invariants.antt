use Rattle.std.proofs.Common.{◌≡◌, ◌+◌, drop}
use Rattle.ledger_calls.specs.Calls.{move_params, operand_of}
use Rattle.ledger_calls.proofs.arguments.move_each.Given as goal

-- what the rest makes of the heap so far is what all make of the first one
abbrev pub invariant-each : goal.invariant-each
invariant-each l =
    move_params l.p l.owner (operand_of l.locals l.action) (l.place + 1) (drop l.place l.parameters) l.heap
    ≡ move_params l.p l.owner (operand_of l.locals l.action) 1 l.parameters l.fn.heap
