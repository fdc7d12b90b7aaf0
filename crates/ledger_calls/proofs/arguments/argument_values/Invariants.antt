use Rattle.std.proofs.Common.{◌≡◌, map}
use Rattle.std.specs.List.{range_with_len}
use Rattle.ledger_calls.specs.Calls.{operand_of}
use Rattle.ledger_calls.proofs.arguments.argument_values.Given as goal

-- the values of the arguments so far
abbrev pub invariant-each : goal.invariant-each
invariant-each l = l.values.items ≡ map (operand_of l.locals l.action) (range_with_len 1 l.place)
