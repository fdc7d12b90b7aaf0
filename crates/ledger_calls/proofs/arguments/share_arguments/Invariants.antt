use Rattle.std.proofs.Common.{◌≡◌, map}
use Rattle.std.specs.List.{range_with_len}
use Rattle.ledger_calls.specs.Calls.{operand_of}
use Rattle.ledger_calls.specs.Conducts.{share_all}
use Rattle.ledger_calls.proofs.arguments.share_arguments.Given as goal

-- the arrays of the arguments so far are shared
abbrev pub invariant-each : goal.invariant-each
invariant-each l = l.arrays ≡ share_all l.fn.arrays (map (operand_of l.locals l.action) (range_with_len 1 l.place))
