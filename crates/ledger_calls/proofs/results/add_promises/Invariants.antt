use Rattle.std.proofs.Common.{◌≡◌, ◌++◌, take}
use Rattle.ledger_calls.specs.Calls.{kept_promises, position_of}
use Rattle.ledger_calls.proofs.results.add_promises.Given as goal

abbrev pub invariant-each : goal.invariant-each
invariant-each l = l.into.items ≡ l.fn.into.items ++ kept_promises l.p l.heap (position_of l.made l.locals l.action) (take l.promise-index l.promises)
