use Rattle.std.proofs.Common.{◌≡◌, take}
use Rattle.called_methods.specs.CalledRows.{promised_at}
use Rattle.called_methods.proofs.called_rows.promised_at.Given as goal

abbrev pub invariant-loop-promise : goal.invariant-loop-promise
invariant-loop-promise l = l.names ≡ promised_at l.p l.body l.action l.held (take l.promise-index l.promises)
