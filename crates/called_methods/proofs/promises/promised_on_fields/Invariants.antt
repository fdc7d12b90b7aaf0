use Rattle.std.proofs.Common.{◌≡◌, take}
use Rattle.called_methods.specs.Promises.{promised_on_fields}
use Rattle.called_methods.proofs.promises.promised_on_fields.Given as goal

abbrev pub invariant-loop-promise : goal.invariant-loop-promise
invariant-loop-promise l = l.names ≡ promised_on_fields l.p l.body l.held (take l.promise-index l.promises)
