use Rattle.std.proofs.Common.{◌≡◌, take}
use Rattle.called_methods.specs.Preconditions.{asked_from}
use Rattle.called_methods.proofs.preconditions.asked_by.Given as goal

abbrev pub invariant-loop-number : goal.invariant-loop-number
invariant-loop-number l = l.names ≡ asked_from l.action l.held 1 (take l.number l.parameters)
