use Rattle.std.proofs.Common.{◌≡◌}
use Rattle.control_actions.specs.Exceptions.{some_heeded}
use Rattle.control_actions.proofs.exceptions.some_heeded.Given as goal

abbrev pub invariant-loop-k : goal.invariant-loop-k
invariant-loop-k l = l.some ≡ some_heeded l.p l.t l.k
