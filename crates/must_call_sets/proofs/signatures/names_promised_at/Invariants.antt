use Rattle.std.proofs.Common.{◌≡◌, take}
use Rattle.must_call_sets.specs.Signatures.{is_at, promised_names}
use Rattle.must_call_sets.proofs.signatures.names_promised_at.Given as goal

abbrev pub invariant-loop-promise : goal.invariant-loop-promise
invariant-loop-promise l = l.names ≡ promised_names (λ t. is_at t l.position) (take l.promise-index l.promises)
