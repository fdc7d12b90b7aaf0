use Rattle.std.proofs.Common.{◌≡◌, take}
use Rattle.must_call_sets.specs.Signatures.{is_of_field, promised_names}
use Rattle.must_call_sets.proofs.signatures.names_promised_on_field.Given as goal

abbrev pub invariant-loop-promise : goal.invariant-loop-promise
invariant-loop-promise l = l.names ≡ promised_names (λ t. is_of_field t l.field) (take l.promise-index l.promises)
