use Rattle.std.proofs.Common.{◌≡◌, take, drop}
use Rattle.std.specs.List.{AllZip}
use Rattle.effective_signatures.specs.SignedMethods.{IsSignedMethod}
use Rattle.must_call_types.proofs.reading.sign_methods.Given as goal

abbrev pub invariant-loop-method : goal.invariant-loop-method
invariant-loop-method l = record {
  done : AllZip (IsSignedMethod l.names l.fields l.classes) (take l.method-index l.initial.methods) (take l.method-index l.methods);
  left : drop l.method-index l.methods ≡ drop l.method-index l.initial.methods;
}
