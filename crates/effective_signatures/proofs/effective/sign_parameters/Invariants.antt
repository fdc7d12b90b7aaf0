use Rattle.std.proofs.Common.{◌≡◌, map, take, drop}
use Rattle.effective_signatures.specs.Effective.{signed_parameter}
use Rattle.effective_signatures.proofs.effective.sign_parameters.Given as goal

abbrev pub invariant-loop-parameter : goal.invariant-loop-parameter
invariant-loop-parameter l = record {
  done : take l.parameter-index l.parameters ≡ map (signed_parameter l.names) (take l.parameter-index l.initial.parameters);
  left : drop l.parameter-index l.parameters ≡ drop l.parameter-index l.initial.parameters;
}
