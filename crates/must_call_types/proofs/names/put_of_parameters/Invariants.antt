use Rattle.std.proofs.Common.{◌≡◌, ◌++◌, map, take, flat_map}
use Rattle.program_model.specs.declared.program.ParamSig.{ParamSig}
use Rattle.must_call_types.proofs.names.put_of_parameters.Given as goal

abbrev pub invariant-loop-parameter : goal.invariant-loop-parameter
invariant-loop-parameter l = map (λ a. a.now) l.list.items ≡ map (λ a. a.now) l.initial.list.items ++ flat_map (λ (x : ParamSig). x.annos.items) (take l.parameter-index l.parameters)
