use Rattle.std.proofs.Common.{◌≡◌, take}
use Rattle.std.specs.List.{flat_map}
use Rattle.class_overrides.specs.Steps.{declared_case}
use Rattle.class_overrides.proofs.cases.alike_cases.Given as goal

abbrev pub invariant-loop-m : goal.invariant-loop-m
invariant-loop-m l = l.found.items ≡ flat_map (declared_case l.p l.n) (take l.m-index l.methods)
