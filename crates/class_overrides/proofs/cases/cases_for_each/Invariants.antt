use Rattle.std.proofs.Common.{◌≡◌, take}
use Rattle.std.specs.List.{flat_map}
use Rattle.class_overrides.specs.Steps.{cases_for}
use Rattle.class_overrides.proofs.cases.cases_for_each.Given as goal

abbrev pub invariant-loop-method : goal.invariant-loop-method
invariant-loop-method l = l.found.items ≡ flat_map (cases_for l.p l.class) (take l.method-index l.methods)
