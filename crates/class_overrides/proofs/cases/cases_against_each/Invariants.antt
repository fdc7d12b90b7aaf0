use Rattle.std.proofs.Common.{◌≡◌, take}
use Rattle.std.specs.List.{flat_map}
use Rattle.class_overrides.specs.Steps.{cases_against}
use Rattle.class_overrides.proofs.cases.cases_against_each.Given as goal

abbrev pub invariant-loop-other : goal.invariant-loop-other
invariant-loop-other l = l.found.items ≡ flat_map (cases_against l.p l.class) (take l.other-index l.others)
