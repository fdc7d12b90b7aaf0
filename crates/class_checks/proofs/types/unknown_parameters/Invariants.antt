use Rattle.std.proofs.Common.{◌≡◌, take}
use Rattle.refusal_order.specs.Refusals.{least}
use Rattle.class_names.specs.Meanings.{unit_of}
use Rattle.class_checks.specs.TypeCases.{unknown_parameters}
use Rattle.class_checks.proofs.types.unknown_parameters.Given as goal

abbrev pub invariant-loop-parameter : goal.invariant-loop-parameter
invariant-loop-parameter l = l.found ≡ least (unknown_parameters l.names (unit_of l.scope) (take l.parameter-index l.parameters))
