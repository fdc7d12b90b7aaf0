use Rattle.std.proofs.Common.{◌≡◌, map, take}
use Rattle.std.specs.Prelude.{flat_map}
use Rattle.refusal_order.specs.Refusals.{least}
use Rattle.class_order.specs.Cases.{double_case}
use Rattle.class_order.specs.Declarations.{declaration_of}
use Rattle.class_order.proofs.names.least_double.Given as goal

abbrev pub invariant-loop-number : goal.invariant-loop-number
invariant-loop-number l = l.found ≡ least (flat_map (double_case (map declaration_of l.order)) (take l.number-index l.doubles))
