use Rattle.std.proofs.Common.{◌≡◌, map, take}
use Rattle.refusal_order.specs.Refusals.{least}
use Rattle.class_order.specs.Declarations.{declaration_of}
use Rattle.class_order.specs.UnknownNames.{unknown_cases}
use Rattle.class_order.proofs.unknown.unknown_cases.Given as goal

abbrev pub invariant-loop-class : goal.invariant-loop-class
invariant-loop-class l = l.found ≡ least (unknown_cases l.names (map declaration_of (take l.class-index l.order)))
