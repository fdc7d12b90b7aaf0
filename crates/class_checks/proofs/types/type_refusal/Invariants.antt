use Rattle.std.proofs.Common.{◌≡◌, map, take}
use Rattle.refusal_order.specs.Refusals.{least}
use Rattle.class_order.specs.Declarations.{declaration_of}
use Rattle.class_checks.specs.TypeCases.{all_type_cases}
use Rattle.class_checks.proofs.types.type_refusal.Given as goal

abbrev pub invariant-loop-class : goal.invariant-loop-class
invariant-loop-class l = l.found ≡ least (all_type_cases l.names (map declaration_of (take l.class-index l.order)))
