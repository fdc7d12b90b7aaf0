use Rattle.std.proofs.Common.{◌≡◌, map, take}
use Rattle.refusal_order.specs.Refusals.{least}
use Rattle.class_order.specs.Declarations.{declaration_of}
use Rattle.super_checks.specs.SuperCases.{classes_above_interfaces}
use Rattle.super_checks.proofs.kinds.classes_above_interfaces.Given as goal

abbrev pub invariant-loop-class : goal.invariant-loop-class
invariant-loop-class l = l.found ≡ least (classes_above_interfaces (map declaration_of (take l.class-index l.order)))
