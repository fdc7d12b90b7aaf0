use Rattle.std.proofs.Common.{◌≡◌, map, take}
use Rattle.class_order.specs.Declarations.{class_names, declaration_of}
use Rattle.class_order.proofs.names.class_names.Given as goal

abbrev pub invariant-loop-class : goal.invariant-loop-class
invariant-loop-class l = l.names.items ≡ class_names (map declaration_of (take l.class-index l.order))
