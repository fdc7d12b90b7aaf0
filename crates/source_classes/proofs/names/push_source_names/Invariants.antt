use Rattle.std.proofs.Common.{◌≡◌, ◌++◌, map, take}
use Rattle.class_order.specs.Declarations.{class_names, declaration_of}
use Rattle.source_classes.proofs.names.push_source_names.Given as goal

abbrev pub invariant-loop-class : goal.invariant-loop-class
invariant-loop-class l = l.names.items ≡ l.fn.names.items ++ class_names (map declaration_of (take l.class-index l.order))
