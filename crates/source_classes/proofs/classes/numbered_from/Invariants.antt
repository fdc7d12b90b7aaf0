use Rattle.std.proofs.Common.{◌≡◌, map, take}
use Rattle.class_order.specs.Declarations.{declaration_of}
use Rattle.source_classes.specs.SourceClasses.{numbered_from, source_class_of}
use Rattle.source_classes.proofs.classes.numbered_from.Given as goal

abbrev pub invariant-loop-i : goal.invariant-loop-i
invariant-loop-i l = map source_class_of l.all.items ≡ numbered_from l.first (map declaration_of (take l.i l.order))
