use Rattle.std.proofs.Common.{◌≡◌, map, take}
use Rattle.class_order.specs.Declarations.{declaration_of}
use Rattle.class_headers.specs.SuperTypes.{supers_from, supers_of}
use Rattle.class_headers.proofs.supers.all_supers.Given as goal

abbrev pub invariant-loop-i : goal.invariant-loop-i
invariant-loop-i l = map supers_of l.all.items ≡ supers_from 0 l.names l.object (map declaration_of (take l.i l.order))
