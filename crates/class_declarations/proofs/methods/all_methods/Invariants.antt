use Rattle.std.proofs.Common.{◌≡◌, map, take}
use Rattle.class_order.specs.Declarations.{declaration_of}
use Rattle.class_declarations.specs.Members.{methods_from, written_method_of}
use Rattle.class_declarations.proofs.methods.all_methods.Given as goal

abbrev pub invariant-loop-i : goal.invariant-loop-i
invariant-loop-i l = map written_method_of l.all.items ≡ methods_from 0 l.names (map declaration_of (take l.i l.order))
