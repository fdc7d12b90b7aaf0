use Rattle.std.proofs.Common.{◌≡◌, ◌++◌, map, take}
use Rattle.class_order.specs.Declarations.{declaration_of, declared_from}
use Rattle.class_order.proofs.declared.push_units.Given as goal

abbrev pub invariant-loop-i : goal.invariant-loop-i
invariant-loop-i l = map declaration_of l.all.items ≡ map declaration_of l.fn.all.items ++ declared_from l.first l.library (take l.i l.units)
