use Rattle.std.proofs.Common.{◌≡◌, ◌++◌, map, take}
use Rattle.class_order.specs.Declarations.{compilation_unit, declaration_of}
use Rattle.class_order.proofs.declared.push_unit.Given as goal

abbrev pub invariant-loop-declaration : goal.invariant-loop-declaration
invariant-loop-declaration l = map declaration_of l.all.items ≡ map declaration_of l.fn.all.items ++ map (λ c. record { class_tree = c; unit = compilation_unit l.number l.library l.unit }) (take l.declaration-index l.unit.types.items)
