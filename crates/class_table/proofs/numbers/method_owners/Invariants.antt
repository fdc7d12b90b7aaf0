use Rattle.std.proofs.Common.{◌≡◌, map, take}
use Rattle.class_declarations.specs.Members.{written_method_of}
use Rattle.class_table.specs.Table.{method_owners}
use Rattle.class_table.proofs.numbers.method_owners.Given as goal

abbrev pub invariant-loop-method : goal.invariant-loop-method
invariant-loop-method l = l.owners.items ≡ method_owners (map written_method_of (take l.method-index l.methods))
