-- The resources so far have their numbers.
use Rattle.std.proofs.Common.{◌≡◌, map, take}
use Rattle.java_laying.specs.StatementCells.{resource_shape}
use Rattle.java_laying.proofs.statement_kinds.resources.Given as goal

abbrev pub invariant-loop-i : goal.invariant-loop-i
invariant-loop-i l = record {
  shapes : map resource_shape l.found.items ≡ take l.i l.shapes;
  parts : map (λ r. r.initializer) l.found.items ≡ take l.i l.ids;
}
