-- The clauses so far have their numbers.
use Rattle.std.proofs.Common.{◌≡◌, map, take}
use Rattle.java_typed_trees.specs.StatementTrees.{catch_form}
use Rattle.java_laying.specs.StatementCells.{clause_form}
use Rattle.java_laying.proofs.statement_kinds.clauses.Given as goal

abbrev pub invariant-loop-i : goal.invariant-loop-i
invariant-loop-i l = record {
  shapes : map clause_form l.found.items ≡ map catch_form (take l.i l.shapes);
  parts : map (λ c. c.block) l.found.items ≡ take l.i l.ids;
}
