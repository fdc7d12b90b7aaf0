-- The names so far have their numbers, as many as there are initialisers among them.
use Rattle.std.proofs.Common.{◌≡◌, map, take}
use Rattle.program_model.specs.Trees.{initializers}
use Rattle.java_typed_trees.specs.WellFormedStatements.{initialized}
use Rattle.java_laying.specs.StatementCells.{declarator_shape}
use Rattle.java_laying.proofs.statement_kinds.declarators.Given as goal

abbrev pub invariant-loop-name : goal.invariant-loop-name
invariant-loop-name l = record {
  names : map declarator_shape l.found.items ≡ take l.name-index l.names;
  parts : initializers l.found.items ≡ take l.next l.ids;
  next : l.next ≡ initialized (take l.name-index l.names);
}
