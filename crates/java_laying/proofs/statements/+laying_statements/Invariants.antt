-- What is laid, and what is still to be laid behind it, is what all trees are laid as.
use Rattle.std.proofs.Common.{◌≡◌, ◌+◌, ◌++◌, length, map, drop}
use Rattle.java_typed_trees.specs.StatementTrees.{statement_of, statements}
use Rattle.java_typed_trees.specs.WellFormedStatements.{AreWellFormedStatements}
use Rattle.java_laying.specs.Cells.{cells_of}
use Rattle.java_laying.specs.StatementCells.{statement_cells}
use Rattle.java_laying.specs.StatementFlat.{expression_counts, flat_statements, flats_expressions, statement_roots, statement_sizes}
use Rattle.java_laying.proofs.statements.+laying_statements.Given as goal

abbrev pub invariant-lay_statements-loop-tree : goal.invariant-lay_statements-loop-tree
invariant-lay_statements-loop-tree l = record {
  well_formed : AreWellFormedStatements (statements (map statement_of (drop l.tree-index l.trees)));
  cells : statement_cells l.own.items ++ flat_statements (length l.own.items) (length l.values.items) (statements (map statement_of (drop l.tree-index l.trees))) ≡ statement_cells l.fn.own.items ++ flat_statements (length l.fn.own.items) (length l.fn.values.items) (statements (map statement_of l.trees));
  expressions : cells_of l.values.items ++ flats_expressions (length l.values.items) (statements (map statement_of (drop l.tree-index l.trees))) ≡ cells_of l.fn.values.items ++ flats_expressions (length l.fn.values.items) (statements (map statement_of l.trees));
  count : length l.own.items + statement_sizes (statements (map statement_of (drop l.tree-index l.trees))) ≡ length l.fn.own.items + statement_sizes (statements (map statement_of l.trees));
  count_of_expressions : length l.values.items + expression_counts (statements (map statement_of (drop l.tree-index l.trees))) ≡ length l.fn.values.items + expression_counts (statements (map statement_of l.trees));
  numbers : l.ids.items ++ statement_roots (length l.own.items) (statements (map statement_of (drop l.tree-index l.trees))) ≡ statement_roots (length l.fn.own.items) (statements (map statement_of l.trees));
}
