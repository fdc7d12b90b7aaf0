-- What is counted, and what is still to be counted, are all.
use Rattle.std.proofs.Common.{◌≡◌, ◌+◌, map, drop}
use Rattle.java_typed_trees.specs.StatementTrees.{statement_of, statements}
use Rattle.java_laying.specs.StatementFlat.{expression_counts}
use Rattle.tree_sizes.proofs.statement_sizes.+expression_counts.Given as goal

abbrev pub invariant-expression_counts-loop-tree : goal.invariant-expression_counts-loop-tree
invariant-expression_counts-loop-tree l = l.count + expression_counts (statements (map statement_of (drop l.tree-index l.trees))) ≡ expression_counts (statements (map statement_of l.trees))
