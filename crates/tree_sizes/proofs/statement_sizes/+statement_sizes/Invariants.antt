-- What is counted, and what is still to be counted, are all.
use Rattle.std.proofs.Common.{◌≡◌, ◌+◌, map, drop}
use Rattle.java_typed_trees.specs.StatementTrees.{statement_of, statements}
use Rattle.java_laying.specs.StatementFlat.{statement_sizes}
use Rattle.tree_sizes.proofs.statement_sizes.+statement_sizes.Given as goal

abbrev pub invariant-statement_sizes-loop-tree : goal.invariant-statement_sizes-loop-tree
invariant-statement_sizes-loop-tree l = l.count + statement_sizes (statements (map statement_of (drop l.tree-index l.trees))) ≡ statement_sizes (statements (map statement_of l.trees))
