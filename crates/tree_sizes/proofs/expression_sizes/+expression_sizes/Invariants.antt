-- What is counted, and what is still to be counted, are all.
use Rattle.std.proofs.Common.{◌≡◌, ◌+◌, map, drop}
use Rattle.java_typed_trees.specs.ExpressionTrees.{expressions, tree_of}
use Rattle.java_laying.specs.Flat.{sizes}
use Rattle.tree_sizes.proofs.expression_sizes.+expression_sizes.Given as goal

abbrev pub invariant-expression_sizes-loop-tree : goal.invariant-expression_sizes-loop-tree
invariant-expression_sizes-loop-tree l = l.count + sizes (expressions (map tree_of (drop l.tree-index l.trees))) ≡ sizes (expressions (map tree_of l.trees))
