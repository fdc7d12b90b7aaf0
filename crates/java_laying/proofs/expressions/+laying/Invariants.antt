-- What is laid, and what is still to be laid behind it, is what all trees are laid as.
use Rattle.std.proofs.Common.{◌≡◌, ◌+◌, ◌++◌, length, map, drop}
use Rattle.java_typed_trees.specs.ExpressionTrees.{expressions, tree_of}
use Rattle.java_typed_trees.specs.WellFormed.{AreWellFormed}
use Rattle.java_laying.specs.Cells.{cells_of}
use Rattle.java_laying.specs.Flat.{flats, roots, sizes}
use Rattle.java_laying.proofs.expressions.+laying.Given as goal

abbrev pub invariant-lay_expressions-loop-tree : goal.invariant-lay_expressions-loop-tree
invariant-lay_expressions-loop-tree l = record {
  well_formed : AreWellFormed (expressions (map tree_of (drop l.tree-index l.trees)));
  cells : cells_of l.table.items ++ flats (length l.table.items) (expressions (map tree_of (drop l.tree-index l.trees))) ≡ cells_of l.fn.table.items ++ flats (length l.fn.table.items) (expressions (map tree_of l.trees));
  count : length l.table.items + sizes (expressions (map tree_of (drop l.tree-index l.trees))) ≡ length l.fn.table.items + sizes (expressions (map tree_of l.trees));
  numbers : l.ids.items ++ roots (length l.table.items) (expressions (map tree_of (drop l.tree-index l.trees))) ≡ roots (length l.fn.table.items) (expressions (map tree_of l.trees));
}
