-- The parts of the node are the trees of the list.
use Rattle.std.proofs.Common.{rules}
use Rattle.java_typed_trees.specs.declared.trees.ExpressionTree.{the_lemmas}
use Rattle.java_typed_trees.proofs.Parts.{parts_are_items}
use Rattle.java_typed_trees.proofs.trees.expression_tree.Goals as goal

pub returns : goal.returns
returns c = search (rules, the_lemmas, parts_are_items)
