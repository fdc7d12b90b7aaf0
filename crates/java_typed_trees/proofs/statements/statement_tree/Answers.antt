-- The statements in the node are the trees of the list.
use Rattle.std.proofs.Common.{rules}
use Rattle.java_typed_trees.specs.declared.statements.StatementTree.{the_lemmas}
use Rattle.java_typed_trees.proofs.Parts.{statements_are_items}
use Rattle.java_typed_trees.proofs.statements.statement_tree.Goals as goal

pub returns : goal.returns
returns c = search (rules, the_lemmas, statements_are_items)
