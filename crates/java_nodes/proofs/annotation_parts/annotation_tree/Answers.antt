use Rattle.std.proofs.Common.{rules}
use Rattle.java_syntax.specs.declared.annotation_trees.Anno.{the_lemmas}
use Rattle.java_syntax.proofs.Rows.{arguments_are_items}
use Rattle.java_nodes.proofs.annotation_parts.annotation_tree.Goals as goal

pub returns : goal.returns
returns c = search (rules, the_lemmas, arguments_are_items)
