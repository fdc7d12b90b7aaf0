use Rattle.std.proofs.Common.{rules}
use Rattle.java_syntax.specs.declared.annotation_trees.AnnoValue.{the_lemmas}
use Rattle.java_syntax.proofs.Rows.{values_are_items}
use Rattle.java_nodes.proofs.annotation_parts.values_as_value.Goals as goal

pub returns : goal.returns
returns c = search (rules, the_lemmas, values_are_items)
