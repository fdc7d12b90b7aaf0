-- The parts of the tree are the trees of its list.
use Rattle.std.proofs.Common.{ap, sym}
use Rattle.java_expression_parts.specs.TypedParts.{parts_of}
use Rattle.java_expression_parts.proofs.Nodes.{tree_is_node}
use Rattle.java_expression_parts.proofs.typing.into_parts.Goals as goal

pub returns : goal.returns
returns c = sym (ap parts_of (tree_is_node c.args.tree))
