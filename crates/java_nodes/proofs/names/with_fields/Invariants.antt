use Rattle.std.proofs.Common.{◌≡◌, reverse, vec_len}
use Rattle.java_syntax.specs.ExpressionTrees.{expr_of}
use Rattle.java_values.specs.NestedTrees.{nested_of}
use Rattle.java_nodes.specs.Parts as parts
use Rattle.java_nodes.proofs.names.with_fields.Given as goal

abbrev pub invariant-loop-name : goal.invariant-loop-name
invariant-loop-name l = parts.fields_of l.limit (nested_of expr_of l.fn.first) (reverse l.fn.names.items) ≡ parts.fields_of l.limit (nested_of expr_of l.whole) (reverse l.names.items)

abbrev pub decreases-loop-name : goal.decreases-loop-name
decreases-loop-name l = vec_len l.names
