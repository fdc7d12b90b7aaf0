use Rattle.std.proofs.Common.{◌≡◌, reverse, vec_len, map}
use Rattle.java_syntax.specs.ExpressionTrees.{expr_of}
use Rattle.java_values.specs.NestedTrees.{nested_of, open_operation_of}
use Rattle.java_nodes.specs.Parts as parts
use Rattle.java_nodes.proofs.operations.close_operations.Given as goal

abbrev pub invariant-loop-operation : goal.invariant-loop-operation
invariant-loop-operation l = parts.closed l.limit l.level (nested_of expr_of l.fn.right) (map open_operation_of (reverse l.fn.waiting.items)) ≡ parts.closed l.limit l.level (nested_of expr_of l.operand) (map open_operation_of (reverse l.waiting.items))

abbrev pub decreases-loop-operation : goal.decreases-loop-operation
decreases-loop-operation l = vec_len l.waiting
