-- An operand and the operators that wait for more than it, without addresses.
use Rattle.std.specs.Prelude.{map, reverse}
use Rattle.java_syntax.specs.ExpressionTrees.{expr_of}
use Rattle.java_nodes.specs.declared.operations.Closed.{Closed}
use Rattle.java_values.specs.NestedTrees.{nested_of, open_operation_of}
use Rattle.java_nodes.specs.Parts.{ClosedTree}

abbrev pub closed_of : Closed → ClosedTree
closed_of c = record { operand = nested_of expr_of c.operand; waiting = map open_operation_of (reverse c.waiting.items) }
