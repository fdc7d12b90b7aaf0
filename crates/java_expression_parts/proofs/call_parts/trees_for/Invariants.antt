-- The arguments so far stand in their contexts.
use Rattle.std.proofs.Common.{◌≡◌, map}
use Rattle.java_typed_trees.specs.ExpressionTrees.{tree_of}
use Rattle.java_expression_parts.specs.Arguments.{in_contexts}
use Rattle.java_expression_parts.specs.TypedParts.{trees_in, typing_of}
use Rattle.java_expression_parts.proofs.call_parts.trees_for.Given as goal

abbrev pub invariant-loop-argument : goal.invariant-loop-argument
invariant-loop-argument l = map tree_of l.trees.items ≡ in_contexts (map (λ x. x.vtype) l.params) (trees_in (map typing_of l.yielded))
