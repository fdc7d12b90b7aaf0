-- The parts so far are in the context, but for the first; all else is as it was.
use Rattle.std.proofs.Common.{◌≡◌, map}
use Rattle.java_typed_trees.specs.declared.trees.ExpressionTree.{out-ExpressionTree}
use Rattle.java_typed_trees.specs.ExpressionTrees.{tree_of}
use Rattle.java_expression_parts.proofs.ContextLaws.{changed}
use Rattle.java_expression_parts.proofs.contexts.+in_context.Given as goal

abbrev pub invariant-loop-number : goal.invariant-loop-number
invariant-loop-number l = record {
  unvisited : goal.unvisited-loop-number l;
  shape : (out-ExpressionTree l.tree).shape ≡ (out-ExpressionTree l.initial.tree).shape;
  place : (out-ExpressionTree l.tree).pos ≡ (out-ExpressionTree l.initial.tree).pos;
  type : (out-ExpressionTree l.tree).vtype ≡ (out-ExpressionTree l.initial.tree).vtype;
  parts : map tree_of (out-ExpressionTree l.tree).parts.items ≡ changed l.wanted l.number (map tree_of (out-ExpressionTree l.initial.tree).parts.items);
}
