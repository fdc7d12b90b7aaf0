use Rattle.std.proofs.Common.{◌≡◌, ◌++◌, map, take}
use Rattle.java_syntax.specs.ExpressionTrees.{expr_of}
use Rattle.java_typed_trees.specs.ExpressionTrees.{tree_of}
use Rattle.java_statement_parts.specs.Heads.{expression_trees, expressions_cases}
use Rattle.java_statement_scopes.specs.Scopes.{surroundings_at}
use Rattle.java_statement_parts.proofs.values.push_expressions.Given as goal

abbrev pub invariant-loop-e : goal.invariant-loop-e
invariant-loop-e l = record {
  trees : map tree_of l.values.items ≡ map tree_of l.fn.values.items ++ expression_trees (surroundings_at l.scope l.locals) (map expr_of (take l.e-index l.es));
  cases : l.refusals.items ≡ l.fn.refusals.items ++ expressions_cases (surroundings_at l.scope l.locals) (map expr_of (take l.e-index l.es));
}
