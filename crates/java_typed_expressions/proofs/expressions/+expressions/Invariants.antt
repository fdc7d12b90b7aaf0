-- The arguments that are typed, and those that are left, are all arguments.
use Rattle.std.proofs.Common.{◌≡◌, ◌++◌, map, drop}
use Rattle.java_syntax.specs.ExpressionTrees.{expr_of, expressions}
use Rattle.java_call_rules.specs.Surroundings.{surroundings_of}
use Rattle.java_call_rules.specs.TypedParts.{typing_of}
use Rattle.java_typed_expressions.specs.Cases.{argument_cases}
use Rattle.java_typed_expressions.specs.Typings.{typings}
use Rattle.java_typed_expressions.proofs.expressions.+expressions.Given as goal

abbrev pub invariant-arguments-loop-e : goal.invariant-arguments-loop-e
invariant-arguments-loop-e l = record {
  typings : map typing_of l.all.items ++ typings (surroundings_of l.scope) (expressions (map expr_of (drop l.e-index l.es))) ≡ typings (surroundings_of l.scope) (expressions (map expr_of l.es));
  cases : l.refusals.items ++ argument_cases (surroundings_of l.scope) (expressions (map expr_of (drop l.e-index l.es))) ≡ l.fn.refusals.items ++ argument_cases (surroundings_of l.scope) (expressions (map expr_of l.es));
}
