-- The resources so far, and those behind them, are all of the `try`.
use Rattle.std.proofs.Common.{◌≡◌, ◌+◌, ◌++◌, length, map, drop}
use Rattle.java_syntax.specs.StatementTrees.{resource_of}
use Rattle.java_typed_trees.specs.ExpressionTrees.{tree_of}
use Rattle.java_statement_parts.specs.Resources.{opening_trees, resource_locals, resource_shapes, resources_cases}
use Rattle.java_statement_scopes.specs.Scopes.{context_at}
use Rattle.java_statement_parts.proofs.resources.try_resources.Given as goal

abbrev pub invariant-loop-r : goal.invariant-loop-r
invariant-loop-r l = record {
  shapes : l.shapes.items ++ resource_shapes (context_at l.scope l.locals.items l.next) (map resource_of (drop l.r-index l.all)) ≡ l.fn.shapes.items ++ resource_shapes (context_at l.scope l.fn.locals.items l.fn.next) (map resource_of l.all);
  locals : l.locals.items ++ resource_locals (context_at l.scope l.locals.items l.next) (map resource_of (drop l.r-index l.all)) ≡ l.fn.locals.items ++ resource_locals (context_at l.scope l.fn.locals.items l.fn.next) (map resource_of l.all);
  next : l.next + length (drop l.r-index l.all) ≡ l.fn.next + length l.all;
  trees : map tree_of l.values.items ++ opening_trees (context_at l.scope l.locals.items l.next) (map resource_of (drop l.r-index l.all)) ≡ map tree_of l.fn.values.items ++ opening_trees (context_at l.scope l.fn.locals.items l.fn.next) (map resource_of l.all);
  cases : l.refusals.items ++ resources_cases (context_at l.scope l.locals.items l.next) (map resource_of (drop l.r-index l.all)) l.pos ≡ l.fn.refusals.items ++ resources_cases (context_at l.scope l.fn.locals.items l.fn.next) (map resource_of l.all) l.pos;
}
