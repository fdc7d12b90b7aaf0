-- What is declared, and what is declared behind it, is what the whole declaration declares.
use Rattle.std.proofs.Common.{◌≡◌, ◌+◌, ◌++◌, length, map, drop}
use Rattle.java_syntax.specs.StatementTrees.{variable_of}
use Rattle.java_typed_trees.specs.ExpressionTrees.{tree_of}
use Rattle.java_statement_parts.specs.Declarations.{declared_locals, declarators, initializer_trees, variables_cases}
use Rattle.java_statement_scopes.specs.Scopes.{context_at}
use Rattle.java_statement_parts.proofs.declarations.variables.Given as goal

abbrev pub invariant-loop-v : goal.invariant-loop-v
invariant-loop-v l = record {
  shapes : l.shapes.items ++ declarators l.next (map variable_of (drop l.v-index l.all)) ≡ declarators l.fn.next (map variable_of l.all);
  locals : l.locals.items ++ declared_locals (context_at l.scope l.locals.items l.next) l.shared (map variable_of (drop l.v-index l.all)) ≡ l.fn.locals.items ++ declared_locals (context_at l.scope l.fn.locals.items l.fn.next) l.shared (map variable_of l.all);
  next : l.next + length (drop l.v-index l.all) ≡ l.fn.next + length l.all;
  trees : map tree_of l.values.items ++ initializer_trees (context_at l.scope l.locals.items l.next) l.shared (map variable_of (drop l.v-index l.all)) ≡ map tree_of l.fn.values.items ++ initializer_trees (context_at l.scope l.fn.locals.items l.fn.next) l.shared (map variable_of l.all);
  cases : l.refusals.items ++ variables_cases (context_at l.scope l.locals.items l.next) l.shared (map variable_of (drop l.v-index l.all)) ≡ l.fn.refusals.items ++ variables_cases (context_at l.scope l.fn.locals.items l.fn.next) l.shared (map variable_of l.all);
}
