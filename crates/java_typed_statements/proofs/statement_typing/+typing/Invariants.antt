-- What the statements so far give, and what those behind them give, is what all of them give.
use Rattle.std.proofs.Common.{◌≡◌, ◌+◌, ◌++◌, length, map, drop, take, ◌≤◌}
use Rattle.java_syntax.specs.StatementTrees.{catch_of, catches, statements, stmt_of}
use Rattle.java_typed_trees.specs.StatementTrees.{catch_form, statement_of}
use Rattle.java_statement_rules.specs.Completions.{and_then, one_of}
use Rattle.java_statement_scopes.specs.Scopes.{context_at}
use Rattle.java_typed_statements.specs.StatementCases.{catches_cases, statements_cases}
use Rattle.java_typed_statements.specs.StatementCompletions.{catches_completion, statements_completion}
use Rattle.java_typed_statements.specs.StatementTrees.{catch_forms, catch_trees, statement_trees}
use Rattle.java_statement_scopes.specs.VariableCounts.{catches_count, statements_count}
use Rattle.java_typed_statements.proofs.statement_typing.+typing.Given as goal

abbrev pub invariant-statements-loop-t : goal.invariant-statements-loop-t
invariant-statements-loop-t l = record {
  count : l.count ≡ length l.fn.locals.items;
  front : take (length l.fn.locals.items) l.locals.items ≡ l.fn.locals.items;
  longer : length l.fn.locals.items ≤ length l.locals.items;
  completion : and_then l.done (statements_completion (context_at l.scope l.locals.items l.next) (statements (map stmt_of (drop l.t-index l.all)))) ≡ statements_completion (context_at l.scope l.fn.locals.items l.fn.next) (statements (map stmt_of l.all));
  tree : map statement_of l.trees.items ++ statement_trees (context_at l.scope l.locals.items l.next) (statements (map stmt_of (drop l.t-index l.all))) ≡ map statement_of l.fn.trees.items ++ statement_trees (context_at l.scope l.fn.locals.items l.fn.next) (statements (map stmt_of l.all));
  cases : l.refusals.items ++ statements_cases (context_at l.scope l.locals.items l.next) (statements (map stmt_of (drop l.t-index l.all))) ≡ l.fn.refusals.items ++ statements_cases (context_at l.scope l.fn.locals.items l.fn.next) (statements (map stmt_of l.all));
  next : l.next + statements_count (statements (map stmt_of (drop l.t-index l.all))) ≡ l.fn.next + statements_count (statements (map stmt_of l.all));
}

abbrev pub invariant-clauses-loop-clause : goal.invariant-clauses-loop-clause
invariant-clauses-loop-clause l = record {
  count : l.count ≡ length l.fn.locals.items;
  locals : l.locals.items ≡ l.fn.locals.items;
  completion : one_of l.done (catches_completion (context_at l.scope l.fn.locals.items l.next) (catches (map catch_of (drop l.clause-index l.all)))) ≡ catches_completion (context_at l.scope l.fn.locals.items l.fn.next) (catches (map catch_of l.all));
  shapes : map catch_form l.shapes.items ++ catch_forms (context_at l.scope l.fn.locals.items l.next) (catches (map catch_of (drop l.clause-index l.all))) ≡ map catch_form l.fn.shapes.items ++ catch_forms (context_at l.scope l.fn.locals.items l.fn.next) (catches (map catch_of l.all));
  tree : map statement_of l.trees.items ++ catch_trees (context_at l.scope l.fn.locals.items l.next) (catches (map catch_of (drop l.clause-index l.all))) ≡ map statement_of l.fn.trees.items ++ catch_trees (context_at l.scope l.fn.locals.items l.fn.next) (catches (map catch_of l.all));
  cases : l.refusals.items ++ catches_cases (context_at l.scope l.fn.locals.items l.next) (catches (map catch_of (drop l.clause-index l.all))) l.pos ≡ l.fn.refusals.items ++ catches_cases (context_at l.scope l.fn.locals.items l.fn.next) (catches (map catch_of l.all)) l.pos;
  next : l.next + catches_count (catches (map catch_of (drop l.clause-index l.all))) ≡ l.fn.next + catches_count (catches (map catch_of l.all));
}
