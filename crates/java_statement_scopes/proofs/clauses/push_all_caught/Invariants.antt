use Rattle.std.proofs.Common.{◌≡◌, ◌++◌, map, drop}
use Rattle.java_syntax.specs.StatementTrees.{catch_of, catches}
use Rattle.java_statement_scopes.specs.Clauses.{caught_by_all}
use Rattle.java_statement_scopes.specs.Scopes.{surroundings_at}
use Rattle.java_statement_scopes.proofs.clauses.push_all_caught.Given as goal

abbrev pub invariant-loop-clause : goal.invariant-loop-clause
invariant-loop-clause l = l.caught.items ++ caught_by_all (surroundings_at l.scope l.locals) (catches (map catch_of (drop l.clause-index l.clauses))) ≡ l.fn.caught.items ++ caught_by_all (surroundings_at l.scope l.locals) (catches (map catch_of l.clauses))
