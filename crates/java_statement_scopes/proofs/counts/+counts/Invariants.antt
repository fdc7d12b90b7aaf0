-- What is counted, and what is still to be counted, are all.
use Rattle.std.proofs.Common.{◌≡◌, ◌+◌, map, drop}
use Rattle.java_syntax.specs.StatementTrees.{catch_of, catches, statements, stmt_of}
use Rattle.java_statement_scopes.specs.VariableCounts.{catches_count, statements_count}
use Rattle.java_statement_scopes.proofs.counts.+counts.Given as goal

abbrev pub invariant-statements_count-loop-t : goal.invariant-statements_count-loop-t
invariant-statements_count-loop-t l = l.count + statements_count (statements (map stmt_of (drop l.t-index l.all))) ≡ statements_count (statements (map stmt_of l.all))

abbrev pub invariant-catches_count-loop-clause : goal.invariant-catches_count-loop-clause
invariant-catches_count-loop-clause l = l.count + catches_count (catches (map catch_of (drop l.clause-index l.all))) ≡ catches_count (catches (map catch_of l.all))
