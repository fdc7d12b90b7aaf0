-- What is made, and what is still to be made, are all.
use Rattle.std.proofs.Common.{◌≡◌, ◌++◌, map, drop}
use Rattle.java_syntax.specs.StatementTrees.{catch_of, catches, statements, stmt_of}
use Rattle.java_statement_rules.specs.Surroundings.{surroundings_of}
use Rattle.body_variables.specs.BodyVariables.{all_variables, catch_variables}
use Rattle.body_variables.specs.Declarations.{variable_in}
use Rattle.body_variables.proofs.statement_variables.+variables.Given as goal

abbrev pub invariant-push_statements-loop-t : goal.invariant-push_statements-loop-t
invariant-push_statements-loop-t l =
    map variable_in l.made.items ++ all_variables (surroundings_of l.scope) (statements (map stmt_of (drop l.t-index l.all))) ≡ map variable_in l.fn.made.items ++ all_variables (surroundings_of l.scope) (statements (map stmt_of l.all))

abbrev pub invariant-push_catches-loop-clause : goal.invariant-push_catches-loop-clause
invariant-push_catches-loop-clause l =
    map variable_in l.made.items ++ catch_variables (surroundings_of l.scope) (catches (map catch_of (drop l.clause-index l.all))) ≡ map variable_in l.fn.made.items ++ catch_variables (surroundings_of l.scope) (catches (map catch_of l.all))
