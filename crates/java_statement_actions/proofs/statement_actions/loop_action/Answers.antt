use Rattle.std.proofs.Common.{arith}
use Rattle.std.proofs.lemmas.List.{map-append}
use Rattle.java_statement_actions.proofs.StatementActionLaws.{at_while, at_do, at_for, at_for_local, at_for_expressions}
use Rattle.java_statement_actions.proofs.statement_actions.loop_action.Goals as goal

pub returns-in-While : goal.returns-in-While
returns-in-While c = grind (arith, at_while)

pub returns-in-Do : goal.returns-in-Do
returns-in-Do c = grind (arith, at_do)

pub returns-in-For : goal.returns-in-For
returns-in-For c = grind (arith, at_for)

pub returns-in-ForLocal : goal.returns-in-ForLocal
returns-in-ForLocal c = grind (arith, at_for_local)

pub returns-in-ForExpressions : goal.returns-in-ForExpressions
returns-in-ForExpressions c = grind (arith, at_for_expressions)
