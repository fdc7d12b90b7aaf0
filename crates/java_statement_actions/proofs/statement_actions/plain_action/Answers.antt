use Rattle.std.proofs.Common.{arith}
use Rattle.std.proofs.lemmas.List.{map-append}
use Rattle.java_statement_actions.proofs.StatementActionLaws.{at_local_statement, at_expression_statement, at_return, at_throw, at_some_expression, at_no_expression}
use Rattle.java_statement_actions.proofs.statement_actions.plain_action.Goals as goal

pub returns-in-LocalStatement : goal.returns-in-LocalStatement
returns-in-LocalStatement c = grind (arith, at_local_statement)

pub returns-in-ExpressionStatement : goal.returns-in-ExpressionStatement
returns-in-ExpressionStatement c = grind (arith, at_expression_statement)

pub returns-in-Return : goal.returns-in-Return
returns-in-Return c = grind (arith, at_return)

pub returns-in-Throw : goal.returns-in-Throw
returns-in-Throw c = grind (arith, at_throw)

pub returns-in-SomeExpression : goal.returns-in-SomeExpression
returns-in-SomeExpression c = grind (arith, at_some_expression)

pub returns-in-NoExpression : goal.returns-in-NoExpression
returns-in-NoExpression c = grind (arith, at_no_expression)
