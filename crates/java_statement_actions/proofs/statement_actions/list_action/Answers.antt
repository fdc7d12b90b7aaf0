use Rattle.std.proofs.Common.{arith}
use Rattle.std.proofs.lemmas.List.{map-append}
use Rattle.java_statement_actions.proofs.StatementActionLaws.{at_and_statement, at_resource, at_and_name, at_first_expression, at_no_statements, at_no_resources, at_no_catches, at_no_names, at_catch}
use Rattle.java_statement_actions.proofs.statement_actions.list_action.Goals as goal

pub returns-in_ok-added-in-AndStatement : goal.returns-in_ok-added-in-AndStatement
returns-in_ok-added-in-AndStatement c = grind (arith, at_and_statement, map-append)

pub returns-in_ok-made-in-Resource : goal.returns-in_ok-made-in-Resource
returns-in_ok-made-in-Resource c = grind (arith, at_resource, map-append)

pub returns-in_ok-appended-in-AndName : goal.returns-in_ok-appended-in-AndName
returns-in_ok-appended-in-AndName c = grind (arith, at_and_name, map-append)

pub returns-in_ok-added-in-FirstExpression : goal.returns-in_ok-added-in-FirstExpression
returns-in_ok-added-in-FirstExpression c = grind (arith, at_first_expression, map-append)

pub returns-in-NoStatements : goal.returns-in-NoStatements
returns-in-NoStatements c = grind (arith, at_no_statements)

pub returns-in-NoResources : goal.returns-in-NoResources
returns-in-NoResources c = grind (arith, at_no_resources)

pub returns-in-NoCatches : goal.returns-in-NoCatches
returns-in-NoCatches c = grind (arith, at_no_catches)

pub returns-in-NoNames : goal.returns-in-NoNames
returns-in-NoNames c = grind (arith, at_no_names)

pub returns-in_ok-added-in-Catch : goal.returns-in_ok-added-in-Catch
returns-in_ok-added-in-Catch c = grind (arith, at_catch, map-append)
