use Rattle.std.proofs.Common.{arith}
use Rattle.java_expression_actions.proofs.ExpressionActionLaws.{at_parentheses, at_names_inside, at_array_inside, at_expression_inside, at_end_operations}
use Rattle.java_expression_actions.proofs.expression_actions.parentheses_action.Goals as goal

pub returns-in-Parentheses : goal.returns-in-Parentheses
returns-in-Parentheses c = grind (arith, at_parentheses)

pub returns-in-NamesInside : goal.returns-in-NamesInside
returns-in-NamesInside c = grind (arith, at_names_inside)

pub returns-in-ArrayInside : goal.returns-in-ArrayInside
returns-in-ArrayInside c = grind (arith, at_array_inside)

pub returns-in-ExpressionInside : goal.returns-in-ExpressionInside
returns-in-ExpressionInside c = grind (arith, at_expression_inside)

pub returns-in_ok-joined-in-EndOperations : goal.returns-in_ok-joined-in-EndOperations
returns-in_ok-joined-in-EndOperations c = grind (arith, at_end_operations)
