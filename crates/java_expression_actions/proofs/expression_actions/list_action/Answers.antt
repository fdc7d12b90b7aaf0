use Rattle.std.proofs.Common.{arith}
use Rattle.std.proofs.lemmas.List.{map-append}
use Rattle.java_expression_actions.proofs.ExpressionActionLaws.{at_no_expressions, at_and_expression, at_some_call, at_no_call, at_leave_place}
use Rattle.java_expression_actions.proofs.expression_actions.list_action.Goals as goal

pub returns-in-NoExpressions : goal.returns-in-NoExpressions
returns-in-NoExpressions c = λ limit. grind (arith, at_no_expressions)

pub returns-in_ok-made-in-AndExpression : goal.returns-in_ok-made-in-AndExpression
returns-in_ok-made-in-AndExpression c = λ limit. grind (arith, at_and_expression, map-append)

pub returns-in-SomeCall : goal.returns-in-SomeCall
returns-in-SomeCall c = λ limit. grind (arith, at_some_call)

pub returns-in-NoCall : goal.returns-in-NoCall
returns-in-NoCall c = λ limit. grind (arith, at_no_call)

pub returns-in-LeavePlace : goal.returns-in-LeavePlace
returns-in-LeavePlace c = λ limit. grind (arith, at_leave_place)
