use Rattle.std.proofs.Common.{arith}
use Rattle.java_expression_actions.proofs.ExpressionActionLaws.{at_head, at_selector, at_super_method_call, at_named_call, at_name_expression, at_new_object}
use Rattle.java_expression_actions.proofs.expression_actions.call_action.Goals as goal

pub returns-in-Head : goal.returns-in-Head
returns-in-Head c = grind (arith, at_head)

pub returns-in-Selector : goal.returns-in-Selector
returns-in-Selector c = grind (arith, at_selector)

pub returns-in-SuperMethodCall : goal.returns-in-SuperMethodCall
returns-in-SuperMethodCall c = grind (arith, at_super_method_call)

pub returns-in-NamedCall : goal.returns-in-NamedCall
returns-in-NamedCall c = grind (arith, at_named_call)

pub returns-in-NameExpression : goal.returns-in-NameExpression
returns-in-NameExpression c = grind (arith, at_name_expression)

pub returns-in-NewObject : goal.returns-in-NewObject
returns-in-NewObject c = grind (arith, at_new_object)
