use Rattle.std.proofs.Common.{arith}
use Rattle.java_expression_actions.proofs.TokenActionLaws.{at_literal, at_this, at_increment, at_operator, at_instance_operator}
use Rattle.java_expression_actions.proofs.token_actions.operand_action.Goals as goal

pub returns-in-Literal : goal.returns-in-Literal
returns-in-Literal c = grind (arith, at_literal)

pub returns-in-This : goal.returns-in-This
returns-in-This c = grind (arith, at_this)

pub returns-in-Increment : goal.returns-in-Increment
returns-in-Increment c = grind (arith, at_increment)

pub returns-in_ok-operations-in-Operator : goal.returns-in_ok-operations-in-Operator
returns-in_ok-operations-in-Operator c = grind (arith, at_operator)

pub returns-in_ok-joined-in-InstanceOperator : goal.returns-in_ok-joined-in-InstanceOperator
returns-in_ok-joined-in-InstanceOperator c = grind (arith, at_instance_operator)
