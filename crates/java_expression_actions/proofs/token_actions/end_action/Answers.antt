use Rattle.std.proofs.Common.{arith}
use Rattle.java_expression_actions.proofs.TokenActionLaws.{at_empty_statement, at_break, at_continue, at_block, at_constructor_body}
use Rattle.java_expression_actions.proofs.token_actions.end_action.Goals as goal

pub returns-in-EmptyStatement : goal.returns-in-EmptyStatement
returns-in-EmptyStatement c = grind (arith, at_empty_statement)

pub returns-in-Break : goal.returns-in-Break
returns-in-Break c = grind (arith, at_break)

pub returns-in-Continue : goal.returns-in-Continue
returns-in-Continue c = grind (arith, at_continue)

pub returns-in-Block : goal.returns-in-Block
returns-in-Block c = grind (arith, at_block)

pub returns-in-ConstructorBody : goal.returns-in-ConstructorBody
returns-in-ConstructorBody c = grind (arith, at_constructor_body)
