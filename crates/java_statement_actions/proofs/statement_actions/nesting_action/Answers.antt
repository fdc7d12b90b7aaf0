use Rattle.std.proofs.Common.{arith}
use Rattle.std.proofs.lemmas.List.{map-append}
use Rattle.java_statement_actions.proofs.StatementActionLaws.{at_block_statement, at_if, at_if_else, at_try, at_try_finally}
use Rattle.java_statement_actions.proofs.statement_actions.nesting_action.Goals as goal

pub returns-in-BlockStatement : goal.returns-in-BlockStatement
returns-in-BlockStatement c = grind (arith, at_block_statement)

pub returns-in-If : goal.returns-in-If
returns-in-If c = grind (arith, at_if)

pub returns-in-IfElse : goal.returns-in-IfElse
returns-in-IfElse c = grind (arith, at_if_else)

pub returns-in-Try : goal.returns-in-Try
returns-in-Try c = grind (arith, at_try)

pub returns-in-TryFinally : goal.returns-in-TryFinally
returns-in-TryFinally c = grind (arith, at_try_finally)
