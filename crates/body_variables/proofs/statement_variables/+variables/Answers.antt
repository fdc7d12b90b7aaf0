-- The statements of a block, and the clauses of a `try`, are the trees of their lists.
use Rattle.std.proofs.Common.{rules, arith, append_assoc}
use Rattle.std.proofs.lemmas.Grind.{common_steps}
use Rattle.java_syntax.specs.declared.statement_trees.Stmt.{the_lemmas}
use Rattle.java_syntax.proofs.Rows.{catches_are_items, stmts_are_items}
use Rattle.body_variables.proofs.statement_variables.+variables.Goals as goal

pub push_statement-returns-in-Block : goal.push_statement-returns-in-Block
push_statement-returns-in-Block t c = search (rules, the_lemmas, stmts_are_items)

pub push_statement-returns-in-None-finally : goal.push_statement-returns-in-None-finally
push_statement-returns-in-None-finally t c = first_of (search (rules, the_lemmas, stmts_are_items, catches_are_items, append_assoc), grind (arith, common_steps, the_lemmas, stmts_are_items, catches_are_items))

pub push_statement-returns-in-Some-finally : goal.push_statement-returns-in-Some-finally
push_statement-returns-in-Some-finally t c = first_of (search (rules, the_lemmas, stmts_are_items, catches_are_items, append_assoc), grind (arith, common_steps, the_lemmas, stmts_are_items, catches_are_items))
