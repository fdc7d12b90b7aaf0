use Rattle.std.proofs.Common.{rules}
use Rattle.java_syntax.specs.declared.statement_trees.Stmt.{the_lemmas}
use Rattle.java_syntax.proofs.Rows.{stmts_are_items, catches_are_items}
use Rattle.java_nodes.proofs.statement_parts.try_tree.Goals as goal

pub returns-in-Some : goal.returns-in-Some
returns-in-Some c = search (rules, the_lemmas, stmts_are_items, catches_are_items)

pub returns-in-None : goal.returns-in-None
returns-in-None c = search (rules, the_lemmas, stmts_are_items, catches_are_items)
