use Rattle.std.proofs.Common.{rules}
use Rattle.java_syntax.specs.declared.statement_trees.Stmt.{the_lemmas}
use Rattle.java_syntax.proofs.Rows.{stmts_are_items, catches_are_items}
use Rattle.java_nodes.proofs.statement_parts.block_statement.Goals as goal

pub returns : goal.returns
returns c = search (rules, the_lemmas, stmts_are_items, catches_are_items)
