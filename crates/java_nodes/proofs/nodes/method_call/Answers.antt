use Rattle.std.proofs.Common.{rules}
use Rattle.java_syntax.specs.declared.expression_trees.Expr.{the_lemmas}
use Rattle.java_syntax.proofs.Rows.{exprs_are_items}
use Rattle.java_nodes.proofs.nodes.method_call.Goals as goal

pub returns-in-Ok : goal.returns-in-Ok
returns-in-Ok c = search (rules, the_lemmas, exprs_are_items)
