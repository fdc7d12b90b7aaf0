-- A block and a `try` are nodes over the trees of their lists.
use Rattle.std.proofs.Common.{rules, arith, ap, ◌∙◌}
use Rattle.std.proofs.lemmas.Grind.{common_steps}
use Rattle.java_syntax.specs.StatementTrees.{stmt_of}
use Rattle.java_statement_scopes.proofs.Nodes.{block_is_node, try_is_node}
use Rattle.java_statement_scopes.proofs.counts.+counts.Goals as goal

pub variable_count-returns-in-Block : goal.variable_count-returns-in-Block
variable_count-returns-in-Block t c =
    let node = ap stmt_of c.in-Block.is ∙ block_is_node c.in-Block.block in
    rw node (search rules)

pub variable_count-returns-in_ok-finally_count-in-Try : goal.variable_count-returns-in_ok-finally_count-in-Try
variable_count-returns-in_ok-finally_count-in-Try t c =
    let node = ap stmt_of c.in-Try.is ∙ try_is_node c.in-Try.resources c.in-Try.block c.in-Try.catches c.in-Try.finally c.in-Try.pos in
    rw node (first_of (search rules, grind (arith, common_steps)))
