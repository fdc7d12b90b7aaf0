-- A tree in memory is a node over the trees of its lists: what is asked and promised of it is said of those.
use Rattle.std.proofs.Common.{rules, arith, length}
use Rattle.std.proofs.lemmas.Grind.{common_steps}
use Rattle.java_typed_trees.specs.declared.statements.StatementTree.{the_lemmas}
use Rattle.java_laying.specs.Cells.{cells_of}
use Rattle.java_laying.proofs.Nodes.{count_of_roots}
use Rattle.java_laying.proofs.StatementNodes.{takes_parts_of_statement, values_well_formed, inner_well_formed, size_of_statement, count_of_statement, count_of_statement_roots, number_of_statement, cells_with_statement, cells_of_inner}
use Rattle.java_laying.proofs.statements.+laying_statements.Goals as goal

pub lay_statement-lay_expressions-requires : goal.lay_statement-lay_expressions-requires
lay_statement-lay_expressions-requires t c = record { well_formed = search (rules, values_well_formed); room = grind (arith, common_steps, count_of_statement) }

pub lay_statement-lay_statements-requires : goal.lay_statement-lay_statements-requires
lay_statement-lay_statements-requires t c = (search (rules, the_lemmas), (search (rules, inner_well_formed), (grind (arith, common_steps, size_of_statement), grind (arith, common_steps, count_of_statement))))

pub lay_statement-overflow_cast-id : goal.lay_statement-overflow_cast-id
lay_statement-overflow_cast-id t c = grind (arith, common_steps, size_of_statement)

pub lay_statement-statement_kind-requires : goal.lay_statement-statement_kind-requires
lay_statement-statement_kind-requires t c = search (rules, takes_parts_of_statement, count_of_roots, count_of_statement_roots)

pub lay_statement-returns-clause-cells : goal.lay_statement-returns-clause-cells
lay_statement-returns-clause-cells t c = search (rules, cells_with_statement)

pub lay_statement-returns-clause-expressions : goal.lay_statement-returns-clause-expressions
lay_statement-returns-clause-expressions t c = cells_of_inner _ (cells_of c.lay_expressions.new.table.items) _ (length c.args.values.now.items) (length c.lay_expressions.new.table.items) c.args.tree.now (search rules) (search rules) (search rules)

pub lay_statement-returns-clause-count : goal.lay_statement-returns-clause-count
lay_statement-returns-clause-count t c = grind (arith, common_steps, size_of_statement)

pub lay_statement-returns-clause-count_of_expressions : goal.lay_statement-returns-clause-count_of_expressions
lay_statement-returns-clause-count_of_expressions t c = grind (arith, common_steps, count_of_statement)

pub lay_statement-returns-clause-number : goal.lay_statement-returns-clause-number
lay_statement-returns-clause-number t c = number_of_statement _ _ c.args.tree.now (grind (arith, common_steps))
