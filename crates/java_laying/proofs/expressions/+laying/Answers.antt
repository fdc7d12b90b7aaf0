use Rattle.std.proofs.Common.{rules, arith}
use Rattle.std.proofs.lemmas.Grind.{common_steps}
use Rattle.java_laying.proofs.Nodes.{parts_well_formed, takes_parts, size_of_node, cells_with_node, number_of_node, count_of_roots}
use Rattle.java_typed_trees.specs.declared.trees.ExpressionTree.{the_lemmas}
use Rattle.java_laying.proofs.expressions.+laying.Goals as goal

pub lay_expression-lay_expressions-requires : goal.lay_expression-lay_expressions-requires
lay_expression-lay_expressions-requires t c = (search (rules, the_lemmas), (search (rules, parts_well_formed), grind (arith, common_steps, size_of_node)))

pub lay_expression-overflow_cast-id : goal.lay_expression-overflow_cast-id
lay_expression-overflow_cast-id t c = grind (arith, common_steps, size_of_node)

pub lay_expression-kind_of-requires : goal.lay_expression-kind_of-requires
lay_expression-kind_of-requires t c = search (rules, takes_parts, count_of_roots)

pub lay_expression-returns-clause-cells : goal.lay_expression-returns-clause-cells
lay_expression-returns-clause-cells t c = search (rules, cells_with_node)

pub lay_expression-returns-clause-count : goal.lay_expression-returns-clause-count
lay_expression-returns-clause-count t c = grind (arith, common_steps, size_of_node)

pub lay_expression-returns-clause-number : goal.lay_expression-returns-clause-number
lay_expression-returns-clause-number t c = number_of_node _ _ c.args.tree.now (grind (arith, common_steps))
