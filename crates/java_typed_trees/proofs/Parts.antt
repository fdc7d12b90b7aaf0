-- The parts of a typed expression or statement are the trees of its list.
use Rattle.std.specs.Prelude.{◌≡◌, refl, map}
use Rattle.std.proofs.Common.{ap}
use Rattle.java_typed_trees.specs.declared.trees.ExpressionTree as expr
use Rattle.java_typed_trees.specs.declared.statements.StatementTree as stmt
use Rattle.java_typed_trees.specs.ExpressionTrees.{expressions, tree_of, trees_of, and_expression}
use Rattle.java_typed_trees.specs.StatementTrees.{statements, statement_of, statements_of, and_statement}

pub parts_are_items : (n : _) (row : expr.Row_of-ExpressionTree n) → trees_of row ≡ expressions (map tree_of (expr.items-the_row-ExpressionTree n row))
parts_are_items _ expr.end_of-ExpressionTree = refl
parts_are_items _ (expr.more_of-ExpressionTree e rest) = ap (and_expression (tree_of e)) (parts_are_items _ rest)

pub statements_are_items : (n : _) (row : stmt.Row_of-StatementTree n) → statements_of row ≡ statements (map statement_of (stmt.items-the_row-StatementTree n row))
statements_are_items _ stmt.end_of-StatementTree = refl
statements_are_items _ (stmt.more_of-StatementTree s rest) = ap (and_statement (statement_of s)) (statements_are_items _ rest)
