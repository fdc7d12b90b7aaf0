-- The children of a node are the trees of its list.
use Rattle.std.specs.Prelude.{◌≡◌, refl, map, List, ◌∷◌}
use Rattle.std.proofs.Common.{ap, sym}
use Rattle.java_syntax.specs.declared.expression_trees.Expr as expr
use Rattle.java_syntax.specs.declared.annotation_trees.Anno as anno
use Rattle.java_syntax.specs.declared.annotation_trees.AnnoValue as value
use Rattle.java_syntax.specs.declared.statement_trees.Stmt as stmt
use Rattle.java_syntax.specs.ExpressionTrees.{ExprTree, ExprTrees, expressions, expr_of, exprs_of, and_expression}
use Rattle.java_syntax.specs.AnnotationTrees.{AnnoArguments, AnnoValues, modifier_of, arguments, values, argument_of, anno_value_of, anno_arguments_of, anno_values_of, and_argument, and_value}
use Rattle.java_syntax.specs.StatementTrees.{StmtTrees, CatchTrees, BlockTree, Braces, statements, catches, stmt_of, stmts_of, catches_of, catch_of, and_statement, and_catch}

pub exprs_are_items : (n : _) (row : expr.Row_of-Expr n) → exprs_of row ≡ expressions (map expr_of (expr.items-the_row-Expr n row))
exprs_are_items _ expr.end_of-Expr = refl
exprs_are_items _ (expr.more_of-Expr e rest) = ap (and_expression (expr_of e)) (exprs_are_items _ rest)

pub values_are_items : (n : _) (row : value.Row_of-AnnoValue n) → anno_values_of row ≡ values (map anno_value_of (value.items-the_row-AnnoValue n row))
values_are_items _ value.end_of-AnnoValue = refl
values_are_items _ (value.more_of-AnnoValue v rest) = ap (and_value (anno_value_of v)) (values_are_items _ rest)

pub arguments_are_items : (n : _) (row : anno.Row_of-AnnoArgument n) → anno_arguments_of row ≡ arguments (map argument_of (anno.items-the_row-AnnoArgument n row))
arguments_are_items _ anno.end_of-AnnoArgument = refl
arguments_are_items _ (anno.more_of-AnnoArgument key v rest) = ap (and_argument key (anno_value_of v)) (arguments_are_items _ rest)

pub stmts_are_items : (n : _) (row : stmt.Row_of-Stmt n) → stmts_of row ≡ statements (map stmt_of (stmt.items-the_row-Stmt n row))
stmts_are_items _ stmt.end_of-Stmt = refl
stmts_are_items _ (stmt.more_of-Stmt s rest) = ap (and_statement (stmt_of s)) (stmts_are_items _ rest)

pub catches_are_items : (n : _) (row : stmt.Row_of-Catch n) → catches_of row ≡ catches (map catch_of (stmt.items-the_row-Catch n row))
catches_are_items _ stmt.end_of-Catch = refl
catches_are_items _ (stmt.more_of-Catch modifiers classes name shape all pos end rest) =
    rw (stmt.items_shown-the_row-Stmt-0 shape all, sym (stmts_are_items _ all)) (ap (λ (cs : CatchTrees). and_catch (map modifier_of modifiers.items) classes.items name (Braces (stmts_of all) pos end) cs) (catches_are_items _ rest))
