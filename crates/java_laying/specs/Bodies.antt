-- A body whose tables are laid typed statements.
use Rattle.std.specs.Prelude.{◌≡◌}
use Rattle.program_model.specs.declared.tree.Body.{Body}
use Rattle.java_typed_trees.specs.StatementTrees.{StmtTrees}
use Rattle.java_laying.specs.Cells.{cells_of}
use Rattle.java_laying.specs.StatementCells.{statement_cells}
use Rattle.java_laying.specs.StatementFlat.{flat_statements, flats_expressions, statement_roots}
use Rattle.java_laying.specs.StatementForest.{StatementsStandAt}

-- the tables of the body are the cells of these statements, and its own statements are their roots
pub record IsLaid (b : Body) (ts : StmtTrees) : Type 0 where
  pub statements : statement_cells b.statements.items ≡ flat_statements 0 0 ts
  pub expressions : cells_of b.expressions.items ≡ flats_expressions 0 ts
  pub own : b.stmts.items ≡ statement_roots 0 ts

-- at the numbers of the body's own statements stand these
abbrev pub HasStatements : Body → StmtTrees → Type 0
HasStatements b ts = StatementsStandAt (statement_cells b.statements.items) (cells_of b.expressions.items) b.stmts.items ts
