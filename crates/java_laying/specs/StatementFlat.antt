-- A typed statement as the cells of a body's two tables: its expressions, then the statements in it, and behind them itself.
use Rattle.std.specs.Prelude.{ℕ, ◌+◌, List, [], ◌∷◌, ◌++◌}
use Rattle.program_model.specs.declared.kinds.StmtId.{StmtId}
use Rattle.java_typed_trees.specs.StatementTrees.{StmtTree, StmtTrees, Statement, no_statement, and_statement}
use Rattle.java_laying.specs.Cells.{Cell}
use Rattle.java_laying.specs.Flat.{flats, roots, sizes}
use Rattle.java_laying.specs.StatementCells.{StatementCell}

abbrev mutual
  -- how many statements the tree has
  pub statement_size : StmtTree → ℕ
  statement_size (Statement f place es ss) = statement_sizes ss + 1

  pub statement_sizes : StmtTrees → ℕ
  statement_sizes no_statement = 0
  statement_sizes (and_statement t ts) = statement_size t + statement_sizes ts

abbrev mutual
  -- how many expressions the tree has
  pub expression_count : StmtTree → ℕ
  expression_count (Statement f place es ss) = sizes es + expression_counts ss

  pub expression_counts : StmtTrees → ℕ
  expression_counts no_statement = 0
  expression_counts (and_statement t ts) = expression_count t + expression_counts ts

-- how many of the statements stand before the node itself
abbrev pub statements_below : StmtTree → ℕ
statements_below (Statement f place es ss) = statement_sizes ss

-- the number of the node where its first statement has the number `m`
abbrev pub statement_root : ℕ → StmtTree → StmtId
statement_root m t = record { 0 = m + statements_below t }

-- the numbers of trees that are laid one behind another
abbrev pub statement_roots : ℕ → StmtTrees → List StmtId
statement_roots m no_statement = []
statement_roots m (and_statement t ts) = statement_root m t ∷ statement_roots (m + statement_size t) ts

abbrev mutual
  -- the cells of the expressions in the tree where the first has the number `n`
  pub flat_expressions : ℕ → StmtTree → List Cell
  flat_expressions n (Statement f place es ss) = flats n es ++ flats_expressions (n + sizes es) ss

  pub flats_expressions : ℕ → StmtTrees → List Cell
  flats_expressions n no_statement = []
  flats_expressions n (and_statement t ts) = flat_expressions n t ++ flats_expressions (n + expression_count t) ts

abbrev mutual
  -- the cells of the statements in the tree where the first has the number `m`, and the first expression the number `n`
  pub flat_statement : ℕ → ℕ → StmtTree → List StatementCell
  flat_statement m n (Statement f place es ss) = flat_statements m (n + sizes es) ss ++ record { form = f; pos = place; expressions = roots n es; statements = statement_roots m ss } ∷ []

  pub flat_statements : ℕ → ℕ → StmtTrees → List StatementCell
  flat_statements m n no_statement = []
  flat_statements m n (and_statement t ts) = flat_statement m n t ++ flat_statements (m + statement_size t) (n + expression_count t) ts
