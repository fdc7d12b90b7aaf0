-- A typed tree as the cells of a table: the parts one after another in their order, and behind them the node.
use Rattle.std.specs.Prelude.{ℕ, ◌+◌, List, [], ◌∷◌, ◌++◌}
use Rattle.program_model.specs.declared.kinds.ExprId.{ExprId}
use Rattle.java_typed_trees.specs.ExpressionTrees.{ExprTree, ExprTrees, Node, no_expression, and_expression}
use Rattle.java_laying.specs.Cells.{Cell}

abbrev mutual
  -- how many expressions the tree has
  pub size : ExprTree → ℕ
  size (Node s t place parts) = sizes parts + 1

  pub sizes : ExprTrees → ℕ
  sizes no_expression = 0
  sizes (and_expression t ts) = size t + sizes ts

-- how many of them stand before the node itself
abbrev pub below : ExprTree → ℕ
below (Node s t place parts) = sizes parts

-- the number of the node where its first cell has the number `n`
abbrev pub root : ℕ → ExprTree → ExprId
root n t = record { 0 = n + below t }

-- the numbers of trees that are laid one behind another
abbrev pub roots : ℕ → ExprTrees → List ExprId
roots n no_expression = []
roots n (and_expression t ts) = root n t ∷ roots (n + size t) ts

abbrev mutual
  -- the cells of the tree where the first has the number `n`
  pub flat : ℕ → ExprTree → List Cell
  flat n (Node s t place parts) = flats n parts ++ record { shape = s; vtype = t; pos = place; parts = roots n parts } ∷ []

  pub flats : ℕ → ExprTrees → List Cell
  flats n no_expression = []
  flats n (and_expression t ts) = flat n t ++ flats (n + size t) ts
