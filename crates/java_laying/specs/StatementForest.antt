-- Which statement stands at a number of a body's tables, and that each node of laid statements has one parent.
use Rattle.std.specs.Prelude.{◌≡◌, ◌<◌, ◌+◌, ℕ, Some, List, [], ◌∷◌, ◌++◌, All, flat_map, map, slice_get}
use Rattle.std.specs.List.{range_with_len}
use Rattle.program_model.specs.declared.kinds.ExprId.{ExprId}
use Rattle.program_model.specs.declared.kinds.StmtId.{StmtId}
use Rattle.java_typed_trees.specs.StatementTrees.{StmtTree, StmtTrees, Statement, no_statement, and_statement}
use Rattle.java_laying.specs.Cells.{Cell}
use Rattle.java_laying.specs.StatementCells.{StatementCell}
use Rattle.java_laying.specs.StatementFlat.{expression_count, flat_expressions, flat_statement, statement_root, statement_size}
use Rattle.java_laying.specs.Forest.{HaveSameNumbers, StandAt, part_numbers}

abbrev mutual
  -- the statement stands at the number: a cell with its form and place, at whose parts its parts stand
  pub StatementStandsAt : List StatementCell → List Cell → StmtId → StmtTree → Type 0
  StatementStandsAt own values s (Statement f place es ss) = (ids : List ExprId) × (inner : List StmtId) × (slice_get own s.0 ≡ Some record { form = f; pos = place; expressions = ids; statements = inner }) × StandAt values ids es × StatementsStandAt own values inner ss

  pub StatementsStandAt : List StatementCell → List Cell → List StmtId → StmtTrees → Type 0
  StatementsStandAt own values ids no_statement = ids ≡ []
  StatementsStandAt own values ids (and_statement t ts) = (first : StmtId) × (more : List StmtId) × (ids ≡ first ∷ more) × StatementStandsAt own values first t × StatementsStandAt own values more ts

-- the numbers of the expressions that stand as parts of statements
abbrev pub expression_numbers : List StatementCell → List ℕ
expression_numbers cells = map (λ e. e.0) (flat_map (λ c. c.expressions) cells)

-- the numbers of the statements that stand as parts of statements
abbrev pub inner_numbers : List StatementCell → List ℕ
inner_numbers cells = map (λ s. s.0) (flat_map (λ c. c.statements) cells)

-- each expression of the statement is a part of one statement or expression
abbrev pub ExpressionsHaveOneParent : ℕ → ℕ → StmtTree → Type 0
ExpressionsHaveOneParent m n t = HaveSameNumbers (expression_numbers (flat_statement m n t) ++ part_numbers (flat_expressions n t)) (range_with_len n (expression_count t))

-- of the statements in it, each but the root is a part of one, and the root of none
abbrev pub StatementsHaveOneParent : ℕ → ℕ → StmtTree → Type 0
StatementsHaveOneParent m n t = HaveSameNumbers (inner_numbers (flat_statement m n t) ++ (statement_root m t).0 ∷ []) (range_with_len m (statement_size t))

-- the statements in each stand before it, where the first cell has the number `m`
abbrev pub FollowInner : ℕ → List StatementCell → Type 0
FollowInner m [] = Unit {0}
FollowInner m (c ∷ cells) = All (λ s. s.0 < m) c.statements × FollowInner (m + 1) cells

-- the expressions that are parts of statements have numbers below the bound
abbrev pub ExpressionsBelow : ℕ → List StatementCell → Type 0
ExpressionsBelow bound cells = All (λ c. All (λ e. e.0 < bound) c.expressions) cells
