-- Typed trees in which no `this` stands, and typed statements whose super calls have such arguments alone.
use Rattle.std.specs.Prelude.{◌≡◌, false}
use Rattle.java_typed_trees.specs.ExpressionTrees.{ExprTree, ExprTrees, Node, no_expression, and_expression}
use Rattle.java_typed_trees.specs.StatementTrees.{StatementForm, StmtTree, StmtTrees, Statement, no_statement, and_statement}
use Rattle.java_typed_trees.specs.StatementTrees as forms
use Rattle.acceptance_laws.specs.OrderedTrees.{is_this_shape}

abbrev mutual
  -- the expression is not `this`, written or implied, and none stands within it
  pub HoldsNoThis : ExprTree → Type 0
  HoldsNoThis (Node s t place parts) = (is_this_shape s ≡ false) × HoldNoThis parts

  pub HoldNoThis : ExprTrees → Type 0
  HoldNoThis no_expression = Unit {0}
  HoldNoThis (and_expression t ts) = HoldsNoThis t × HoldNoThis ts

-- a super call over these arguments; any other statement
abbrev pub FormPassesNoThis : StatementForm → ExprTrees → Type 0
FormPassesNoThis (forms.SuperCall m written) es = HoldNoThis es
FormPassesNoThis f es = Unit {0}

abbrev mutual
  -- the statement, and all statements in it
  pub TreePassesNoThis : StmtTree → Type 0
  TreePassesNoThis (Statement f place es ss) = FormPassesNoThis f es × TreesPassNoThis ss

  pub TreesPassNoThis : StmtTrees → Type 0
  TreesPassNoThis no_statement = Unit {0}
  TreesPassNoThis (and_statement t ts) = TreePassesNoThis t × TreesPassNoThis ts
