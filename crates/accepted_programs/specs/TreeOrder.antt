-- Tables in which the parts of a statement or expression stand before it, as those of a tree do.
use Rattle.std.specs.Prelude.{◌≡◌, ◌<◌, Some, All}
use Rattle.program_model.specs.declared.kinds.ExprId.{ExprId}
use Rattle.program_model.specs.declared.kinds.StmtId.{StmtId}
use Rattle.program_model.specs.declared.tree.Body.{Body}
use Rattle.program_model.specs.declared.tree.TExpr.{TExpr}
use Rattle.program_model.specs.declared.tree.TStmt.{TStmt}
use Rattle.program_model.specs.Lookups.{expression_at, statement_at}
use Rattle.program_model.specs.Trees.{operands, statements_in}

pub record PartsComeFirst (b : Body) : Type 0 where
  pub statements : (s : StmtId) (x : TStmt) → statement_at b s ≡ Some x → All (λ t. t.0 < s.0) (statements_in x.kind)
  pub expressions : (e : ExprId) (x : TExpr) → expression_at b e ≡ Some x → All (λ o. o.0 < e.0) (operands x.kind)
