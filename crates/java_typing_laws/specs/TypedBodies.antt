-- A body in whose tables each statement and each expression is typed.
use Rattle.std.specs.Prelude.{◌≡◌, Some}
use Rattle.program_model.specs.declared.kinds.ExprId.{ExprId}
use Rattle.program_model.specs.declared.kinds.StmtId.{StmtId}
use Rattle.program_model.specs.declared.program.Method.{Method}
use Rattle.program_model.specs.declared.program.Program.{Program}
use Rattle.program_model.specs.declared.tree.Body.{Body}
use Rattle.program_model.specs.declared.tree.TExpr.{TExpr}
use Rattle.program_model.specs.declared.tree.TStmt.{TStmt}
use Rattle.program_model.specs.Lookups.{expression_at, method_at, statement_at}
use Rattle.program_model.specs.Trees.{HasOperands, HasParts}
use Rattle.program_model.specs.Typing.{IsTypedExpression, IsTypedStatement}
use Rattle.java_typing_laws.specs.TypingContexts.{IsBodyIn, TypingContext}

-- the body is one of the context, and of this method or constructor
pub record IsBodyOfMethod (c : TypingContext) (m : Method) (b : Body) : Type 0 where
  pub body : IsBodyIn c b
  pub method : method_at c.program b.method ≡ Some m

-- each statement and each expression is typed, and its parts stand in the tables before it
pub record HasTypedTables (p : Program) (b : Body) : Type 0 where
  pub statements : (s : StmtId) (x : TStmt) → statement_at b s ≡ Some x → IsTypedStatement p b x.kind
  pub expressions : (e : ExprId) (x : TExpr) → expression_at b e ≡ Some x → IsTypedExpression p b x
  pub parts : (s : StmtId) (x : TStmt) → statement_at b s ≡ Some x → HasParts b s x.kind
  pub operands : (e : ExprId) (x : TExpr) → expression_at b e ≡ Some x → HasOperands e x.kind
