-- What stands in the arguments of the call of a super constructor.
use Rattle.std.specs.Prelude.{◌≡◌, false, Some, All, Contains}
use Rattle.program_model.specs.declared.kinds.BodyId.{BodyId}
use Rattle.program_model.specs.declared.kinds.ExprId.{ExprId}
use Rattle.program_model.specs.declared.kinds.StmtId.{StmtId}
use Rattle.program_model.specs.declared.program.Program.{Program}
use Rattle.program_model.specs.declared.tree.Body.{Body}
use Rattle.program_model.specs.declared.tree.StatementKind.{StatementKind}
use Rattle.program_model.specs.declared.tree.StatementKind.TheVariants as statements
use Rattle.program_model.specs.declared.tree.TExpr.{TExpr}
use Rattle.program_model.specs.declared.tree.TStmt.{TStmt}
use Rattle.program_model.specs.Lookups.{body_at, expression_at, statement_at}
use Rattle.program_model.specs.Trees.{operands}
use Rattle.program_model.specs.Typing.{is_this}

-- the expression `u` is the other one, or stands within it
pub data StandsIn (b : Body) (u : ExprId) : ExprId → Type 0 where
  itself : StandsIn b u u
  within : (e o : ExprId) (x : TExpr) → expression_at b e ≡ Some x → Contains (operands x.kind) o → StandsIn b u o → StandsIn b u e

-- the expression is not `this`, written or implied, and none stands within it
abbrev pub LacksThis : Body → ExprId → Type 0
LacksThis b e = (u : ExprId) → StandsIn b u e → is_this b u ≡ false

-- a super call's arguments refer neither to `this` nor to a member of it
abbrev pub PassesNoThis : Body → StatementKind → Type 0
PassesNoThis b (statements.SuperCall c) = All (LacksThis b) c.arguments.items
PassesNoThis b k = Unit {0}

-- no super call's arguments refer to the object that is being made (JLS 8.8.7.1)
abbrev pub SuperCallsPassNoThis : Program → Type 0
SuperCallsPassNoThis p = (n : BodyId) (b : Body) (s : StmtId) (x : TStmt) → body_at p n ≡ Some b → statement_at b s ≡ Some x → PassesNoThis b x.kind
