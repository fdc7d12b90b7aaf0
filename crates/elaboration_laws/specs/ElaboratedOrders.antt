-- The order of the statements in the bodies of a program.
use Rattle.std.specs.Prelude.{◌≡◌, false, Some, All}
use Rattle.program_model.specs.declared.kinds.BodyId.{BodyId}
use Rattle.program_model.specs.declared.kinds.StmtId.{StmtId}
use Rattle.program_model.specs.declared.program.Program.{Program}
use Rattle.program_model.specs.declared.tree.Body.{Body}
use Rattle.program_model.specs.declared.tree.TStmt.{TStmt}
use Rattle.program_model.specs.Heads.{AgreeOnInitializers, HasDueSuperCall, HasInitializersInOrder, HeadsFirst, OneSuperCall, is_head}
use Rattle.program_model.specs.Jumps.{HasJumpsInLoops}
use Rattle.program_model.specs.Lookups.{body_at, statement_at}
use Rattle.program_model.specs.Trees.{statements_in}

-- a body begins with the super call that is due and the initialisers of fields, and has them nowhere else (JLS 8.8.7, 12.5); each
-- `break` and `continue` of it stands in a loop (JLS 14.15, 14.16)
pub record HasOrderedStatements (p : Program) (x : Body) : Type 0 where
  pub heads : HeadsFirst x x.stmts.items
  pub super_call : OneSuperCall x x.stmts.items
  pub headless : (s : StmtId) (y : TStmt) → statement_at x s ≡ Some y → All (λ t. is_head x t ≡ false) (statements_in y.kind)
  pub jumps : HasJumpsInLoops x
  pub due : HasDueSuperCall p x
  pub initializers : HasInitializersInOrder x

-- so have all bodies, and the constructors of one class run the initialisers of the same fields
pub record AreOrderedBodies (p : Program) : Type 0 where
  pub each : (n : BodyId) (x : Body) → body_at p n ≡ Some x → HasOrderedStatements p x
  pub same_initializers : (n : BodyId) (x : Body) → body_at p n ≡ Some x → (m : BodyId) (y : Body) → body_at p m ≡ Some y → AgreeOnInitializers p x y
