-- Typed bodies of the methods of a table.
use Rattle.std.specs.Prelude.{◌≡◌, ◌<◌, ◌^◌, ℕ, false, Some, List, All, length, slice_get}
use Rattle.std.specs.Option.{IsSomeAnd}
use Rattle.program_model.specs.declared.kinds.BodyId.{BodyId}
use Rattle.program_model.specs.declared.kinds.StmtId.{StmtId}
use Rattle.program_model.specs.declared.program.Program.{Program}
use Rattle.program_model.specs.declared.tree.Body.{Body}
use Rattle.program_model.specs.declared.tree.TStmt.{TStmt}
use Rattle.program_model.specs.Heads.{HeadsFirst, OneSuperCall, is_head}
use Rattle.program_model.specs.Lookups.{method_at, statement_at}
use Rattle.program_model.specs.Trees.{IsForest, statements_in}
use Rattle.program_model.specs.Typing.{IsDeclarable}
use Rattle.program_model.specs.Validity.{HasParameters, RunsBody}
use Rattle.java_elaboration.specs.ProgramBodies.{body_number}
use Rattle.java_typing_laws.specs.TypedBodies.{HasTypedTables}

-- a typed body of a method that runs one. With its super call and its initialisers of fields it begins, and has none elsewhere
pub record IsTypedBody (p : Program) (b : Body) : Type 0 where
  pub method : IsSomeAnd (method_at p b.method) (λ m. RunsBody p m × HasParameters b.vars.items m.sig.params.items)
  pub variables : All (λ x. IsDeclarable p x.vtype) b.vars.items
  pub tables : HasTypedTables p b
  pub forest : IsForest b
  pub heads : HeadsFirst b b.stmts.items
  pub super_call : OneSuperCall b b.stmts.items
  pub headless : (s : StmtId) (x : TStmt) → statement_at b s ≡ Some x → All (λ t. is_head b t ≡ false) (statements_in x.kind)

-- these are typed bodies, one of a method, and there are no more than numbers reach
pub record AreTypedBodies (p : Program) (bodies : List Body) : Type 0 where
  pub few : length bodies < 2 ^ 32
  pub single : (n : BodyId) (b : Body) → slice_get bodies n.0 ≡ Some b → body_number bodies b.method.0 ≡ Some n
  pub each : (n : ℕ) (b : Body) → slice_get bodies n ≡ Some b → IsTypedBody p b
