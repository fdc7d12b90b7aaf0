-- Bodies of a program that are laid from those of the source files.
use Rattle.std.specs.Prelude.{◌≡◌, false, Some, All, map}
use Rattle.program_model.specs.declared.kinds.StmtId.{StmtId}
use Rattle.program_model.specs.declared.tree.Body.{Body}
use Rattle.program_model.specs.declared.tree.TStmt.{TStmt}
use Rattle.program_model.specs.Heads.{HeadsFirst, OneSuperCall, is_head}
use Rattle.program_model.specs.Lookups.{statement_at}
use Rattle.program_model.specs.Trees.{IsForest, statements_in}
use Rattle.java_typed_trees.specs.StatementTrees.{statements}
use Rattle.java_typing_laws.specs.Bodies.{IsLaid}
use Rattle.java_elaboration.specs.Declarations.{variable_in}
use Rattle.java_elaboration.specs.SourceClassesMembers.{Environment}
use Rattle.java_elaboration.specs.Bodies.{SourceBody, body_trees, body_variables_in}

-- it has the method and the variables of the body, and its tables are the body's typed statements
pub record IsLaidFrom (e : Environment) (b : SourceBody) (x : Body) : Type 0 where
  pub method : x.method ≡ b.method
  pub variables : map variable_in x.vars.items ≡ body_variables_in e b
  pub laid : IsLaid x (statements (body_trees e b))

-- the super call and the initialisers of fields stand at its beginning alone, and its tables are trees
pub record HasHeadsInTrees (x : Body) : Type 0 where
  pub forest : IsForest x
  pub heads : HeadsFirst x x.stmts.items
  pub super_call : OneSuperCall x x.stmts.items
  pub headless : (s : StmtId) (y : TStmt) → statement_at x s ≡ Some y → All (λ t. is_head x t ≡ false) (statements_in y.kind)
