-- Arguments as typed trees, and as expressions of a body.
use Rattle.std.specs.Prelude.{List}
use Rattle.program_model.specs.declared.kinds.ExprId.{ExprId}
use Rattle.program_model.specs.declared.program.ParamSig.{ParamSig}
use Rattle.program_model.specs.declared.program.Program.{Program}
use Rattle.program_model.specs.declared.tree.Body.{Body}
use Rattle.program_model.specs.Typing as typing
use Rattle.java_typed_trees.specs.ExpressionTrees.{ExprTree, ExprTrees}
use Rattle.java_typing_laws.specs.TypedTrees.{AreArguments, AreTypedTrees, parts_in}
use Rattle.java_typing_laws.specs.TypingContexts.{TypingContext}

-- the tree of a typed expression, as against that of its syntax
abbrev pub TypedTree : Type 0
TypedTree = ExprTree

abbrev pub TypedTrees : Type 0
TypedTrees = ExprTrees

-- the expressions of the body fit the parameters, one by one
abbrev pub AreTypedArguments : Program → Body → List ExprId → List ParamSig → Type 0
AreTypedArguments p b arguments params = typing.AreArguments p b arguments params

-- the trees are typed, and fit the parameters, one by one
pub record ArePassedTo (c : TypingContext) (params : List ParamSig) (ts : ExprTrees) : Type 0 where
  pub typed : AreTypedTrees c ts
  pub passed : AreArguments c.program (parts_in ts) params
