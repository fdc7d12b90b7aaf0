-- The variables of a body (JLS 4.12.3) in the order of the text: its parameters, and those that its statements declare. One whose
-- type is refused is left out.
use Rattle.std.specs.Prelude.{Some, List, [], ◌∷◌, ◌++◌, map}
use Rattle.std.specs.List.{flat_map}
use Rattle.program_model.specs.declared.program.ParamSig.{ParamSig}
use Rattle.java_syntax.specs.declared.declaration_trees.Param.{Param}
use Rattle.java_syntax.specs.declared.names.Name.{Name}
use Rattle.java_syntax.specs.AnnotationTrees.{ModifierTree, modifier_of}
use Rattle.java_syntax.specs.StatementTrees.{BlockTree, Braces, CatchTrees, ForStartTree, LocalTree, MaybeBlock, MaybeStmt, ResourceTree, StmtTree, StmtTrees, no_catch, and_catch, no_else, some_else, no_finally, some_finally, no_statement, and_statement}
use Rattle.java_syntax.specs.StatementTrees as syntax
use Rattle.java_statement_rules.specs.WrittenTypes.{cast_type}
use Rattle.java_statement_rules.specs.Surroundings.{Surroundings}
use Rattle.java_statement_rules.specs.CatchClauses.{parameter_type}
use Rattle.java_statement_rules.specs.Resources.{class_type}
use Rattle.body_variables.specs.Declarations.{BodyVariable, declared}

-- the parameters with the types that the table has (JLS 8.4.1)
abbrev pub parameter_variables : List Param → List ParamSig → List BodyVariable
parameter_variables [] xs = []
parameter_variables (w ∷ ws) [] = []
parameter_variables (w ∷ ws) (x ∷ xs) = declared (map modifier_of w.modifiers.items) w.name (Some x.vtype) ++ parameter_variables ws xs

-- JLS 14.4
abbrev pub local_variables : Surroundings → LocalTree → List BodyVariable
local_variables s l = flat_map (λ v. declared l.modifiers v.name (cast_type s l.typ)) l.variables

-- JLS 14.14.1
abbrev pub start_variables : Surroundings → ForStartTree → List BodyVariable
start_variables s (syntax.Declaration l) = local_variables s l
start_variables s (syntax.Expressions es) = []

-- JLS 14.20.3
abbrev pub resource_variable : Surroundings → ResourceTree → List BodyVariable
resource_variable s r = declared r.modifiers r.name (class_type s r.class')

abbrev pub resource_variables : Surroundings → List ResourceTree → List BodyVariable
resource_variables s rs = flat_map (resource_variable s) rs

-- the parameter of a catch clause (JLS 14.20)
abbrev pub catch_variable : Surroundings → List ModifierTree → List Name → Name → List BodyVariable
catch_variable s modifiers names name = declared modifiers name (parameter_type s names)

abbrev mutual
  -- those that a statement declares with all in it. Their types depend on the program and the compilation unit alone
  pub variables_of : Surroundings → StmtTree → List BodyVariable
  variables_of s (syntax.BlockOf b) = block_variables s b
  variables_of s (syntax.Empty place) = []
  variables_of s (syntax.LocalOf l place) = local_variables s l
  variables_of s (syntax.ExpressionOf e place) = []
  variables_of s (syntax.If e a b place) = variables_of s a ++ else_variables s b
  variables_of s (syntax.While e body place) = variables_of s body
  variables_of s (syntax.DoWhile body e place) = variables_of s body
  variables_of s (syntax.For start e updates body place) = start_variables s start ++ variables_of s body
  variables_of s (syntax.Try rs b cs last place) = resource_variables s rs ++ block_variables s b ++ catch_variables s cs ++ finally_variables s last
  variables_of s (syntax.Return e place) = []
  variables_of s (syntax.Throw e place) = []
  variables_of s (syntax.Break place) = []
  variables_of s (syntax.Continue place) = []

  pub block_variables : Surroundings → BlockTree → List BodyVariable
  block_variables s (Braces ts place end) = all_variables s ts

  pub all_variables : Surroundings → StmtTrees → List BodyVariable
  all_variables s no_statement = []
  all_variables s (and_statement t ts) = variables_of s t ++ all_variables s ts

  pub catch_variables : Surroundings → CatchTrees → List BodyVariable
  catch_variables s no_catch = []
  catch_variables s (and_catch modifiers names name b more) = catch_variable s modifiers names name ++ block_variables s b ++ catch_variables s more

  pub else_variables : Surroundings → MaybeStmt → List BodyVariable
  else_variables s no_else = []
  else_variables s (some_else t) = variables_of s t

  pub finally_variables : Surroundings → MaybeBlock → List BodyVariable
  finally_variables s no_finally = []
  finally_variables s (some_finally b) = block_variables s b

-- all of a body
abbrev pub body_variables : Surroundings → List Param → List ParamSig → StmtTrees → List BodyVariable
body_variables s ws xs ts = parameter_variables ws xs ++ all_variables s ts
