-- The actions of statements: the kinds of the values that each takes, the top first, those that it leaves, and what it makes.
use Rattle.std.specs.Prelude.{ℕ, ◌+◌, max, Bool, true, false, List, [], ◌∷◌, ◌++◌, Some, None}
use Rattle.java_syntax.specs.ExpressionTrees.{ExprTree}
use Rattle.java_syntax.specs.AnnotationTrees.{ModifierTree}
use Rattle.java_syntax.specs.StatementTrees as tree
use Rattle.java_syntax.specs.StatementTrees.{VariableTree, ResourceTree, StmtTree, CatchTree}
use Rattle.java_syntax.specs.declared.actions.StatementAction.{StatementAction}
use Rattle.java_syntax.specs.declared.actions.StatementAction.TheVariants as action
use Rattle.java_values.specs.Values as kinds
use Rattle.java_values.specs.Values.{Kind, ValueTree}
use Rattle.java_values.specs.Kinds.{Values, ◌▷◌, bottom, taken, resume}
use Rattle.java_values.specs.Outcomes.{Outcome, Made, ◌>>=◌, node}
use Rattle.java_values.specs.Lists.{none_of, added}
use Rattle.java_nodes.specs.StatementParts.{variable_node, plain_variable_node, local_node, resource_node, catch_node, try_node, try_finally_node}

abbrev pub takes_statement : StatementAction → List Kind
takes_statement action.FirstVariable = kinds.name ∷ []
takes_statement action.Variable = kinds.expression ∷ kinds.name ∷ kinds.variables ∷ []
takes_statement action.PlainVariable = kinds.name ∷ kinds.variables ∷ []
takes_statement action.PlainLocal = kinds.variables ∷ kinds.typ ∷ []
takes_statement action.ModifiedLocal = kinds.variables ∷ kinds.typ ∷ kinds.modifiers ∷ []
takes_statement action.LocalStatement = kinds.local ∷ kinds.place ∷ []
takes_statement action.ExpressionStatement = kinds.expression ∷ kinds.place ∷ []
takes_statement action.NoStatements = []
takes_statement action.AndStatement = kinds.statement ∷ kinds.statements ∷ []
takes_statement action.BlockStatement = kinds.block ∷ []
takes_statement action.If = kinds.statement ∷ kinds.expression ∷ kinds.place ∷ []
takes_statement action.IfElse = kinds.statement ∷ kinds.statement ∷ kinds.expression ∷ kinds.place ∷ []
takes_statement action.While = kinds.statement ∷ kinds.expression ∷ kinds.place ∷ []
takes_statement action.Do = kinds.expression ∷ kinds.statement ∷ kinds.place ∷ []
takes_statement action.For = kinds.statement ∷ kinds.expressions ∷ kinds.optional_expression ∷ kinds.for_start ∷ kinds.place ∷ []
takes_statement action.ForLocal = kinds.local ∷ kinds.place ∷ []
takes_statement action.ForExpressions = kinds.expressions ∷ []
takes_statement action.FirstExpression = kinds.expression ∷ kinds.place ∷ []
takes_statement action.SomeExpression = kinds.expression ∷ []
takes_statement action.NoExpression = []
takes_statement action.NoResources = []
takes_statement action.Resource = kinds.expression ∷ kinds.name ∷ kinds.name ∷ kinds.modifiers ∷ kinds.resources ∷ []
takes_statement action.NoCatches = []
takes_statement action.Catch = kinds.block ∷ kinds.name ∷ kinds.names ∷ kinds.modifiers ∷ kinds.catches ∷ []
takes_statement action.Try = kinds.catches ∷ kinds.block ∷ kinds.resources ∷ kinds.place ∷ []
takes_statement action.TryFinally = kinds.block ∷ kinds.catches ∷ kinds.block ∷ kinds.resources ∷ kinds.place ∷ []
takes_statement action.Return = kinds.optional_expression ∷ kinds.place ∷ []
takes_statement action.Throw = kinds.expression ∷ kinds.place ∷ []
takes_statement action.NoNames = []
takes_statement action.AndName = kinds.name ∷ kinds.names ∷ []

abbrev pub leaves_statement : StatementAction → List Kind
leaves_statement action.FirstVariable = kinds.name ∷ kinds.variables ∷ []
leaves_statement action.Variable = kinds.variables ∷ []
leaves_statement action.PlainVariable = kinds.variables ∷ []
leaves_statement action.PlainLocal = kinds.local ∷ []
leaves_statement action.ModifiedLocal = kinds.local ∷ []
leaves_statement action.LocalStatement = kinds.statement ∷ []
leaves_statement action.ExpressionStatement = kinds.statement ∷ []
leaves_statement action.NoStatements = kinds.statements ∷ []
leaves_statement action.AndStatement = kinds.statements ∷ []
leaves_statement action.BlockStatement = kinds.statement ∷ []
leaves_statement action.If = kinds.statement ∷ []
leaves_statement action.IfElse = kinds.statement ∷ []
leaves_statement action.While = kinds.statement ∷ []
leaves_statement action.Do = kinds.statement ∷ []
leaves_statement action.For = kinds.statement ∷ []
leaves_statement action.ForLocal = kinds.for_start ∷ []
leaves_statement action.ForExpressions = kinds.for_start ∷ []
leaves_statement action.FirstExpression = kinds.expressions ∷ []
leaves_statement action.SomeExpression = kinds.optional_expression ∷ []
leaves_statement action.NoExpression = kinds.optional_expression ∷ []
leaves_statement action.NoResources = kinds.resources ∷ []
leaves_statement action.Resource = kinds.resources ∷ []
leaves_statement action.NoCatches = kinds.catches ∷ []
leaves_statement action.Catch = kinds.catches ∷ []
leaves_statement action.Try = kinds.statement ∷ []
leaves_statement action.TryFinally = kinds.statement ∷ []
leaves_statement action.Return = kinds.statement ∷ []
leaves_statement action.Throw = kinds.statement ∷ []
leaves_statement action.NoNames = kinds.names ∷ []
leaves_statement action.AndName = kinds.names ∷ []

abbrev pub act_statement : ℕ → (a : StatementAction) → Values (takes_statement a) → Outcome (Values (leaves_statement a))
act_statement limit action.FirstVariable (name ▷ bottom) = Made (name ▷ (none_of VariableTree) ▷ bottom)
act_statement limit action.Variable (value ▷ name ▷ all ▷ bottom) = Made ((added all (variable_node name value)) ▷ bottom)
act_statement limit action.PlainVariable (name ▷ all ▷ bottom) = Made ((added all (plain_variable_node name)) ▷ bottom)
act_statement limit action.PlainLocal (all ▷ typ ▷ bottom) = Made ((local_node (none_of ModifierTree) typ all) ▷ bottom)
act_statement limit action.ModifiedLocal (all ▷ typ ▷ modifiers ▷ bottom) = Made ((local_node modifiers typ all) ▷ bottom)
act_statement limit action.LocalStatement (declared ▷ start ▷ bottom) = do
  e ← node limit declared.depth (tree.LocalOf declared.tree start)
  Made (e ▷ bottom)
act_statement limit action.ExpressionStatement (e ▷ start ▷ bottom) = do
  e ← node limit e.depth (tree.ExpressionOf e.tree start)
  Made (e ▷ bottom)
act_statement limit action.NoStatements bottom = Made ((none_of StmtTree) ▷ bottom)
act_statement limit action.AndStatement (one ▷ all ▷ bottom) = Made ((added all one) ▷ bottom)
act_statement limit action.BlockStatement (block ▷ bottom) = do
  e ← node limit block.depth (tree.BlockOf block.tree)
  Made (e ▷ bottom)
act_statement limit action.If (body ▷ condition ▷ word ▷ bottom) = do
  e ← node limit (max condition.depth body.depth) (tree.If condition.tree body.tree tree.no_else word)
  Made (e ▷ bottom)
act_statement limit action.IfElse (otherwise ▷ body ▷ condition ▷ word ▷ bottom) = do
  e ← node limit (max condition.depth (max body.depth otherwise.depth)) (tree.If condition.tree body.tree (tree.some_else otherwise.tree) word)
  Made (e ▷ bottom)
act_statement limit action.While (body ▷ condition ▷ word ▷ bottom) = do
  e ← node limit (max condition.depth body.depth) (tree.While condition.tree body.tree word)
  Made (e ▷ bottom)
act_statement limit action.Do (condition ▷ body ▷ word ▷ bottom) = do
  e ← node limit (max body.depth condition.depth) (tree.DoWhile body.tree condition.tree word)
  Made (e ▷ bottom)
act_statement limit action.For (body ▷ updates ▷ condition ▷ start ▷ word ▷ bottom) = do
  e ← node limit (max start.depth (max condition.depth (max updates.depth body.depth))) (tree.For start.tree condition.tree updates.tree body.tree word)
  Made (e ▷ bottom)
act_statement limit action.ForLocal (declared ▷ start ▷ bottom) = Made ((record { tree = tree.Declaration declared.tree; depth = declared.depth }) ▷ bottom)
act_statement limit action.ForExpressions (all ▷ bottom) = Made ((record { tree = tree.Expressions all.tree; depth = all.depth }) ▷ bottom)
act_statement limit action.FirstExpression (e ▷ start ▷ bottom) = Made ((added (none_of ExprTree) e) ▷ bottom)
act_statement limit action.SomeExpression (e ▷ bottom) = Made ((record { tree = Some e.tree; depth = e.depth }) ▷ bottom)
act_statement limit action.NoExpression bottom = Made ((record { tree = None; depth = 0 }) ▷ bottom)
act_statement limit action.NoResources bottom = Made ((none_of ResourceTree) ▷ bottom)
act_statement limit action.Resource (value ▷ name ▷ class' ▷ modifiers ▷ all ▷ bottom) = Made ((added all (resource_node modifiers class' name value)) ▷ bottom)
act_statement limit action.NoCatches bottom = Made ((none_of CatchTree) ▷ bottom)
act_statement limit action.Catch (block ▷ name ▷ classes ▷ modifiers ▷ all ▷ bottom) = do
  c ← catch_node limit modifiers classes name block
  Made (added all c ▷ bottom)
act_statement limit action.Try (all ▷ block ▷ resources ▷ word ▷ bottom) = do
  e ← try_node limit resources block all word
  Made (e ▷ bottom)
act_statement limit action.TryFinally (last ▷ all ▷ block ▷ resources ▷ word ▷ bottom) = do
  e ← try_finally_node limit resources block all last word
  Made (e ▷ bottom)
act_statement limit action.Return (value ▷ word ▷ bottom) = do
  e ← node limit value.depth (tree.Return value.tree word)
  Made (e ▷ bottom)
act_statement limit action.Throw (value ▷ word ▷ bottom) = do
  e ← node limit value.depth (tree.Throw value.tree word)
  Made (e ▷ bottom)
act_statement limit action.NoNames bottom = Made ([] ▷ bottom)
act_statement limit action.AndName (one ▷ all ▷ bottom) = Made ((all ++ one ∷ []) ▷ bottom)

-- what an action does on a stack
unfoldable pub perform_statement : ℕ → StatementAction → List ValueTree → Outcome (List ValueTree)
perform_statement limit a s = resume (takes_statement a) (leaves_statement a) (act_statement limit a) (taken (takes_statement a) s)

-- the actions of declarations of variables
abbrev pub is_of_variables : StatementAction → Bool
is_of_variables action.FirstVariable = true
is_of_variables action.Variable = true
is_of_variables action.PlainVariable = true
is_of_variables action.PlainLocal = true
is_of_variables action.ModifiedLocal = true
is_of_variables _ = false

-- the actions of lists
abbrev pub is_of_lists : StatementAction → Bool
is_of_lists action.NoStatements = true
is_of_lists action.AndStatement = true
is_of_lists action.NoResources = true
is_of_lists action.Resource = true
is_of_lists action.NoCatches = true
is_of_lists action.Catch = true
is_of_lists action.NoNames = true
is_of_lists action.AndName = true
is_of_lists action.FirstExpression = true
is_of_lists _ = false

-- the actions of statements that have no other in them, and of an expression that may be absent
abbrev pub is_of_plain_statements : StatementAction → Bool
is_of_plain_statements action.LocalStatement = true
is_of_plain_statements action.ExpressionStatement = true
is_of_plain_statements action.Return = true
is_of_plain_statements action.Throw = true
is_of_plain_statements action.SomeExpression = true
is_of_plain_statements action.NoExpression = true
is_of_plain_statements _ = false

-- the actions of blocks, `if` and `try`
abbrev pub is_of_nesting_statements : StatementAction → Bool
is_of_nesting_statements action.BlockStatement = true
is_of_nesting_statements action.If = true
is_of_nesting_statements action.IfElse = true
is_of_nesting_statements action.Try = true
is_of_nesting_statements action.TryFinally = true
is_of_nesting_statements _ = false

-- the actions of loops
abbrev pub is_of_loops : StatementAction → Bool
is_of_loops action.While = true
is_of_loops action.Do = true
is_of_loops action.For = true
is_of_loops action.ForLocal = true
is_of_loops action.ForExpressions = true
is_of_loops _ = false
