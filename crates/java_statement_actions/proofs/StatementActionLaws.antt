-- What each action makes of a stack that begins with values of the kinds that it takes.
use Rattle.std.specs.Prelude.{◌≡◌, ℕ, List, ◌∷◌}
use Rattle.std.proofs.Common.{refl}
use Rattle.std.proofs.lemmas.List.{map-append}
use Rattle.java_syntax.specs.declared.actions.StatementAction.{StatementAction}
use Rattle.java_syntax.specs.declared.actions.StatementAction.TheVariants as action
use Rattle.java_values.specs.Values as kinds
use Rattle.java_values.specs.Values.{Value_of, ValueTree}
use Rattle.java_values.specs.Kinds.{◌▷◌, bottom, put, Fits}
use Rattle.java_values.specs.Outcomes.{Made, ◌>>=◌, IsNoMisfit}
use Rattle.java_values.proofs.Stacks.{meant_fits}
use Rattle.java_statement_actions.specs.StatementActions.{takes_statement, leaves_statement, act_statement, perform_statement}

pub at_first_variable : (limit : ℕ) (name : Value_of kinds.name) (rest : List ValueTree) → perform_statement limit action.FirstVariable (kinds.AName name ∷ rest) ≡ (act_statement limit action.FirstVariable (name ▷ bottom) >>= (λ ys. Made (put (leaves_statement action.FirstVariable) ys rest)))
unfolding perform_statement
at_first_variable limit name rest = refl

pub at_variable : (limit : ℕ) (value : Value_of kinds.expression) (name : Value_of kinds.name) (all : Value_of kinds.variables) (rest : List ValueTree) → perform_statement limit action.Variable (kinds.AExpression value ∷ kinds.AName name ∷ kinds.AVariables all ∷ rest) ≡ (act_statement limit action.Variable (value ▷ name ▷ all ▷ bottom) >>= (λ ys. Made (put (leaves_statement action.Variable) ys rest)))
unfolding perform_statement
at_variable limit value name all rest = refl

pub at_plain_variable : (limit : ℕ) (name : Value_of kinds.name) (all : Value_of kinds.variables) (rest : List ValueTree) → perform_statement limit action.PlainVariable (kinds.AName name ∷ kinds.AVariables all ∷ rest) ≡ (act_statement limit action.PlainVariable (name ▷ all ▷ bottom) >>= (λ ys. Made (put (leaves_statement action.PlainVariable) ys rest)))
unfolding perform_statement
at_plain_variable limit name all rest = refl

pub at_plain_local : (limit : ℕ) (all : Value_of kinds.variables) (typ : Value_of kinds.typ) (rest : List ValueTree) → perform_statement limit action.PlainLocal (kinds.AVariables all ∷ kinds.AType typ ∷ rest) ≡ (act_statement limit action.PlainLocal (all ▷ typ ▷ bottom) >>= (λ ys. Made (put (leaves_statement action.PlainLocal) ys rest)))
unfolding perform_statement
at_plain_local limit all typ rest = refl

pub at_modified_local : (limit : ℕ) (all : Value_of kinds.variables) (typ : Value_of kinds.typ) (modifiers : Value_of kinds.modifiers) (rest : List ValueTree) → perform_statement limit action.ModifiedLocal (kinds.AVariables all ∷ kinds.AType typ ∷ kinds.AModifiers modifiers ∷ rest) ≡ (act_statement limit action.ModifiedLocal (all ▷ typ ▷ modifiers ▷ bottom) >>= (λ ys. Made (put (leaves_statement action.ModifiedLocal) ys rest)))
unfolding perform_statement
at_modified_local limit all typ modifiers rest = refl

pub at_local_statement : (limit : ℕ) (declared : Value_of kinds.local) (start : Value_of kinds.place) (rest : List ValueTree) → perform_statement limit action.LocalStatement (kinds.ALocal declared ∷ kinds.APlace start ∷ rest) ≡ (act_statement limit action.LocalStatement (declared ▷ start ▷ bottom) >>= (λ ys. Made (put (leaves_statement action.LocalStatement) ys rest)))
unfolding perform_statement
at_local_statement limit declared start rest = refl

pub at_expression_statement : (limit : ℕ) (e : Value_of kinds.expression) (start : Value_of kinds.place) (rest : List ValueTree) → perform_statement limit action.ExpressionStatement (kinds.AExpression e ∷ kinds.APlace start ∷ rest) ≡ (act_statement limit action.ExpressionStatement (e ▷ start ▷ bottom) >>= (λ ys. Made (put (leaves_statement action.ExpressionStatement) ys rest)))
unfolding perform_statement
at_expression_statement limit e start rest = refl

pub at_no_statements : (limit : ℕ) (rest : List ValueTree) → perform_statement limit action.NoStatements rest ≡ (act_statement limit action.NoStatements bottom >>= (λ ys. Made (put (leaves_statement action.NoStatements) ys rest)))
unfolding perform_statement
at_no_statements limit rest = refl

pub at_and_statement : (limit : ℕ) (one : Value_of kinds.statement) (all : Value_of kinds.statements) (rest : List ValueTree) → perform_statement limit action.AndStatement (kinds.AStatement one ∷ kinds.AStatements all ∷ rest) ≡ (act_statement limit action.AndStatement (one ▷ all ▷ bottom) >>= (λ ys. Made (put (leaves_statement action.AndStatement) ys rest)))
unfolding perform_statement
at_and_statement limit one all rest = refl

pub at_block_statement : (limit : ℕ) (block : Value_of kinds.block) (rest : List ValueTree) → perform_statement limit action.BlockStatement (kinds.ABlock block ∷ rest) ≡ (act_statement limit action.BlockStatement (block ▷ bottom) >>= (λ ys. Made (put (leaves_statement action.BlockStatement) ys rest)))
unfolding perform_statement
at_block_statement limit block rest = refl

pub at_if : (limit : ℕ) (body : Value_of kinds.statement) (condition : Value_of kinds.expression) (word : Value_of kinds.place) (rest : List ValueTree) → perform_statement limit action.If (kinds.AStatement body ∷ kinds.AExpression condition ∷ kinds.APlace word ∷ rest) ≡ (act_statement limit action.If (body ▷ condition ▷ word ▷ bottom) >>= (λ ys. Made (put (leaves_statement action.If) ys rest)))
unfolding perform_statement
at_if limit body condition word rest = refl

pub at_if_else : (limit : ℕ) (otherwise : Value_of kinds.statement) (body : Value_of kinds.statement) (condition : Value_of kinds.expression) (word : Value_of kinds.place) (rest : List ValueTree) → perform_statement limit action.IfElse (kinds.AStatement otherwise ∷ kinds.AStatement body ∷ kinds.AExpression condition ∷ kinds.APlace word ∷ rest) ≡ (act_statement limit action.IfElse (otherwise ▷ body ▷ condition ▷ word ▷ bottom) >>= (λ ys. Made (put (leaves_statement action.IfElse) ys rest)))
unfolding perform_statement
at_if_else limit otherwise body condition word rest = refl

pub at_while : (limit : ℕ) (body : Value_of kinds.statement) (condition : Value_of kinds.expression) (word : Value_of kinds.place) (rest : List ValueTree) → perform_statement limit action.While (kinds.AStatement body ∷ kinds.AExpression condition ∷ kinds.APlace word ∷ rest) ≡ (act_statement limit action.While (body ▷ condition ▷ word ▷ bottom) >>= (λ ys. Made (put (leaves_statement action.While) ys rest)))
unfolding perform_statement
at_while limit body condition word rest = refl

pub at_do : (limit : ℕ) (condition : Value_of kinds.expression) (body : Value_of kinds.statement) (word : Value_of kinds.place) (rest : List ValueTree) → perform_statement limit action.Do (kinds.AExpression condition ∷ kinds.AStatement body ∷ kinds.APlace word ∷ rest) ≡ (act_statement limit action.Do (condition ▷ body ▷ word ▷ bottom) >>= (λ ys. Made (put (leaves_statement action.Do) ys rest)))
unfolding perform_statement
at_do limit condition body word rest = refl

pub at_for : (limit : ℕ) (body : Value_of kinds.statement) (updates : Value_of kinds.expressions) (condition : Value_of kinds.optional_expression) (start : Value_of kinds.for_start) (word : Value_of kinds.place) (rest : List ValueTree) → perform_statement limit action.For (kinds.AStatement body ∷ kinds.AExpressions updates ∷ kinds.AOptionalExpression condition ∷ kinds.AForStart start ∷ kinds.APlace word ∷ rest) ≡ (act_statement limit action.For (body ▷ updates ▷ condition ▷ start ▷ word ▷ bottom) >>= (λ ys. Made (put (leaves_statement action.For) ys rest)))
unfolding perform_statement
at_for limit body updates condition start word rest = refl

pub at_for_local : (limit : ℕ) (declared : Value_of kinds.local) (start : Value_of kinds.place) (rest : List ValueTree) → perform_statement limit action.ForLocal (kinds.ALocal declared ∷ kinds.APlace start ∷ rest) ≡ (act_statement limit action.ForLocal (declared ▷ start ▷ bottom) >>= (λ ys. Made (put (leaves_statement action.ForLocal) ys rest)))
unfolding perform_statement
at_for_local limit declared start rest = refl

pub at_for_expressions : (limit : ℕ) (all : Value_of kinds.expressions) (rest : List ValueTree) → perform_statement limit action.ForExpressions (kinds.AExpressions all ∷ rest) ≡ (act_statement limit action.ForExpressions (all ▷ bottom) >>= (λ ys. Made (put (leaves_statement action.ForExpressions) ys rest)))
unfolding perform_statement
at_for_expressions limit all rest = refl

pub at_first_expression : (limit : ℕ) (e : Value_of kinds.expression) (start : Value_of kinds.place) (rest : List ValueTree) → perform_statement limit action.FirstExpression (kinds.AExpression e ∷ kinds.APlace start ∷ rest) ≡ (act_statement limit action.FirstExpression (e ▷ start ▷ bottom) >>= (λ ys. Made (put (leaves_statement action.FirstExpression) ys rest)))
unfolding perform_statement
at_first_expression limit e start rest = refl

pub at_some_expression : (limit : ℕ) (e : Value_of kinds.expression) (rest : List ValueTree) → perform_statement limit action.SomeExpression (kinds.AExpression e ∷ rest) ≡ (act_statement limit action.SomeExpression (e ▷ bottom) >>= (λ ys. Made (put (leaves_statement action.SomeExpression) ys rest)))
unfolding perform_statement
at_some_expression limit e rest = refl

pub at_no_expression : (limit : ℕ) (rest : List ValueTree) → perform_statement limit action.NoExpression rest ≡ (act_statement limit action.NoExpression bottom >>= (λ ys. Made (put (leaves_statement action.NoExpression) ys rest)))
unfolding perform_statement
at_no_expression limit rest = refl

pub at_no_resources : (limit : ℕ) (rest : List ValueTree) → perform_statement limit action.NoResources rest ≡ (act_statement limit action.NoResources bottom >>= (λ ys. Made (put (leaves_statement action.NoResources) ys rest)))
unfolding perform_statement
at_no_resources limit rest = refl

pub at_resource : (limit : ℕ) (value : Value_of kinds.expression) (name : Value_of kinds.name) (class' : Value_of kinds.name) (modifiers : Value_of kinds.modifiers) (all : Value_of kinds.resources) (rest : List ValueTree) → perform_statement limit action.Resource (kinds.AExpression value ∷ kinds.AName name ∷ kinds.AName class' ∷ kinds.AModifiers modifiers ∷ kinds.AResources all ∷ rest) ≡ (act_statement limit action.Resource (value ▷ name ▷ class' ▷ modifiers ▷ all ▷ bottom) >>= (λ ys. Made (put (leaves_statement action.Resource) ys rest)))
unfolding perform_statement
at_resource limit value name class' modifiers all rest = refl

pub at_no_catches : (limit : ℕ) (rest : List ValueTree) → perform_statement limit action.NoCatches rest ≡ (act_statement limit action.NoCatches bottom >>= (λ ys. Made (put (leaves_statement action.NoCatches) ys rest)))
unfolding perform_statement
at_no_catches limit rest = refl

pub at_catch : (limit : ℕ) (block : Value_of kinds.block) (name : Value_of kinds.name) (classes : Value_of kinds.names) (modifiers : Value_of kinds.modifiers) (all : Value_of kinds.catches) (rest : List ValueTree) → perform_statement limit action.Catch (kinds.ABlock block ∷ kinds.AName name ∷ kinds.ANames classes ∷ kinds.AModifiers modifiers ∷ kinds.ACatches all ∷ rest) ≡ (act_statement limit action.Catch (block ▷ name ▷ classes ▷ modifiers ▷ all ▷ bottom) >>= (λ ys. Made (put (leaves_statement action.Catch) ys rest)))
unfolding perform_statement
at_catch limit block name classes modifiers all rest = refl

pub at_try : (limit : ℕ) (all : Value_of kinds.catches) (block : Value_of kinds.block) (resources : Value_of kinds.resources) (word : Value_of kinds.place) (rest : List ValueTree) → perform_statement limit action.Try (kinds.ACatches all ∷ kinds.ABlock block ∷ kinds.AResources resources ∷ kinds.APlace word ∷ rest) ≡ (act_statement limit action.Try (all ▷ block ▷ resources ▷ word ▷ bottom) >>= (λ ys. Made (put (leaves_statement action.Try) ys rest)))
unfolding perform_statement
at_try limit all block resources word rest = refl

pub at_try_finally : (limit : ℕ) (last : Value_of kinds.block) (all : Value_of kinds.catches) (block : Value_of kinds.block) (resources : Value_of kinds.resources) (word : Value_of kinds.place) (rest : List ValueTree) → perform_statement limit action.TryFinally (kinds.ABlock last ∷ kinds.ACatches all ∷ kinds.ABlock block ∷ kinds.AResources resources ∷ kinds.APlace word ∷ rest) ≡ (act_statement limit action.TryFinally (last ▷ all ▷ block ▷ resources ▷ word ▷ bottom) >>= (λ ys. Made (put (leaves_statement action.TryFinally) ys rest)))
unfolding perform_statement
at_try_finally limit last all block resources word rest = refl

pub at_return : (limit : ℕ) (value : Value_of kinds.optional_expression) (word : Value_of kinds.place) (rest : List ValueTree) → perform_statement limit action.Return (kinds.AOptionalExpression value ∷ kinds.APlace word ∷ rest) ≡ (act_statement limit action.Return (value ▷ word ▷ bottom) >>= (λ ys. Made (put (leaves_statement action.Return) ys rest)))
unfolding perform_statement
at_return limit value word rest = refl

pub at_throw : (limit : ℕ) (value : Value_of kinds.expression) (word : Value_of kinds.place) (rest : List ValueTree) → perform_statement limit action.Throw (kinds.AExpression value ∷ kinds.APlace word ∷ rest) ≡ (act_statement limit action.Throw (value ▷ word ▷ bottom) >>= (λ ys. Made (put (leaves_statement action.Throw) ys rest)))
unfolding perform_statement
at_throw limit value word rest = refl

pub at_no_names : (limit : ℕ) (rest : List ValueTree) → perform_statement limit action.NoNames rest ≡ (act_statement limit action.NoNames bottom >>= (λ ys. Made (put (leaves_statement action.NoNames) ys rest)))
unfolding perform_statement
at_no_names limit rest = refl

pub at_and_name : (limit : ℕ) (one : Value_of kinds.name) (all : Value_of kinds.names) (rest : List ValueTree) → perform_statement limit action.AndName (kinds.AName one ∷ kinds.ANames all ∷ rest) ≡ (act_statement limit action.AndName (one ▷ all ▷ bottom) >>= (λ ys. Made (put (leaves_statement action.AndName) ys rest)))
unfolding perform_statement
at_and_name limit one all rest = refl

-- An action that makes something finds values of the kinds that it takes.
pub statement_fits : (limit : ℕ) (a : StatementAction) (s : List ValueTree) → IsNoMisfit (perform_statement limit a s) → Fits (takes_statement a) s
unfolding perform_statement
statement_fits limit a s h = meant_fits (takes_statement a) (leaves_statement a) (act_statement limit a) s h

pub ruleset variable_laws = (at_first_variable, at_variable, at_plain_variable, at_plain_local, at_modified_local, map-append)

pub ruleset list_laws = (at_no_statements, at_and_statement, at_no_resources, at_resource, at_no_catches, at_catch, at_no_names, at_and_name, at_first_expression, map-append)

pub ruleset plain_laws = (at_local_statement, at_expression_statement, at_return, at_throw, at_some_expression, at_no_expression)

pub ruleset nesting_laws = (at_block_statement, at_if, at_if_else, at_try, at_try_finally)

pub ruleset loop_laws = (at_while, at_do, at_for, at_for_local, at_for_expressions)
