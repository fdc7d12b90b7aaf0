-- The typed tree of each statement (JLS 14).
use Rattle.std.specs.Prelude.{Bool, true, false, List, [], ◌∷◌, ◌++◌}
use Rattle.std.specs.Option.{is_some}
use Rattle.java_syntax.specs.StatementTrees.{BlockTree, Braces, CatchTrees, MaybeBlock, MaybeStmt, no_catch, and_catch, no_else, some_else, no_finally, some_finally}
use Rattle.java_syntax.specs.StatementTrees as syntax
use Rattle.java_typed_trees.specs.ExpressionTrees.{expressions, no_expression}
use Rattle.java_typed_trees.specs.StatementTrees.{CatchForm, Statement, StmtTree, no_statement, statements}
use Rattle.java_typed_trees.specs.StatementTrees as forms
use Rattle.java_statement_rules.specs.declared.completion.Completion.{Completion}
use Rattle.java_statement_rules.specs.CatchClauses.{classes_named}
use Rattle.java_statement_rules.specs.Contexts.{StatementContext, in_a_loop}
use Rattle.java_statement_parts.specs.Declarations.{declaration_trees, declarators}
use Rattle.java_statement_parts.specs.Heads.{expression_trees, optional_tree, plain_tree, returned, start_form, start_trees}
use Rattle.java_statement_parts.specs.Resources.{opening_trees, resource_shapes}
use Rattle.java_typed_statements.specs.StatementCompletions.{finally_completion}
use Rattle.java_typed_statements.specs.StatementContexts.{after, behind_start, catch_context, catches_context, else_context, finally_context, for_body_context, next_catch_context, resources_context, try_block_context}

abbrev pub has_else : MaybeStmt → Bool
has_else no_else = false
has_else (some_else t) = true

abbrev pub has_finally : MaybeBlock → Bool
has_finally no_finally = false
has_finally (some_finally b) = true

-- the clauses without their blocks
abbrev pub catch_forms : StatementContext → CatchTrees → List CatchForm
catch_forms c no_catch = []
catch_forms c (and_catch modifiers names name b more) = record { variable = c.next_variable; classes = classes_named c.surroundings names } ∷ catch_forms (next_catch_context c b) more

abbrev mutual
  pub statement_tree : StatementContext → syntax.StmtTree → StmtTree
  statement_tree c (syntax.BlockOf b) = block_tree c b
  statement_tree c (syntax.Empty place) = Statement forms.Empty place no_expression no_statement
  statement_tree c (syntax.LocalOf l place) = Statement (forms.LocalDeclaration (declarators c.next_variable l.variables)) place (expressions (declaration_trees c l place)) no_statement
  statement_tree c (syntax.ExpressionOf e place) = Statement forms.Expression place (expressions (plain_tree c.surroundings e)) no_statement
  statement_tree c (syntax.If e a b place) = Statement (forms.If (has_else b)) place (expressions (plain_tree c.surroundings e)) (statements (statement_tree c a ∷ else_tree (else_context c a) b))
  statement_tree c (syntax.While e body place) = Statement forms.While place (expressions (plain_tree c.surroundings e)) (statements (statement_tree (in_a_loop c) body ∷ []))
  statement_tree c (syntax.DoWhile body e place) = Statement forms.Do place (expressions (plain_tree c.surroundings e)) (statements (statement_tree (in_a_loop c) body ∷ []))
  statement_tree c (syntax.For start e updates body place) = Statement (forms.For (start_form c.next_variable start) (is_some e)) place (expressions (start_trees c start place ++ optional_tree (behind_start c start place).surroundings e ++ expression_trees (behind_start c start place).surroundings updates)) (statements (statement_tree (for_body_context c start place) body ∷ []))
  statement_tree c (syntax.Try rs b cs last place) = let f : Completion = finally_completion (finally_context c rs b cs) last in Statement (forms.Try (resource_shapes (resources_context c f cs) rs) (catch_forms (catches_context c f rs b) cs) (has_finally last)) place (expressions (opening_trees (resources_context c f cs) rs)) (statements (block_tree (try_block_context c f rs cs) b ∷ catch_trees (catches_context c f rs b) cs ++ finally_tree (finally_context c rs b cs) last))
  statement_tree c (syntax.Return e place) = Statement (forms.Return (is_some e)) place (expressions (returned c.surroundings c.result e)) no_statement
  statement_tree c (syntax.Throw e place) = Statement forms.Throw place (expressions (plain_tree c.surroundings e)) no_statement
  statement_tree c (syntax.Break place) = Statement forms.Break place no_expression no_statement
  statement_tree c (syntax.Continue place) = Statement forms.Continue place no_expression no_statement

  pub block_tree : StatementContext → BlockTree → StmtTree
  block_tree c (Braces ts place end) = Statement (forms.Block end) place no_expression (statements (statement_trees c ts))

  pub statement_trees : StatementContext → syntax.StmtTrees → List StmtTree
  statement_trees c syntax.no_statement = []
  statement_trees c (syntax.and_statement t ts) = statement_tree c t ∷ statement_trees (after c t) ts

  -- the blocks of the clauses
  pub catch_trees : StatementContext → CatchTrees → List StmtTree
  catch_trees c no_catch = []
  catch_trees c (and_catch modifiers names name b more) = block_tree (catch_context c modifiers names name) b ∷ catch_trees (next_catch_context c b) more

  pub else_tree : StatementContext → MaybeStmt → List StmtTree
  else_tree c no_else = []
  else_tree c (some_else t) = statement_tree c t ∷ []

  pub finally_tree : StatementContext → MaybeBlock → List StmtTree
  finally_tree c no_finally = []
  finally_tree c (some_finally b) = block_tree c b ∷ []
