-- All refusals in a statement: those of its expressions, of the statement itself, and of the statements in it (JLS 14). The order
-- means nothing, and one may stand there twice.
use Rattle.std.specs.Prelude.{List, [], ◌++◌}
use Rattle.rlc_base.specs.declared.place.Pos.{Pos}
use Rattle.rlc_base.specs.declared.faults.Refusal.{Refusal}
use Rattle.java_syntax.specs.StatementTrees.{BlockTree, Braces, CatchTrees, MaybeBlock, MaybeStmt, StmtTree, StmtTrees, no_catch, and_catch, no_else, some_else, no_finally, some_finally, no_statement, and_statement}
use Rattle.java_syntax.specs.StatementTrees as syntax
use Rattle.java_statement_parts.specs.Cases.{cases}
use Rattle.std.specs.Prelude.{None}
use Rattle.java_statement_rules.specs.declared.completion.Completion.{Completion}
use Rattle.java_statement_rules.specs.Contexts.{StatementContext, in_a_loop}
use Rattle.java_statement_rules.specs.StatementCases.{unless}
use Rattle.java_statement_scopes.specs.Clauses.{clause_cases}
use Rattle.java_statement_parts.specs.Declarations.{declaration_cases}
use Rattle.java_statement_parts.specs.Heads.{expressions_cases, optional_cases, required_cases, returning_cases, start_cases, throwing_cases}
use Rattle.java_statement_parts.specs.Resources.{resources_cases}
use Rattle.java_typed_statements.specs.StatementCompletions.{finally_completion}
use Rattle.java_typed_statements.specs.StatementContexts.{after, behind_start, catch_context, catches_context, else_context, finally_context, for_body_context, next_catch_context, resources_context, try_block_context}

abbrev mutual
  pub statement_cases : StatementContext → StmtTree → List Refusal
  statement_cases c (syntax.BlockOf b) = block_cases c b
  statement_cases c (syntax.Empty place) = []
  statement_cases c (syntax.LocalOf l place) = declaration_cases c l place
  statement_cases c (syntax.ExpressionOf e place) = cases c.surroundings None e
  statement_cases c (syntax.If e a b place) = required_cases c.surroundings e place ++ statement_cases c a ++ else_cases (else_context c a) b
  statement_cases c (syntax.While e body place) = required_cases c.surroundings e place ++ statement_cases (in_a_loop c) body
  statement_cases c (syntax.DoWhile body e place) = required_cases c.surroundings e place ++ statement_cases (in_a_loop c) body
  statement_cases c (syntax.For start e updates body place) = start_cases c start place ++ optional_cases (behind_start c start place).surroundings e place ++ expressions_cases (behind_start c start place).surroundings updates ++ statement_cases (for_body_context c start place) body
  statement_cases c (syntax.Try rs b cs last place) = let f : Completion = finally_completion (finally_context c rs b cs) last in finally_cases (finally_context c rs b cs) last ++ resources_cases (resources_context c f cs) rs place ++ block_cases (try_block_context c f rs cs) b ++ catches_cases (catches_context c f rs b) cs place
  statement_cases c (syntax.Return e place) = returning_cases c.surroundings c.result e place
  statement_cases c (syntax.Throw e place) = throwing_cases c.surroundings e place
  statement_cases c (syntax.Break place) = unless c.in_loop place
  statement_cases c (syntax.Continue place) = unless c.in_loop place

  pub block_cases : StatementContext → BlockTree → List Refusal
  block_cases c (Braces ts place end) = statements_cases c ts

  pub statements_cases : StatementContext → StmtTrees → List Refusal
  statements_cases c no_statement = []
  statements_cases c (and_statement t ts) = statement_cases c t ++ statements_cases (after c t) ts

  pub catches_cases : StatementContext → CatchTrees → Pos → List Refusal
  catches_cases c no_catch place = []
  catches_cases c (and_catch modifiers names name b more) place = clause_cases c names name place ++ block_cases (catch_context c modifiers names name) b ++ catches_cases (next_catch_context c b) more place

  pub else_cases : StatementContext → MaybeStmt → List Refusal
  else_cases c no_else = []
  else_cases c (some_else t) = statement_cases c t

  pub finally_cases : StatementContext → MaybeBlock → List Refusal
  finally_cases c no_finally = []
  finally_cases c (some_finally b) = block_cases c b
