-- How each statement ends (JLS 14.22).
use Rattle.java_syntax.specs.StatementTrees.{BlockTree, Braces, CatchTrees, MaybeBlock, MaybeStmt, StmtTree, StmtTrees, no_catch, and_catch, no_else, some_else, no_finally, some_finally, no_statement, and_statement}
use Rattle.java_syntax.specs.StatementTrees as syntax
use Rattle.java_statement_rules.specs.declared.completion.Completion.{Completion}
use Rattle.java_statement_rules.specs.Completions.{abrupt, and_then, before_finally, breaking, continuing, do_completion, loop_completion, normal, one_of}
use Rattle.java_statement_rules.specs.Contexts.{StatementContext, in_a_loop}
use Rattle.java_statement_parts.specs.Heads.{goes_on, is_always}
use Rattle.java_typed_statements.specs.StatementContexts.{after, behind_start, catch_context, catches_context, else_context, finally_context, for_body_context, next_catch_context, try_block_context}

-- ends in no way
abbrev pub nowhere : Completion
nowhere = abrupt

abbrev mutual
  pub completion : StatementContext → StmtTree → Completion
  completion c (syntax.BlockOf b) = block_completion c b
  completion c (syntax.Empty place) = normal
  completion c (syntax.LocalOf l place) = normal
  completion c (syntax.ExpressionOf e place) = normal
  completion c (syntax.If e a b place) = one_of (completion c a) (else_completion (else_context c a) b)
  completion c (syntax.While e body place) = loop_completion (is_always c.surroundings e) (completion (in_a_loop c) body)
  completion c (syntax.DoWhile body e place) = do_completion (is_always c.surroundings e) (completion (in_a_loop c) body)
  completion c (syntax.For start e updates body place) = loop_completion (goes_on (behind_start c start place).surroundings e) (completion (for_body_context c start place) body)
  completion c (syntax.Try rs b cs last place) = let f : Completion = finally_completion (finally_context c rs b cs) last in before_finally (one_of (block_completion (try_block_context c f rs cs) b) (catches_completion (catches_context c f rs b) cs)) f
  completion c (syntax.Return e place) = abrupt
  completion c (syntax.Throw e place) = abrupt
  completion c (syntax.Break place) = breaking
  completion c (syntax.Continue place) = continuing

  pub block_completion : StatementContext → BlockTree → Completion
  block_completion c (Braces ts place end) = statements_completion c ts

  pub statements_completion : StatementContext → StmtTrees → Completion
  statements_completion c no_statement = normal
  statements_completion c (and_statement t ts) = and_then (completion c t) (statements_completion (after c t) ts)

  pub catches_completion : StatementContext → CatchTrees → Completion
  catches_completion c no_catch = nowhere
  catches_completion c (and_catch modifiers names name b more) = one_of (block_completion (catch_context c modifiers names name) b) (catches_completion (next_catch_context c b) more)

  -- an `if` without `else` can complete normally (JLS 14.22)
  pub else_completion : StatementContext → MaybeStmt → Completion
  else_completion c no_else = normal
  else_completion c (some_else t) = completion c t

  pub finally_completion : StatementContext → MaybeBlock → Completion
  finally_completion c no_finally = normal
  finally_completion c (some_finally b) = block_completion c b
