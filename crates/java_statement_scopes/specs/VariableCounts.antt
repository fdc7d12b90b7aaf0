-- How many variables a statement declares with all in it (JLS 14.4, 14.14.1, 14.20). They are numbered in the order of the text.
use Rattle.std.specs.Prelude.{ℕ, ◌+◌, length}
use Rattle.java_syntax.specs.StatementTrees.{BlockTree, Braces, CatchTrees, ForStartTree, MaybeBlock, MaybeStmt, StmtTree, StmtTrees, no_catch, and_catch, no_else, some_else, no_finally, some_finally, no_statement, and_statement}
use Rattle.java_syntax.specs.StatementTrees as syntax

-- those of the first part of a `for`
abbrev pub start_count : ForStartTree → ℕ
start_count (syntax.Declaration l) = length l.variables
start_count (syntax.Expressions es) = 0

abbrev mutual
  pub variable_count : StmtTree → ℕ
  variable_count (syntax.BlockOf b) = block_count b
  variable_count (syntax.Empty place) = 0
  variable_count (syntax.LocalOf l place) = length l.variables
  variable_count (syntax.ExpressionOf e place) = 0
  variable_count (syntax.If e a b place) = variable_count a + else_count b
  variable_count (syntax.While e body place) = variable_count body
  variable_count (syntax.DoWhile body e place) = variable_count body
  variable_count (syntax.For start e updates body place) = start_count start + variable_count body
  variable_count (syntax.Try resources b cs last place) = length resources + block_count b + catches_count cs + finally_count last
  variable_count (syntax.Return e place) = 0
  variable_count (syntax.Throw e place) = 0
  variable_count (syntax.Break place) = 0
  variable_count (syntax.Continue place) = 0

  pub block_count : BlockTree → ℕ
  block_count (Braces ts place end) = statements_count ts

  pub statements_count : StmtTrees → ℕ
  statements_count no_statement = 0
  statements_count (and_statement t ts) = variable_count t + statements_count ts

  -- a clause has a parameter
  pub catches_count : CatchTrees → ℕ
  catches_count no_catch = 0
  catches_count (and_catch modifiers names name b more) = 1 + block_count b + catches_count more

  pub else_count : MaybeStmt → ℕ
  else_count no_else = 0
  else_count (some_else t) = variable_count t

  pub finally_count : MaybeBlock → ℕ
  finally_count no_finally = 0
  finally_count (some_finally b) = block_count b
