-- Typed statements in which each expression has its type.
use Rattle.java_typed_trees.specs.StatementTrees.{StmtTree, StmtTrees, Statement, no_statement, and_statement}
use Rattle.java_typing_laws.specs.TypedTrees.{AreTypedTrees}
use Rattle.java_typing_laws.specs.TypingContexts.{TypingContext}

abbrev mutual
  -- the expressions of the statement, and of all statements in it, are typed
  pub HasTypedTrees : TypingContext → StmtTree → Type 0
  HasTypedTrees c (Statement form place es ss) = AreTypedTrees c es × HaveTypedTrees c ss

  pub HaveTypedTrees : TypingContext → StmtTrees → Type 0
  HaveTypedTrees c no_statement = Unit {0}
  HaveTypedTrees c (and_statement t ts) = HasTypedTrees c t × HaveTypedTrees c ts
