-- Typed statements in which each statement and each expression is typed (JLS 14, 15).
use Rattle.program_model.specs.declared.program.Method.{Method}
use Rattle.java_typed_trees.specs.StatementTrees.{StmtTree, StmtTrees, Statement, no_statement, and_statement}
use Rattle.java_typing_laws.specs.TypedTrees.{AreTypedTrees, parts_in}
use Rattle.java_typing_laws.specs.TypingContexts.{TypingContext}
use Rattle.java_typing_laws.specs.TypedForms.{IsTypedForm}

abbrev mutual
  -- the statement, its expressions and all statements in it are typed, in the body of this method or constructor
  pub IsTypedStatementTree : TypingContext → Method → StmtTree → Type 0
  IsTypedStatementTree c m (Statement form place es ss) = IsTypedForm c m form (parts_in es) × AreTypedTrees c es × AreTypedStatementTrees c m ss

  pub AreTypedStatementTrees : TypingContext → Method → StmtTrees → Type 0
  AreTypedStatementTrees c m no_statement = Unit {0}
  AreTypedStatementTrees c m (and_statement t ts) = IsTypedStatementTree c m t × AreTypedStatementTrees c m ts
