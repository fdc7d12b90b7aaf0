-- The classes of exceptions that typed trees can throw by the throws clauses of what they call (JLS 11.2.1).
use Rattle.std.proofs.Common.{◌++◌, [], List}
use Rattle.program_model.specs.declared.kinds.ClassId.{ClassId}
use Rattle.program_model.specs.declared.program.Program.{Program}
use Rattle.java_typed_trees.specs.Exceptions.{classes_thrown}
use Rattle.java_typed_trees.specs.ExpressionTrees.{ExprTree, ExprTrees, Node, and_expression, no_expression}

abbrev mutual
  pub value_thrown : Program → ExprTree → List ClassId
  value_thrown p (Node shape t place parts) = classes_thrown p shape ++ values_thrown p parts

  pub values_thrown : Program → ExprTrees → List ClassId
  values_thrown p no_expression = []
  values_thrown p (and_expression t ts) = value_thrown p t ++ values_thrown p ts
