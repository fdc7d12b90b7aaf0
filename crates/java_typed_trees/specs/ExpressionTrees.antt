-- Typed expressions as trees without addresses, and the tree that a value in memory is.
use Rattle.std.specs.Prelude.{Option, List, [], ◌∷◌}
use Rattle.rlc_base.specs.declared.place.Pos.{Pos}
use Rattle.program_model.specs.declared.kinds.VType.{VType}
use Rattle.java_typed_trees.specs.declared.shapes.Shape.{Shape}
use Rattle.java_typed_trees.specs.declared.trees.ExpressionTree as expr

mutual
  -- an expression: its shape, its type, its place and its parts
  pub data ExprTree : Type 0 where
    Node : (shape : Shape) (vtype : Option VType) (pos : Pos) (parts : ExprTrees) → ExprTree

  pub data ExprTrees : Type 0 where
    no_expression : ExprTrees
    and_expression : (first : ExprTree) (more : ExprTrees) → ExprTrees

-- a list of trees, as a tree holds it
abbrev pub expressions : List ExprTree → ExprTrees
expressions [] = no_expression
expressions (t ∷ ts) = and_expression t (expressions ts)

abbrev mutual
  pub tree_of : expr.ExpressionTree → ExprTree
  tree_of (expr.ExpressionTree' s t place shape all) = Node s t place (trees_of all)

  pub trees_of : {m : _} → expr.Row_of-ExpressionTree m → ExprTrees
  trees_of expr.end_of-ExpressionTree = no_expression
  trees_of (expr.more_of-ExpressionTree e rest) = and_expression (tree_of e) (trees_of rest)
