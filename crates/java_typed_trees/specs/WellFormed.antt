-- Typed trees in which each expression has a type, and as many parts as its shape takes.
use Rattle.std.specs.Prelude.{ℕ, ◌+◌, ◌≡◌, ◌≤◌}
use Rattle.java_typed_trees.specs.declared.shapes.Shape.{Shape}
use Rattle.java_typed_trees.specs.declared.shapes.Shape.TheVariants as shapes
use Rattle.java_typed_trees.specs.declared.shapes.TargetShape.{TargetShape}
use Rattle.java_typed_trees.specs.declared.shapes.TargetShape.TheVariants as targets
use Rattle.java_typed_trees.specs.declared.shapes.CallShape.{CallShape}
use Rattle.java_typed_trees.specs.declared.shapes.CallShape.TheVariants as calls
use Rattle.java_typed_trees.specs.ExpressionTrees.{ExprTree, ExprTrees, Node, no_expression, and_expression}

abbrev pub count : ExprTrees → ℕ
count no_expression = 0
count (and_expression t ts) = 1 + count ts

abbrev pub parts_of_target : TargetShape → ℕ
parts_of_target (targets.Local x) = 0
parts_of_target (targets.Field f) = 1
parts_of_target (targets.StaticField f) = 0
parts_of_target targets.Element = 2

-- a call has at least its target, where the form has one
abbrev pub TakesArguments : CallShape → ℕ → Type 0
TakesArguments calls.Static n = Unit {0}
TakesArguments calls.This n = 1 ≤ n
TakesArguments calls.Super n = 1 ≤ n
TakesArguments calls.Other n = 1 ≤ n

-- an expression of the shape has so many parts
abbrev pub Takes : Shape → ℕ → Type 0
Takes (shapes.Literal l) n = n ≡ 0
Takes (shapes.Local x) n = n ≡ 0
Takes (shapes.This written) n = n ≡ 0
Takes (shapes.Field f) n = n ≡ 1
Takes (shapes.StaticField f) n = n ≡ 0
Takes (shapes.LibraryConstant m) n = n ≡ 0
Takes (shapes.Unary o) n = n ≡ 1
Takes (shapes.Binary o t) n = n ≡ 2
Takes shapes.Conditional n = n ≡ 3
Takes (shapes.InstanceOf t) n = n ≡ 1
Takes shapes.PrimitiveCast n = n ≡ 1
Takes shapes.ReferenceCast n = n ≡ 1
Takes (shapes.Assignment x) n = n ≡ parts_of_target x + 1
Takes (shapes.OperatorAssignment o t) n = n ≡ 2
Takes (shapes.PostfixStep o t) n = n ≡ 2
Takes (shapes.Call form m) n = TakesArguments form n
Takes (shapes.NewObject c m) n = Unit {0}
Takes shapes.NewArray n = n ≡ 1
Takes shapes.Element n = n ≡ 2
Takes shapes.Length n = n ≡ 1
Takes shapes.Erroneous n = ⊥

abbrev mutual
  -- the expression and all in it have types, and the parts that their shapes take
  pub IsWellFormed : ExprTree → Type 0
  IsWellFormed (Node s t place parts) = Takes s (count parts) × AreWellFormed parts

  pub AreWellFormed : ExprTrees → Type 0
  AreWellFormed no_expression = Unit {0}
  AreWellFormed (and_expression t ts) = IsWellFormed t × AreWellFormed ts
