-- A typed expression of a body as a cell: its shape and the numbers of its parts.
use Rattle.std.specs.Prelude.{Option, List, map}
use Rattle.rlc_base.specs.declared.place.Pos.{Pos}
use Rattle.program_model.specs.declared.kinds.ExprId.{ExprId}
use Rattle.program_model.specs.declared.kinds.VType.{VType}
use Rattle.program_model.specs.declared.tree.TExpr.{TExpr}
use Rattle.program_model.specs.declared.tree.CallTarget.{CallTarget}
use Rattle.program_model.specs.declared.tree.CallTarget.TheVariants as call_targets
use Rattle.program_model.specs.declared.tree.AssignmentTarget.{AssignmentTarget}
use Rattle.program_model.specs.declared.tree.AssignmentTarget.TheVariants as assignment_targets
use Rattle.program_model.specs.declared.tree.ExpressionKind.{ExpressionKind}
use Rattle.program_model.specs.declared.tree.ExpressionKind.TheVariants as kinds
use Rattle.program_model.specs.Trees.{operands}
use Rattle.java_typed_trees.specs.declared.shapes.Shape.{Shape}
use Rattle.java_typed_trees.specs.declared.shapes.Shape.TheVariants as shapes
use Rattle.java_typed_trees.specs.declared.shapes.TargetShape.{TargetShape}
use Rattle.java_typed_trees.specs.declared.shapes.TargetShape.TheVariants as targets
use Rattle.java_typed_trees.specs.declared.shapes.CallShape.{CallShape}
use Rattle.java_typed_trees.specs.declared.shapes.CallShape.TheVariants as calls

abbrev pub target_shape : AssignmentTarget → TargetShape
target_shape (assignment_targets.Local x) = targets.Local x
target_shape (assignment_targets.Field e f) = targets.Field f
target_shape (assignment_targets.StaticField f) = targets.StaticField f
target_shape (assignment_targets.Element a i) = targets.Element

abbrev pub call_shape : CallTarget → CallShape
call_shape call_targets.Static = calls.Static
call_shape (call_targets.This e) = calls.This
call_shape (call_targets.Super e) = calls.Super
call_shape (call_targets.Other e) = calls.Other

-- what an expression of a body is, without the numbers of its parts
abbrev pub shape_of : ExpressionKind → Shape
shape_of (kinds.Literal l) = shapes.Literal l
shape_of (kinds.Local x) = shapes.Local x
shape_of (kinds.This written) = shapes.This written
shape_of (kinds.Field e f) = shapes.Field f
shape_of (kinds.StaticField f) = shapes.StaticField f
shape_of (kinds.LibraryConstant m) = shapes.LibraryConstant m
shape_of (kinds.Unary o e) = shapes.Unary o
shape_of (kinds.Binary b) = shapes.Binary b.operator b.operands
shape_of (kinds.Conditional c a b) = shapes.Conditional
shape_of (kinds.InstanceOf e t) = shapes.InstanceOf t
shape_of (kinds.PrimitiveCast e) = shapes.PrimitiveCast
shape_of (kinds.ReferenceCast e) = shapes.ReferenceCast
shape_of (kinds.Assignment x e) = shapes.Assignment (target_shape x)
shape_of (kinds.OperatorAssignment a) = shapes.OperatorAssignment a.operator a.operands
shape_of (kinds.PostfixStep a) = shapes.PostfixStep a.operator a.operands
shape_of (kinds.Call c) = shapes.Call (call_shape c.target) c.method
shape_of (kinds.NewObject n) = shapes.NewObject n.class n.constructor
shape_of (kinds.NewArray e) = shapes.NewArray
shape_of (kinds.Element a i) = shapes.Element
shape_of (kinds.Length a) = shapes.Length

-- a typed expression, with the numbers of its parts in a list
pub record Cell : Type 0 where
  pub shape : Shape
  pub vtype : Option VType
  pub pos : Pos
  pub parts : List ExprId

abbrev pub cell_of : TExpr → Cell
cell_of x = record { shape = shape_of x.kind; vtype = x.vtype; pos = x.pos; parts = operands x.kind }

-- a body's table of expressions
abbrev pub cells_of : List TExpr → List Cell
cells_of table = map cell_of table
