-- Comparisons with the literal `null` (JLS 15.21.3).
use Rattle.std.specs.Prelude.{Bool, true, false, Option, Some, None, if◌then◌else◌}
use Rattle.program_model.specs.declared.kinds.ExprId.{ExprId}
use Rattle.program_model.specs.declared.kinds.Literal.{Literal}
use Rattle.program_model.specs.declared.kinds.Literal.TheVariants as literals
use Rattle.program_model.specs.declared.tree.Body.{Body}
use Rattle.program_model.specs.declared.tree.TExpr.{TExpr}
use Rattle.program_model.specs.declared.tree.BinaryExpression.{BinaryExpression}
use Rattle.program_model.specs.declared.tree.ExpressionKind.{ExpressionKind}
use Rattle.program_model.specs.declared.tree.ExpressionKind.TheVariants as expressions
use Rattle.program_model.specs.Lookups.{expression_at}

abbrev pub is_null_literal : Literal → Bool
is_null_literal literals.Null = true
is_null_literal _ = false

abbrev pub is_null_kind : ExpressionKind → Bool
is_null_kind (expressions.Literal l) = is_null_literal l
is_null_kind _ = false

abbrev pub is_null_node : Option TExpr → Bool
is_null_node None = false
is_null_node (Some x) = is_null_kind x.kind

-- the expression is the literal `null`
abbrev pub is_null : Body → ExprId → Bool
is_null b e = is_null_node (expression_at b e)

-- the operand that is compared with the literal `null`, in either order: of `null == null` the left one
abbrev pub compared_with_null : Body → BinaryExpression → Option ExprId
compared_with_null b x = if is_null b x.right then Some x.left else (if is_null b x.left then Some x.right else None)
