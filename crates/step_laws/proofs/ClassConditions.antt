-- What a condition becomes finds the values that it asks, where both of what follows it do.
use Rattle.std.proofs.Common.{ℕ, true, false, Option, Some, None, List, ◌++◌, inl}
use Rattle.program_model.specs.declared.kinds.ClassId.{ClassId}
use Rattle.program_model.specs.declared.kinds.BinaryOperator.{BinaryOperator}
use Rattle.program_model.specs.declared.kinds.BinaryOperator.TheVariants as binary
use Rattle.program_model.specs.declared.kinds.ExprId.{ExprId}
use Rattle.program_model.specs.declared.kinds.Literal.{Literal}
use Rattle.program_model.specs.declared.kinds.Literal.TheVariants as literals
use Rattle.program_model.specs.declared.kinds.UnaryOperator.{UnaryOperator}
use Rattle.program_model.specs.declared.kinds.UnaryOperator.TheVariants as unary
use Rattle.program_model.specs.declared.program.Program.{Program}
use Rattle.program_model.specs.declared.tree.BinaryExpression.{BinaryExpression}
use Rattle.program_model.specs.declared.tree.Body.{Body}
use Rattle.program_model.specs.declared.tree.ExpressionKind.{ExpressionKind}
use Rattle.program_model.specs.declared.tree.ExpressionKind.TheVariants as expressions
use Rattle.program_model.specs.declared.tree.TExpr.{TExpr}
use Rattle.program_model.specs.Lookups.{expression_at}
use Rattle.rlc_base.specs.declared.place.Pos.{Pos}
use Rattle.java_control.specs.Conditions.{binary_condition, condition_front, equal_condition, kind_condition, literal_condition, node_condition, not_equal_condition, tests_value, unary_condition}
use Rattle.java_control.specs.NullTests.{compared_with_null}
use Rattle.java_control.specs.Remaining.{Todo, Todos, nowhere, todos}
use Rattle.control_actions.specs.declared.item.Condition.{Condition}
use Rattle.control_actions.specs.declared.item.Condition.TheVariants as conditions
use Rattle.step_laws.specs.Operands.{below}
use Rattle.step_laws.specs.ClassOperands.{FindsAside, FindsClass, ItemsFit, evaluated}
use Rattle.step_laws.proofs.ClassItems.{items_found, items_same, past_more}

-- `x` follows where the condition is true and `y` where it is false
module _ (p : Program) (bound : ClassId) (b : Body) (x y : Todos) (k : List Todo) (d : ℕ) (h : ℕ → Type 0) (left : ItemsFit p bound b x (FindsClass p bound b k) (FindsAside p bound b k) (below d h))
    (right : ItemsFit p bound b y (FindsClass p bound b k) (FindsAside p bound b k) (below d h)) (past : FindsAside p bound b k (below d h)) where
  more : (xs : Todos) (g : ℕ → Type 0) → ((z : ℕ) → below d h z → below d g z) → ItemsFit p bound b xs (FindsClass p bound b k) (FindsAside p bound b k) (below d h) → ItemsFit p bound b xs (FindsClass p bound b k) (FindsAside p bound b k) (below d g)
  more xs g wider fits = items_same p bound b xs k (below d h) (below d g) wider fits

  under_value : (e : ExprId) (z : ℕ) → below d h z → below d (evaluated p bound b e d h) z
  under_value e z under = (under.0, inl under)

  twice : (z : ℕ) → below d h z → below d (below d h) z
  twice z under = (under.0, under)

  followed : (xs : Todos) → ItemsFit p bound b xs (FindsClass p bound b k) (FindsAside p bound b k) (below d h) → FindsClass p bound b (todos xs ++ k) h
  followed xs fits = items_found p bound b xs k (below d h) h (λ z under. under.1) fits

  past_twice : FindsAside p bound b k (below d (below d h))
  past_twice = past_more p bound b k (below d h) (below d (below d h)) twice past

  tests_find : (e : ExprId) (pos : Pos) → FindsClass p bound b (tests_value e pos d x y ++ k) h
  tests_find e pos = ((more x (evaluated p bound b e d h) (under_value e) left, more y (evaluated p bound b e d h) (under_value e) right), past)

  literal_finds : (l : Literal) (e : ExprId) (pos : Pos) → FindsClass p bound b (literal_condition l e pos d x y ++ k) h
  literal_finds (literals.Number z) e pos = tests_find e pos
  literal_finds (literals.Boolean true) e pos = followed x left
  literal_finds (literals.Boolean false) e pos = followed y right
  literal_finds l e pos = tests_find e pos

  not_finds : (o : UnaryOperator) (c e : ExprId) (pos : Pos) → FindsClass p bound b (unary_condition o c e pos d x y ++ k) h
  not_finds unary.Not c e pos = (right, left, past)
  not_finds o c e pos = tests_find e pos

  equal_finds : (z : Option ExprId) (e : ExprId) (pos : Pos) → FindsClass p bound b (equal_condition z e pos d x y ++ k) h
  equal_finds (Some z) e pos = ((more x (evaluated p bound b z d h) (under_value z) left, more y (evaluated p bound b z d h) (under_value z) right), past)
  equal_finds None e pos = tests_find e pos

  not_equal_finds : (z : Option ExprId) (e : ExprId) (pos : Pos) → FindsClass p bound b (not_equal_condition z e pos d x y ++ k) h
  not_equal_finds (Some z) e pos = ((more y (evaluated p bound b z d h) (under_value z) right, more x (evaluated p bound b z d h) (under_value z) left), past)
  not_equal_finds None e pos = tests_find e pos

  both_find : (o : BinaryOperator) (z : BinaryExpression) (e : ExprId) (pos : Pos) → FindsClass p bound b (binary_condition o z b e pos d x y ++ k) h
  both_find binary.ConditionalAnd z e pos = ((more x (below d h) twice left, more y (below d h) twice right, past_twice), right, past)
  both_find binary.ConditionalOr z e pos = (left, (more x (below d h) twice left, more y (below d h) twice right, past_twice), past)
  both_find binary.Equal z e pos = equal_finds (compared_with_null b z) e pos
  both_find binary.NotEqual z e pos = not_equal_finds (compared_with_null b z) e pos
  both_find o z e pos = tests_find e pos

  kind_finds : (j : ExpressionKind) (e : ExprId) (pos : Pos) → FindsClass p bound b (kind_condition j b e pos d x y ++ k) h
  kind_finds (expressions.Literal l) e pos = literal_finds l e pos
  kind_finds (expressions.Unary o c) e pos = not_finds o c e pos
  kind_finds (expressions.Binary z) e pos = both_find z.operator z e pos
  kind_finds j e pos = tests_find e pos

  node_finds : (z : Option TExpr) (e : ExprId) → FindsClass p bound b (node_condition z b e d x y ++ k) h
  node_finds None e = tests_find e nowhere
  node_finds (Some z) e = kind_finds z.kind e z.pos

  pub condition_finds : (c : Condition) → FindsClass p bound b (condition_front b c d x y ++ k) h
  condition_finds (conditions.Of e) = node_finds (expression_at b e) e
  condition_finds (conditions.Absent pos) = followed x left
