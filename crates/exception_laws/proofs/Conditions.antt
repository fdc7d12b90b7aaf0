-- What a condition becomes comes to its end no other way than the condition does.
use Rattle.std.proofs.Common.{◌≡◌, ◌⊎◌, ◌∷◌, [], ℕ, Bool, true, false, Option, Some, None, inl, inr, refl, subst}
use Rattle.std.specs.Prelude.{not}
use Rattle.program_model.specs.declared.kinds.BinaryOperator.{BinaryOperator}
use Rattle.program_model.specs.declared.kinds.BinaryOperator.TheVariants as binary
use Rattle.program_model.specs.declared.kinds.ExprId.{ExprId}
use Rattle.program_model.specs.declared.kinds.Literal.{Literal}
use Rattle.program_model.specs.declared.kinds.Literal.TheVariants as literals
use Rattle.program_model.specs.declared.kinds.UnaryOperator.{UnaryOperator}
use Rattle.program_model.specs.declared.kinds.UnaryOperator.TheVariants as unary
use Rattle.program_model.specs.declared.tree.BinaryExpression.{BinaryExpression}
use Rattle.program_model.specs.declared.tree.Body.{Body}
use Rattle.program_model.specs.declared.tree.ExpressionKind.{ExpressionKind}
use Rattle.program_model.specs.declared.tree.ExpressionKind.TheVariants as expressions
use Rattle.program_model.specs.declared.tree.TExpr.{TExpr}
use Rattle.program_model.specs.Lookups.{expression_at}
use Rattle.program_model.specs.Typing.{kind_in}
use Rattle.rlc_base.specs.declared.place.Pos.{Pos}
use Rattle.control_actions.specs.declared.item.Condition.{Condition}
use Rattle.control_actions.specs.declared.item.Condition.TheVariants as conditions
use Rattle.java_control.specs.Conditions.{binary_condition, condition_front, equal_condition, kind_condition, literal_condition, node_condition, not_equal_condition, tests_value, unary_condition}
use Rattle.java_control.specs.NullTests.{compared_with_null}
use Rattle.java_control.specs.Remaining.{Todos, Ev, Cond, NullFork, todos, one, nowhere}
use Rattle.accepted_programs.specs.Completions.{is_true_kind}
use Rattle.exception_laws.proofs.Outcomes.{Arrival, abruptly, after, after_all, after_in, after_listed, normally}

-- behind a condition with these parts, whose test may fail or not
abbrev Behind : Body → Bool → Todos → Todos → (Arrival → Type 0) → Type 0
Behind b fails x y q = after_in b x q normally ⊎ ((fails ≡ true × after_in b y q normally) ⊎ q abruptly)

by_value : (b : Body) (e : ExprId) (at : Pos) (d : ℕ) (x y : Todos) (q : Arrival → Type 0) → after_all b (tests_value e at d x y) q normally → Behind b true x y q
by_value b e at d x y q (inl (inl r)) = inl r
by_value b e at d x y q (inl (inr r)) = inr (inl (refl, r))
by_value b e at d x y q (inr r) = inr (inr r)

by_fork : (b : Body) (e : ExprId) (at : Pos) (d : ℕ) (x y : Todos) (q : Arrival → Type 0) → after_all b (Ev e d ∷ NullFork at d x y ∷ []) q normally → Behind b true x y q
by_fork b e at d x y q (inl (inl r)) = inl r
by_fork b e at d x y q (inl (inr r)) = inr (inl (refl, r))
by_fork b e at d x y q (inr r) = inr (inr r)

turned : (b : Body) (x y : Todos) (q : Arrival → Type 0) → Behind b true y x q → Behind b true x y q
turned b x y q (inl r) = inr (inl (refl, r))
turned b x y q (inr (inl r)) = inl r.1
turned b x y q (inr (inr r)) = inr (inr r)

from_list : (b : Body) (x : Todos) (q : Arrival → Type 0) → after_all b (todos x) q normally → after_in b x q normally
from_list b x q r = subst (λ (f : Arrival → Type 0). f normally) (after_listed b x q) r

by_literal : (b : Body) (l : Literal) (e : ExprId) (at : Pos) (d : ℕ) (x y : Todos) (q : Arrival → Type 0) → after_all b (literal_condition l e at d x y) q normally → Behind b (not (is_true_kind (Some (expressions.Literal l)))) x y q
by_literal b (literals.Boolean true) e at d x y q r = inl (from_list b x q r)
by_literal b (literals.Boolean false) e at d x y q r = inr (inl (refl, from_list b y q r))
by_literal b (literals.Number n) e at d x y q r = by_value b e at d x y q r
by_literal b (literals.Character c) e at d x y q r = by_value b e at d x y q r
by_literal b literals.Text e at d x y q r = by_value b e at d x y q r
by_literal b literals.Null e at d x y q r = by_value b e at d x y q r

-- a condition over any expression may fail
by_cond : (b : Body) (c : ExprId) (d : ℕ) (x y : Todos) (q : Arrival → Type 0) → after_all b (Cond (conditions.Of c) d x y ∷ []) q normally → Behind b true x y q
by_cond b c d x y q (inl r) = inl r
by_cond b c d x y q (inr (inl r)) = inr (inl (refl, r.1))
by_cond b c d x y q (inr (inr r)) = inr (inr r)

by_not : (b : Body) (o : UnaryOperator) (c e : ExprId) (at : Pos) (d : ℕ) (x y : Todos) (q : Arrival → Type 0) → after_all b (unary_condition o c e at d x y) q normally → Behind b true x y q
by_not b unary.Not c e at d x y q r = turned b x y q (by_cond b c d y x q r)
by_not b unary.Plus c e at d x y q r = by_value b e at d x y q r
by_not b unary.Minus c e at d x y q r = by_value b e at d x y q r
by_not b unary.Complement c e at d x y q r = by_value b e at d x y q r

by_equal : (b : Body) (o : Option ExprId) (e : ExprId) (at : Pos) (d : ℕ) (x y : Todos) (q : Arrival → Type 0) → after_all b (equal_condition o e at d x y) q normally → Behind b true x y q
by_equal b None e at d x y q r = by_value b e at d x y q r
by_equal b (Some w) e at d x y q r = by_fork b w at d x y q r

by_unequal : (b : Body) (o : Option ExprId) (e : ExprId) (at : Pos) (d : ℕ) (x y : Todos) (q : Arrival → Type 0) → after_all b (not_equal_condition o e at d x y) q normally → Behind b true x y q
by_unequal b None e at d x y q r = by_value b e at d x y q r
by_unequal b (Some w) e at d x y q r = turned b x y q (by_fork b w at d y x q r)

by_and : (b : Body) (l r : ExprId) (d : ℕ) (x y : Todos) (q : Arrival → Type 0) → Behind b true (one (Cond (conditions.Of r) d x y)) y q → Behind b true x y q
by_and b l r d x y q (inl z) = by_cond b r d x y q z
by_and b l r d x y q (inr z) = inr z

by_or : (b : Body) (l r : ExprId) (d : ℕ) (x y : Todos) (q : Arrival → Type 0) → Behind b true x (one (Cond (conditions.Of r) d x y)) q → Behind b true x y q
by_or b l r d x y q (inl z) = inl z
by_or b l r d x y q (inr (inl z)) = by_cond b r d x y q z.1
by_or b l r d x y q (inr (inr z)) = inr (inr z)

by_binary : (b : Body) (o : BinaryOperator) (w : BinaryExpression) (e : ExprId) (at : Pos) (d : ℕ) (x y : Todos) (q : Arrival → Type 0) → after_all b (binary_condition o w b e at d x y) q normally → Behind b true x y q
by_binary b binary.ConditionalAnd w e at d x y q r = by_and b w.left w.right d x y q (by_cond b w.left d (one (Cond (conditions.Of w.right) d x y)) y q r)
by_binary b binary.ConditionalOr w e at d x y q r = by_or b w.left w.right d x y q (by_cond b w.left d x (one (Cond (conditions.Of w.right) d x y)) q r)
by_binary b binary.Equal w e at d x y q r = by_equal b (compared_with_null b w) e at d x y q r
by_binary b binary.NotEqual w e at d x y q r = by_unequal b (compared_with_null b w) e at d x y q r
by_binary b o w e at d x y q r = by_value b e at d x y q r

by_kind : (b : Body) (kind : ExpressionKind) (e : ExprId) (at : Pos) (d : ℕ) (x y : Todos) (q : Arrival → Type 0) → after_all b (kind_condition kind b e at d x y) q normally → Behind b (not (is_true_kind (Some kind))) x y q
by_kind b (expressions.Literal l) e at d x y q r = by_literal b l e at d x y q r
by_kind b (expressions.Unary o c) e at d x y q r = by_not b o c e at d x y q r
by_kind b (expressions.Binary w) e at d x y q r = by_binary b w.operator w e at d x y q r
by_kind b kind e at d x y q r = by_value b e at d x y q r

by_node : (b : Body) (o : Option TExpr) (e : ExprId) (d : ℕ) (x y : Todos) (q : Arrival → Type 0) → after_all b (node_condition o b e d x y) q normally → Behind b (not (is_true_kind (kind_in o))) x y q
by_node b None e d x y q r = by_value b e nowhere d x y q r
by_node b (Some n) e d x y q r = by_kind b n.kind e n.pos d x y q r

-- what a condition becomes
pub condition_ends : (b : Body) (c : Condition) (d : ℕ) (x y : Todos) (q : Arrival → Type 0) → after_all b (condition_front b c d x y) q normally → after b (Cond c d x y) q normally
condition_ends b (conditions.Of e) d x y q r = by_node b (expression_at b e) e d x y q r
condition_ends b (conditions.Absent pos) d x y q r = inl (from_list b x q r)
