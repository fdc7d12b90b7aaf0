-- Conditions: `p` follows where the condition is true and `q` where it is false (JLS 15.15.6, 15.23, 15.24, 14.9).
use Rattle.std.specs.Prelude.{ℕ, true, false, Option, Some, None, List, [], ◌∷◌}
use Rattle.program_model.specs.declared.kinds.ExprId.{ExprId}
use Rattle.program_model.specs.declared.kinds.Literal.{Literal}
use Rattle.program_model.specs.declared.kinds.Literal.TheVariants as literals
use Rattle.program_model.specs.declared.kinds.UnaryOperator.{UnaryOperator}
use Rattle.program_model.specs.declared.kinds.UnaryOperator.TheVariants as unary
use Rattle.program_model.specs.declared.kinds.BinaryOperator.{BinaryOperator}
use Rattle.program_model.specs.declared.kinds.BinaryOperator.TheVariants as binary
use Rattle.program_model.specs.declared.tree.BinaryExpression.{BinaryExpression}
use Rattle.program_model.specs.declared.tree.Body.{Body}
use Rattle.program_model.specs.declared.tree.ExpressionKind.{ExpressionKind}
use Rattle.program_model.specs.declared.tree.ExpressionKind.TheVariants as expressions
use Rattle.program_model.specs.declared.tree.TExpr.{TExpr}
use Rattle.program_model.specs.Lookups.{expression_at}
use Rattle.rlc_base.specs.declared.place.Pos.{Pos}
use Rattle.control_actions.specs.declared.item.Condition.{Condition}
use Rattle.control_actions.specs.declared.item.Condition.TheVariants as conditions
use Rattle.control_actions.specs.NullTests.{compared_with_null}
use Rattle.control_actions.specs.Remaining.{Todo, Todos, Ev, Cond, NullFork, BoolFork, todos, one, nowhere}

-- any other condition: its value is tested
abbrev pub tests_value : ExprId → Pos → ℕ → Todos → Todos → List Todo
tests_value e pos d p q = Ev e d ∷ BoolFork pos d p q ∷ []

abbrev pub literal_condition : Literal → ExprId → Pos → ℕ → Todos → Todos → List Todo
literal_condition (literals.Boolean true) e pos d p q = todos p
literal_condition (literals.Boolean false) e pos d p q = todos q
literal_condition _ e pos d p q = tests_value e pos d p q

abbrev pub unary_condition : UnaryOperator → ExprId → ExprId → Pos → ℕ → Todos → Todos → List Todo
unary_condition unary.Not c e pos d p q = Cond (conditions.Of c) d q p ∷ []
unary_condition _ c e pos d p q = tests_value e pos d p q

-- a comparison with the literal `null` tests the other operand
abbrev pub equal_condition : Option ExprId → ExprId → Pos → ℕ → Todos → Todos → List Todo
equal_condition (Some x) e pos d p q = Ev x d ∷ NullFork pos d p q ∷ []
equal_condition None e pos d p q = tests_value e pos d p q

abbrev pub not_equal_condition : Option ExprId → ExprId → Pos → ℕ → Todos → Todos → List Todo
not_equal_condition (Some x) e pos d p q = Ev x d ∷ NullFork pos d q p ∷ []
not_equal_condition None e pos d p q = tests_value e pos d p q

abbrev pub binary_condition : BinaryOperator → BinaryExpression → Body → ExprId → Pos → ℕ → Todos → Todos → List Todo
binary_condition binary.ConditionalAnd x b e pos d p q = Cond (conditions.Of x.left) d (one (Cond (conditions.Of x.right) d p q)) q ∷ []
binary_condition binary.ConditionalOr x b e pos d p q = Cond (conditions.Of x.left) d p (one (Cond (conditions.Of x.right) d p q)) ∷ []
binary_condition binary.Equal x b e pos d p q = equal_condition (compared_with_null b x) e pos d p q
binary_condition binary.NotEqual x b e pos d p q = not_equal_condition (compared_with_null b x) e pos d p q
binary_condition _ x b e pos d p q = tests_value e pos d p q

abbrev pub kind_condition : ExpressionKind → Body → ExprId → Pos → ℕ → Todos → Todos → List Todo
kind_condition (expressions.Literal l) b e pos d p q = literal_condition l e pos d p q
kind_condition (expressions.Unary o c) b e pos d p q = unary_condition o c e pos d p q
kind_condition (expressions.Binary x) b e pos d p q = binary_condition x.operator x b e pos d p q
kind_condition _ b e pos d p q = tests_value e pos d p q

abbrev pub node_condition : Option TExpr → Body → ExprId → ℕ → Todos → Todos → List Todo
node_condition None b e d p q = tests_value e nowhere d p q
node_condition (Some x) b e d p q = kind_condition x.kind b e x.pos d p q

-- what a condition becomes; an absent one is true
abbrev pub condition_front : Body → Condition → ℕ → Todos → Todos → List Todo
condition_front b (conditions.Of e) d p q = node_condition (expression_at b e) b e d p q
condition_front b (conditions.Absent pos) d p q = todos p
