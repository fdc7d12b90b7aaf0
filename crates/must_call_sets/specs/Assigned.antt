-- The parameters that a signature speaks of, which the body may not assign: what is known of their objects at the end of the
-- body is said of the arguments.
use Rattle.std.specs.Prelude.{ℕ, ◌+◌, Bool, false, ◌&&◌, ◌||◌, nat_lt, Option, Some, None, length}
use Rattle.std.specs.List.{list_any}
use Rattle.program_model.specs.declared.program.Program.{Program}
use Rattle.program_model.specs.declared.program.Method.{Method}
use Rattle.program_model.specs.declared.program.Sig.{Sig}
use Rattle.program_model.specs.declared.program.Promise.{Promise}
use Rattle.program_model.specs.declared.tree.Body.{Body}
use Rattle.program_model.specs.declared.tree.TExpr.{TExpr}
use Rattle.program_model.specs.declared.tree.AssignmentTarget.{AssignmentTarget}
use Rattle.program_model.specs.declared.tree.AssignmentTarget.TheVariants as targets
use Rattle.program_model.specs.declared.tree.ExpressionKind.{ExpressionKind}
use Rattle.program_model.specs.declared.tree.ExpressionKind.TheVariants as expressions
use Rattle.program_model.specs.Lookups.{expression_at, method_at}
use Rattle.must_call_sets.specs.Signatures.{is_at, is_position}

-- the position is the alias position, the reset's target or the target of a promise of either kind
abbrev pub is_spoken_of : Sig → ℕ → Bool
is_spoken_of s k =
    is_position s.alias k || is_position s.reset k
    || list_any (λ (x : Promise). is_at x.target k) s.promises.items || list_any (λ (x : Promise). is_at x.target k) s.on_throw.items

-- the variable is a parameter that the signature speaks of
abbrev pub is_spoken_variable : Method → ℕ → Bool
is_spoken_variable m x = nat_lt x (length m.sig.params.items) && is_spoken_of m.sig (x + 1)

abbrev pub variable_of : ExpressionKind → Option ℕ
variable_of (expressions.Local x) = Some x
variable_of _ = None

abbrev pub variable_in : Option TExpr → Option ℕ
variable_in None = None
variable_in (Some x) = variable_of x.kind

abbrev pub variable_to : AssignmentTarget → Option ℕ
variable_to (targets.Local x) = Some x
variable_to _ = None

-- the variable that an expression assigns (JLS 15.26, 15.14.2, 15.15.1)
abbrev pub assigned_variable : Body → ExpressionKind → Option ℕ
assigned_variable b (expressions.Assignment t e) = variable_to t
assigned_variable b (expressions.OperatorAssignment a) = variable_in (expression_at b a.target)
assigned_variable b (expressions.PostfixStep a) = variable_in (expression_at b a.target)
assigned_variable b _ = None

abbrev pub is_spoken : Method → Option ℕ → Bool
is_spoken m None = false
is_spoken m (Some x) = is_spoken_variable m x

abbrev pub assigns_spoken_of : Option Method → Body → Bool
assigns_spoken_of None b = false
assigns_spoken_of (Some m) b = list_any (λ (e : TExpr). is_spoken m (assigned_variable b e.kind)) b.expressions.items

-- the body assigns a parameter that its method's signature speaks of
abbrev pub assigns_spoken : Program → Body → Bool
assigns_spoken p b = assigns_spoken_of (method_at p b.method) b
