-- Expressions (JLS 15): the value of `e` at depth `d` goes into the temp of depth `d`, and the operands of what it computes
-- stand in the temps from `d` on, evaluated from left to right.
use Rattle.std.specs.Prelude.{ℕ, ◌+◌, Bool, true, false, Option, Some, None, List, [], ◌∷◌, ◌++◌, length, if◌then◌else◌}
use Rattle.program_model.specs.declared.kinds.ExprId.{ExprId}
use Rattle.program_model.specs.declared.kinds.FieldId.{FieldId}
use Rattle.program_model.specs.declared.kinds.MethodId.{MethodId}
use Rattle.program_model.specs.declared.kinds.Literal.TheVariants as literals
use Rattle.program_model.specs.declared.kinds.UnaryOperator.{UnaryOperator}
use Rattle.program_model.specs.declared.kinds.UnaryOperator.TheVariants as unary
use Rattle.program_model.specs.declared.kinds.BinaryOperator.{BinaryOperator}
use Rattle.program_model.specs.declared.kinds.BinaryOperator.TheVariants as binary
use Rattle.program_model.specs.declared.kinds.VType.{VType}
use Rattle.program_model.specs.declared.kinds.VType.TheVariants as types
use Rattle.program_model.specs.declared.program.Program.{Program}
use Rattle.program_model.specs.declared.tree.Body.{Body}
use Rattle.program_model.specs.declared.tree.TExpr.{TExpr}
use Rattle.program_model.specs.declared.tree.BinaryExpression.{BinaryExpression}
use Rattle.program_model.specs.declared.tree.CallTarget.{CallTarget}
use Rattle.program_model.specs.declared.tree.CallTarget.TheVariants as calls
use Rattle.program_model.specs.declared.tree.CallExpression.{CallExpression}
use Rattle.program_model.specs.declared.tree.NewObject.{NewObject}
use Rattle.program_model.specs.declared.tree.OperatorAssignment.{OperatorAssignment}
use Rattle.program_model.specs.declared.tree.AssignmentTarget.{AssignmentTarget}
use Rattle.program_model.specs.declared.tree.AssignmentTarget.TheVariants as targets
use Rattle.program_model.specs.declared.tree.ExpressionKind.{ExpressionKind}
use Rattle.program_model.specs.declared.tree.ExpressionKind.TheVariants as expressions
use Rattle.program_model.specs.Lookups.{expression_at}
use Rattle.rlc_base.specs.declared.place.Pos.{Pos}
use Rattle.control_actions.specs.declared.place.Place.TheVariants as places
use Rattle.control_actions.specs.declared.action.Action.TheVariants as actions
use Rattle.control_actions.specs.declared.action.PlainValue.TheVariants as plain
use Rattle.control_actions.specs.declared.action.Operator.{Operator}
use Rattle.control_actions.specs.declared.action.Operator.TheVariants as operators
use Rattle.control_actions.specs.declared.action.Scope.TheVariants as scopes
use Rattle.control_actions.specs.declared.action.TargetForm.TheVariants as forms
use Rattle.control_actions.specs.declared.item.Condition.TheVariants as conditions
use Rattle.control_actions.specs.Owned.{is_this, has_place, place_of_field}
use Rattle.control_actions.specs.NullTests.{compared_with_null}
use Rattle.control_actions.specs.Remaining.{Todo, Ev, Act, Cond, one}

-- the type of a node, where it has one
abbrev pub type_or_null : Option VType → VType
type_or_null None = types.NullType
type_or_null (Some t) = t

-- operands, from a depth on
abbrev pub evaluations : List ExprId → ℕ → List Todo
evaluations [] d = []
evaluations (e ∷ es) d = Ev e d ∷ evaluations es (d + 1)

-- the operands from depth `d` on, and then the operator
abbrev pub computes : Operator → List ExprId → ℕ → Pos → List Todo
computes k es d pos = evaluations es d ++ Act (actions.Op k d (length es)) pos ∷ []

-- the value of a field (JLS 15.11.1): a field with a place of its own is read there
abbrev pub field_read : Program → Body → ExprId → FieldId → ℕ → Pos → List Todo
field_read p b e f d pos =
    if has_place p b e f then Act (actions.Copy (places.Temp d) (place_of_field p f)) pos ∷ []
    else (Ev e d ∷ Act (actions.Get f d (is_this b e)) pos ∷ [])

-- a store into a field (JLS 15.26.1), likewise
abbrev pub field_store : Program → Body → ExprId → FieldId → ExprId → ℕ → Pos → List Todo
field_store p b e f value d pos =
    if has_place p b e f then Ev value d ∷ Act (actions.PutOwn f d) pos ∷ []
    else (Ev e d ∷ Ev value (d + 1) ∷ Act (actions.Put f d (is_this b e)) pos ∷ [])

abbrev pub assignment_front : Program → Body → AssignmentTarget → ExprId → ℕ → Pos → List Todo
assignment_front p b (targets.Local x) value d pos = Ev value d ∷ Act (actions.Copy (places.Var x) (places.Temp d)) pos ∷ []
assignment_front p b (targets.Field e f) value d pos = field_store p b e f value d pos
assignment_front p b (targets.StaticField f) value d pos = computes (operators.StoreStatic f) (value ∷ []) d pos
assignment_front p b (targets.Element a i) value d pos = computes operators.StoreElement (a ∷ i ∷ value ∷ []) d pos

-- the assignment of the temp of depth `k` to a variable, a static field or a field of `this`
abbrev pub stored_in : ExpressionKind → ℕ → Pos → List Todo
stored_in (expressions.Local x) k pos = Act (actions.Copy (places.Var x) (places.Temp k)) pos ∷ []
stored_in (expressions.StaticField f) k pos = Act (actions.Op (operators.StoreStatic f) k 1) pos ∷ []
stored_in (expressions.Field e f) k pos =
    Act (actions.Copy (places.Temp (k + 1)) (places.Temp k)) pos ∷ Act (actions.Copy (places.Temp k) places.This) pos
    ∷ Act (actions.Put f k true) pos ∷ []
stored_in _ k pos = []

abbrev pub stored_at : Option TExpr → ℕ → Pos → List Todo
stored_at None k pos = []
stored_at (Some x) k pos = stored_in x.kind k pos

abbrev pub stored : Body → ExprId → ℕ → Pos → List Todo
stored b target k pos = stored_at (expression_at b target) k pos

-- `x op= e`, `++x` and `--x`, which give the new value
abbrev pub update_front : Body → OperatorAssignment → Option VType → ℕ → Pos → List Todo
update_front b a t d pos =
    computes (operators.Binary a.operator a.operands (type_or_null t)) (a.target ∷ a.value ∷ []) d pos ++ stored b a.target d pos

-- `x++` and `x--`, which give the old value
abbrev pub postfix_front : Body → OperatorAssignment → Option VType → ℕ → Pos → List Todo
postfix_front b a t d pos =
    Ev a.target d ∷ computes (operators.Binary a.operator a.operands (type_or_null t)) (a.target ∷ a.value ∷ []) (d + 1) pos
    ++ stored b a.target (d + 1) pos ++ Act (actions.Drop (scopes.Temp (d + 1))) pos ∷ []

abbrev pub call_with : MethodId → List ExprId → CallTarget → ℕ → Pos → List Todo
call_with m es calls.Static d pos = evaluations es d ++ Act (actions.Call m d (length es) forms.Static) pos ∷ []
call_with m es (calls.This e) d pos = Ev e d ∷ evaluations es (d + 1) ++ Act (actions.Call m d (length es + 1) forms.This) pos ∷ []
call_with m es (calls.Super e) d pos = Ev e d ∷ evaluations es (d + 1) ++ Act (actions.Call m d (length es + 1) forms.Super) pos ∷ []
call_with m es (calls.Other e) d pos = Ev e d ∷ evaluations es (d + 1) ++ Act (actions.Call m d (length es + 1) forms.Other) pos ∷ []

abbrev pub call_front : CallExpression → ℕ → Pos → List Todo
call_front c d pos = call_with c.method c.arguments.items c.target d pos

abbrev pub new_front : NewObject → ℕ → Pos → List Todo
new_front n d pos = evaluations n.arguments.items (d + 1) ++ Act (actions.New n.constructor d (length n.arguments.items)) pos ∷ []

-- the values of a condition that stands where a value is wanted
abbrev pub truth : ℕ → Bool → Pos → Todo
truth d value pos = Act (actions.Plain (places.Temp d) (plain.Literal (literals.Boolean value))) pos

abbrev pub tested_front : ExprId → ℕ → Pos → List Todo
tested_front e d pos = Cond (conditions.Of e) d (one (truth d true pos)) (one (truth d false pos)) ∷ []

abbrev pub unary_front : UnaryOperator → ExprId → ExprId → Option VType → ℕ → Pos → List Todo
unary_front unary.Not x e t d pos = tested_front e d pos
unary_front o x e t d pos = computes (operators.Unary o (type_or_null t)) (x ∷ []) d pos

abbrev pub binary_value : BinaryExpression → Option VType → ℕ → Pos → List Todo
binary_value x t d pos = computes (operators.Binary x.operator x.operands (type_or_null t)) (x.left ∷ x.right ∷ []) d pos

abbrev pub comparison_front : Option ExprId → BinaryExpression → ExprId → Option VType → ℕ → Pos → List Todo
comparison_front (Some y) x e t d pos = tested_front e d pos
comparison_front None x e t d pos = binary_value x t d pos

-- `&&`, `||` and comparisons with null are taken as conditions
abbrev pub binary_front : BinaryOperator → BinaryExpression → Body → ExprId → Option VType → ℕ → Pos → List Todo
binary_front binary.ConditionalAnd x b e t d pos = tested_front e d pos
binary_front binary.ConditionalOr x b e t d pos = tested_front e d pos
binary_front binary.Equal x b e t d pos = comparison_front (compared_with_null b x) x e t d pos
binary_front binary.NotEqual x b e t d pos = comparison_front (compared_with_null b x) x e t d pos
binary_front _ x b e t d pos = binary_value x t d pos

-- what an expression becomes, by its kind, its number and its type
abbrev pub expression_front : ExpressionKind → Program → Body → ExprId → Option VType → ℕ → Pos → List Todo
expression_front (expressions.Literal l) p b e t d pos = Act (actions.Plain (places.Temp d) (plain.Literal l)) pos ∷ []
expression_front (expressions.Local x) p b e t d pos = Act (actions.Copy (places.Temp d) (places.Var x)) pos ∷ []
expression_front (expressions.This written) p b e t d pos = Act (actions.Copy (places.Temp d) places.This) pos ∷ []
expression_front (expressions.Field x f) p b e t d pos = field_read p b x f d pos
expression_front (expressions.StaticField f) p b e t d pos = Act (actions.Plain (places.Temp d) (plain.StaticField f)) pos ∷ []
expression_front (expressions.LibraryConstant m) p b e t d pos = Act (actions.Plain (places.Temp d) (plain.LibraryConstant m)) pos ∷ []
expression_front (expressions.Unary o x) p b e t d pos = unary_front o x e t d pos
expression_front (expressions.Binary x) p b e t d pos = binary_front x.operator x b e t d pos
expression_front (expressions.Conditional c x y) p b e t d pos = Cond (conditions.Of c) d (one (Ev x d)) (one (Ev y d)) ∷ []
expression_front (expressions.InstanceOf x tested) p b e t d pos = computes (operators.InstanceOf tested) (x ∷ []) d pos
expression_front (expressions.PrimitiveCast x) p b e t d pos = computes (operators.Convert (type_or_null t)) (x ∷ []) d pos
expression_front (expressions.ReferenceCast x) p b e t d pos = Ev x d ∷ Act (actions.Cast (type_or_null t) d) pos ∷ []
expression_front (expressions.Assignment target value) p b e t d pos = assignment_front p b target value d pos
expression_front (expressions.OperatorAssignment a) p b e t d pos = update_front b a t d pos
expression_front (expressions.PostfixStep a) p b e t d pos = postfix_front b a t d pos
expression_front (expressions.Call c) p b e t d pos = call_front c d pos
expression_front (expressions.NewObject n) p b e t d pos = new_front n d pos
expression_front (expressions.NewArray x) p b e t d pos = computes (operators.NewArray (type_or_null t)) (x ∷ []) d pos
expression_front (expressions.Element a i) p b e t d pos = computes operators.Element (a ∷ i ∷ []) d pos
expression_front (expressions.Length a) p b e t d pos = computes operators.Length (a ∷ []) d pos
