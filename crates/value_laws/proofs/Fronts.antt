-- What an expression becomes works in temps of its depth or more.
use Rattle.std.proofs.Common.{ℕ, ◌+◌, ◌≤◌, Bool, true, false, Option, Some, None, List, [], ◌∷◌, ◌++◌, length, arith, if◌then◌else◌}
use Rattle.rlc_base.specs.declared.place.Pos.{Pos}
use Rattle.program_model.specs.Lookups.{expression_at}
use Rattle.program_model.specs.declared.kinds.BinaryOperator.{BinaryOperator}
use Rattle.program_model.specs.declared.kinds.BinaryOperator.TheVariants as binary
use Rattle.program_model.specs.declared.kinds.ExprId.{ExprId}
use Rattle.program_model.specs.declared.kinds.FieldId.{FieldId}
use Rattle.program_model.specs.declared.kinds.Literal.{Literal}
use Rattle.program_model.specs.declared.kinds.Literal.TheVariants as literals
use Rattle.program_model.specs.declared.kinds.MethodId.{MethodId}
use Rattle.program_model.specs.declared.kinds.UnaryOperator.{UnaryOperator}
use Rattle.program_model.specs.declared.kinds.UnaryOperator.TheVariants as unary
use Rattle.program_model.specs.declared.kinds.VType.{VType}
use Rattle.program_model.specs.declared.program.Program.{Program}
use Rattle.program_model.specs.declared.tree.AssignmentTarget.{AssignmentTarget}
use Rattle.program_model.specs.declared.tree.AssignmentTarget.TheVariants as targets
use Rattle.program_model.specs.declared.tree.BinaryExpression.{BinaryExpression}
use Rattle.program_model.specs.declared.tree.Body.{Body}
use Rattle.program_model.specs.declared.tree.CallTarget.{CallTarget}
use Rattle.program_model.specs.declared.tree.CallTarget.TheVariants as calls
use Rattle.program_model.specs.declared.tree.ExpressionKind.{ExpressionKind}
use Rattle.program_model.specs.declared.tree.ExpressionKind.TheVariants as expressions
use Rattle.program_model.specs.declared.tree.NewObject.{NewObject}
use Rattle.program_model.specs.declared.tree.OperatorAssignment.{OperatorAssignment}
use Rattle.program_model.specs.declared.tree.TExpr.{TExpr}
use Rattle.control_actions.specs.declared.action.Action.TheVariants as actions
use Rattle.control_actions.specs.declared.action.Operator.{Operator}
use Rattle.control_actions.specs.declared.action.Operator.TheVariants as operators
use Rattle.control_actions.specs.declared.action.Scope.TheVariants as scopes
use Rattle.control_actions.specs.declared.action.TargetForm.{TargetForm}
use Rattle.control_actions.specs.declared.action.TargetForm.TheVariants as forms
use Rattle.control_actions.specs.declared.item.Condition.{Condition}
use Rattle.control_actions.specs.declared.item.Condition.TheVariants as conditions
use Rattle.control_actions.specs.declared.place.Place.TheVariants as places
use Rattle.java_control.specs.Conditions.{binary_condition, condition_front, equal_condition, kind_condition, literal_condition, node_condition, not_equal_condition, tests_value, unary_condition}
use Rattle.java_control.specs.Expressions.{assignment_front, binary_front, call_with, comparison_front, computes, evaluations, expression_front, field_read, field_store, new_front, postfix_front, stored, stored_at, stored_in, tested_front, type_or_null, unary_front, update_front}
use Rattle.java_control.specs.NullTests.{compared_with_null}
use Rattle.java_control.specs.Owned.{has_place, is_this, place_of_field}
use Rattle.java_control.specs.Remaining.{Todo, Todos, nil, cons, todos, nowhere, Ev, Act}
use Rattle.value_laws.specs.Thrown.{AllFrom, AreFrom}

module _ (n : ℕ) where
  pub further : (d : ℕ) → n ≤ d → n ≤ d + 1
  further d deep = omega (arith, deep)

  pub all_both : (xs ys : List Todo) → AllFrom n xs → AllFrom n ys → AllFrom n (xs ++ ys)
  all_both [] ys first second = second
  all_both (x ∷ xs) ys first second = (first.0, all_both xs ys first.1 second)

  pub evaluations_from : (es : List ExprId) (d : ℕ) → n ≤ d → AllFrom n (evaluations es d)
  evaluations_from [] d deep = tt
  evaluations_from (e ∷ es) d deep = (deep, evaluations_from es (d + 1) (further d deep))

  computes_from : (k : Operator) (es : List ExprId) (d : ℕ) (pos : Pos) → n ≤ d → AllFrom n (computes k es d pos)
  computes_from k es d pos deep = all_both (evaluations es d) (Act (actions.Op k d (length es)) pos ∷ []) (evaluations_from es d deep) (deep, tt)

  module _ (p : Program) (b : Body) where
    -- ---- fields and assignments

    read_from : (e : ExprId) (f : FieldId) (d : ℕ) (pos : Pos) → n ≤ d → AllFrom n (field_read p b e f d pos)
    read_from e f d pos deep = go (has_place p b e f)
      where
        go : (x : Bool) → AllFrom n (if x then Act (actions.Copy (places.Temp d) (place_of_field p f)) pos ∷ [] else (Ev e d ∷ Act (actions.Get f d (is_this b e)) pos ∷ []))
        go true = (deep, tt)
        go false = (deep, (deep, tt))

    store_from : (e : ExprId) (f : FieldId) (value : ExprId) (d : ℕ) (pos : Pos) → n ≤ d → AllFrom n (field_store p b e f value d pos)
    store_from e f value d pos deep = go (has_place p b e f)
      where
        go : (x : Bool) → AllFrom n (if x then Ev value d ∷ Act (actions.PutOwn f d) pos ∷ [] else (Ev e d ∷ Ev value (d + 1) ∷ Act (actions.Put f d (is_this b e)) pos ∷ []))
        go true = (deep, (tt, tt))
        go false = (deep, (further d deep, (deep, tt)))

    assignment_from : (x : AssignmentTarget) (value : ExprId) (d : ℕ) (pos : Pos) → n ≤ d → AllFrom n (assignment_front p b x value d pos)
    assignment_from (targets.Local x) value d pos deep = (deep, (tt, tt))
    assignment_from (targets.Field e f) value d pos deep = store_from e f value d pos deep
    assignment_from (targets.StaticField f) value d pos deep = computes_from (operators.StoreStatic f) (value ∷ []) d pos deep
    assignment_from (targets.Element a i) value d pos deep = computes_from operators.StoreElement (a ∷ i ∷ value ∷ []) d pos deep

    stored_kind : (j : ExpressionKind) (d : ℕ) (pos : Pos) → n ≤ d → AllFrom n (stored_in j d pos)
    stored_kind (expressions.Literal l) d pos deep = tt
    stored_kind (expressions.Local x) d pos deep = (tt, tt)
    stored_kind (expressions.StaticField f) d pos deep = (deep, tt)
    stored_kind (expressions.Field e f) d pos deep = (further d deep, (deep, (deep, tt)))
    stored_kind j d pos deep = tt

    stored_from : (e : ExprId) (d : ℕ) (pos : Pos) → n ≤ d → AllFrom n (stored b e d pos)
    stored_from e d pos deep = go (expression_at b e)
      where
        go : (x : Option TExpr) → AllFrom n (stored_at x d pos)
        go None = tt
        go (Some x) = stored_kind x.kind d pos deep

    update_from : (a : OperatorAssignment) (t : Option VType) (d : ℕ) (pos : Pos) → n ≤ d → AllFrom n (update_front b a t d pos)
    update_from a t d pos deep =
        all_both (computes (operators.Binary a.operator a.operands (type_or_null t)) (a.target ∷ a.value ∷ []) d pos) (stored b a.target d pos)
        (computes_from (operators.Binary a.operator a.operands (type_or_null t)) (a.target ∷ a.value ∷ []) d pos deep) (stored_from a.target d pos deep)

    postfix_from : (a : OperatorAssignment) (t : Option VType) (d : ℕ) (pos : Pos) → n ≤ d → AllFrom n (postfix_front b a t d pos)
    postfix_from a t d pos deep =
        let operation = computes (operators.Binary a.operator a.operands (type_or_null t)) (a.target ∷ a.value ∷ []) (d + 1) pos in
        let more = further d deep in
        all_both (Ev a.target d ∷ operation ++ stored b a.target (d + 1) pos) (Act (actions.Drop (scopes.Temp (d + 1))) pos ∷ [])
        (all_both (Ev a.target d ∷ operation) (stored b a.target (d + 1) pos)
        (deep, computes_from (operators.Binary a.operator a.operands (type_or_null t)) (a.target ∷ a.value ∷ []) (d + 1) pos more) (stored_from a.target (d + 1) pos more))
        (more, tt)

    -- ---- calls

    target_from : (m : MethodId) (e : ExprId) (es : List ExprId) (form : TargetForm) (d : ℕ) (pos : Pos) → n ≤ d
        → AllFrom n (Ev e d ∷ evaluations es (d + 1) ++ Act (actions.Call m d (length es + 1) form) pos ∷ [])
    target_from m e es form d pos deep =
        all_both (Ev e d ∷ evaluations es (d + 1)) (Act (actions.Call m d (length es + 1) form) pos ∷ []) (deep, evaluations_from es (d + 1) (further d deep)) (deep, tt)

    call_from : (m : MethodId) (es : List ExprId) (c : CallTarget) (d : ℕ) (pos : Pos) → n ≤ d → AllFrom n (call_with m es c d pos)
    call_from m es calls.Static d pos deep = all_both (evaluations es d) (Act (actions.Call m d (length es) forms.Static) pos ∷ []) (evaluations_from es d deep) (deep, tt)
    call_from m es (calls.This e) d pos deep = target_from m e es forms.This d pos deep
    call_from m es (calls.Super e) d pos deep = target_from m e es forms.Super d pos deep
    call_from m es (calls.Other e) d pos deep = target_from m e es forms.Other d pos deep

    new_from : (x : NewObject) (d : ℕ) (pos : Pos) → n ≤ d → AllFrom n (new_front x d pos)
    new_from x d pos deep =
        all_both (evaluations x.arguments.items (d + 1)) (Act (actions.New x.constructor d (length x.arguments.items)) pos ∷ []) (evaluations_from x.arguments.items (d + 1) (further d deep)) (deep, tt)

    -- ---- operators

    tested_from : (e : ExprId) (d : ℕ) (pos : Pos) → n ≤ d → AllFrom n (tested_front e d pos)
    tested_from e d pos deep = ((deep, (deep, tt), (deep, tt)), tt)

    unary_from : (o : UnaryOperator) (x e : ExprId) (t : Option VType) (d : ℕ) (pos : Pos) → n ≤ d → AllFrom n (unary_front o x e t d pos)
    unary_from unary.Not x e t d pos deep = tested_from e d pos deep
    unary_from o x e t d pos deep = computes_from (operators.Unary o (type_or_null t)) (x ∷ []) d pos deep

    value_from : (x : BinaryExpression) (t : Option VType) (d : ℕ) (pos : Pos) → n ≤ d → AllFrom n (computes (operators.Binary x.operator x.operands (type_or_null t)) (x.left ∷ x.right ∷ []) d pos)
    value_from x t d pos deep = computes_from (operators.Binary x.operator x.operands (type_or_null t)) (x.left ∷ x.right ∷ []) d pos deep

    comparison_from : (y : Option ExprId) (x : BinaryExpression) (e : ExprId) (t : Option VType) (d : ℕ) (pos : Pos) → n ≤ d → AllFrom n (comparison_front y x e t d pos)
    comparison_from (Some y) x e t d pos deep = tested_from e d pos deep
    comparison_from None x e t d pos deep = value_from x t d pos deep

    binary_from : (o : BinaryOperator) (x : BinaryExpression) (e : ExprId) (t : Option VType) (d : ℕ) (pos : Pos) → n ≤ d → AllFrom n (binary_front o x b e t d pos)
    binary_from binary.ConditionalAnd x e t d pos deep = tested_from e d pos deep
    binary_from binary.ConditionalOr x e t d pos deep = tested_from e d pos deep
    binary_from binary.Equal x e t d pos deep = comparison_from (compared_with_null b x) x e t d pos deep
    binary_from binary.NotEqual x e t d pos deep = comparison_from (compared_with_null b x) x e t d pos deep
    binary_from o x e t d pos deep = value_from x t d pos deep

    -- ---- expressions

    pub expression_from : (j : ExpressionKind) (e : ExprId) (t : Option VType) (d : ℕ) (pos : Pos) → n ≤ d → AllFrom n (expression_front j p b e t d pos)
    expression_from (expressions.This written) e t d pos deep = (deep, tt)
    expression_from (expressions.Call c) e t d pos deep = call_from c.method c.arguments.items c.target d pos deep
    expression_from (expressions.Literal l) e t d pos deep = (deep, tt)
    expression_from (expressions.Local x) e t d pos deep = (deep, tt)
    expression_from (expressions.Field x f) e t d pos deep = read_from x f d pos deep
    expression_from (expressions.StaticField f) e t d pos deep = (deep, tt)
    expression_from (expressions.LibraryConstant m) e t d pos deep = (deep, tt)
    expression_from (expressions.Unary o x) e t d pos deep = unary_from o x e t d pos deep
    expression_from (expressions.Binary x) e t d pos deep = binary_from x.operator x e t d pos deep
    expression_from (expressions.Conditional c x y) e t d pos deep = ((deep, (deep, tt), (deep, tt)), tt)
    expression_from (expressions.InstanceOf x tested) e t d pos deep = computes_from (operators.InstanceOf tested) (x ∷ []) d pos deep
    expression_from (expressions.PrimitiveCast x) e t d pos deep = computes_from (operators.Convert (type_or_null t)) (x ∷ []) d pos deep
    expression_from (expressions.ReferenceCast x) e t d pos deep = (deep, (deep, tt))
    expression_from (expressions.Assignment x value) e t d pos deep = assignment_from x value d pos deep
    expression_from (expressions.OperatorAssignment a) e t d pos deep = update_from a t d pos deep
    expression_from (expressions.PostfixStep a) e t d pos deep = postfix_from a t d pos deep
    expression_from (expressions.NewObject x) e t d pos deep = new_from x d pos deep
    expression_from (expressions.NewArray x) e t d pos deep = computes_from (operators.NewArray (type_or_null t)) (x ∷ []) d pos deep
    expression_from (expressions.Element a i) e t d pos deep = computes_from operators.Element (a ∷ i ∷ []) d pos deep
    expression_from (expressions.Length a) e t d pos deep = computes_from operators.Length (a ∷ []) d pos deep

    -- ---- conditions

    pub todos_from : (xs : Todos) → AreFrom n xs → AllFrom n (todos xs)
    todos_from nil all = tt
    todos_from (cons x xs) all = (all.0, todos_from xs all.1)

    module _ (x y : Todos) (d : ℕ) (deep : n ≤ d) (left : AreFrom n x) (right : AreFrom n y) where
      tests_from : (e : ExprId) (pos : Pos) → AllFrom n (tests_value e pos d x y)
      tests_from e pos = (deep, ((deep, left, right), tt))

      literal_from : (l : Literal) (e : ExprId) (pos : Pos) → AllFrom n (literal_condition l e pos d x y)
      literal_from (literals.Number z) e pos = tests_from e pos
      literal_from (literals.Boolean true) e pos = todos_from x left
      literal_from (literals.Boolean false) e pos = todos_from y right
      literal_from l e pos = tests_from e pos

      not_from : (o : UnaryOperator) (c e : ExprId) (pos : Pos) → AllFrom n (unary_condition o c e pos d x y)
      not_from unary.Not c e pos = ((deep, right, left), tt)
      not_from o c e pos = tests_from e pos

      equal_from : (z : Option ExprId) (e : ExprId) (pos : Pos) → AllFrom n (equal_condition z e pos d x y)
      equal_from (Some z) e pos = (deep, ((deep, left, right), tt))
      equal_from None e pos = tests_from e pos

      not_equal_from : (z : Option ExprId) (e : ExprId) (pos : Pos) → AllFrom n (not_equal_condition z e pos d x y)
      not_equal_from (Some z) e pos = (deep, ((deep, right, left), tt))
      not_equal_from None e pos = tests_from e pos

      both_from : (o : BinaryOperator) (z : BinaryExpression) (e : ExprId) (pos : Pos) → AllFrom n (binary_condition o z b e pos d x y)
      both_from binary.ConditionalAnd z e pos = ((deep, ((deep, left, right), tt), right), tt)
      both_from binary.ConditionalOr z e pos = ((deep, left, ((deep, left, right), tt)), tt)
      both_from binary.Equal z e pos = equal_from (compared_with_null b z) e pos
      both_from binary.NotEqual z e pos = not_equal_from (compared_with_null b z) e pos
      both_from o z e pos = tests_from e pos

      kind_from : (j : ExpressionKind) (e : ExprId) (pos : Pos) → AllFrom n (kind_condition j b e pos d x y)
      kind_from (expressions.Literal l) e pos = literal_from l e pos
      kind_from (expressions.Unary o c) e pos = not_from o c e pos
      kind_from (expressions.Binary z) e pos = both_from z.operator z e pos
      kind_from j e pos = tests_from e pos

      node_from : (z : Option TExpr) (e : ExprId) → AllFrom n (node_condition z b e d x y)
      node_from None e = tests_from e nowhere
      node_from (Some z) e = kind_from z.kind e z.pos

      pub condition_from : (c : Condition) → AllFrom n (condition_front b c d x y)
      condition_from (conditions.Of e) = node_from (expression_at b e) e
      condition_from (conditions.Absent pos) = todos_from x left
