-- What expressions and conditions of a body become are such items, where they themselves are.
use Rattle.std.proofs.Common.{◌≡◌, ℕ, ◌+◌, Bool, true, false, Option, Some, None, List, [], ◌∷◌, ◌++◌, length, Contains, refl, sym, ◌∙◌, true≢false, if◌then◌else◌, IsSomeAnd}
use Rattle.std.specs.List.{AllByRecursion}
use Rattle.std.proofs.lemmas.List.Elements.{All-contains_itself, All-weaker, recursion_from_All}
use Rattle.program_model.specs.declared.kinds.BinaryOperator.{BinaryOperator}
use Rattle.program_model.specs.declared.kinds.BinaryOperator.TheVariants as binary
use Rattle.program_model.specs.declared.kinds.ExprId.{ExprId}
use Rattle.program_model.specs.declared.kinds.FieldId.{FieldId}
use Rattle.program_model.specs.declared.kinds.Literal.{Literal}
use Rattle.program_model.specs.declared.kinds.Literal.TheVariants as literals
use Rattle.program_model.specs.declared.kinds.MethodId.{MethodId}
use Rattle.program_model.specs.declared.kinds.UnaryOperator.{UnaryOperator}
use Rattle.program_model.specs.declared.kinds.UnaryOperator.TheVariants as unary
use Rattle.program_model.specs.declared.kinds.VType.{VType}
use Rattle.program_model.specs.declared.program.Method.{Method}
use Rattle.program_model.specs.declared.program.Program.{Program}
use Rattle.program_model.specs.declared.tree.AssignmentTarget.{AssignmentTarget}
use Rattle.program_model.specs.declared.tree.AssignmentTarget.TheVariants as targets
use Rattle.program_model.specs.declared.tree.BinaryExpression.{BinaryExpression}
use Rattle.program_model.specs.declared.tree.Body.{Body}
use Rattle.program_model.specs.declared.tree.CallTarget.{CallTarget}
use Rattle.program_model.specs.declared.tree.CallTarget.TheVariants as calls
use Rattle.program_model.specs.declared.tree.ExpressionKind.{ExpressionKind}
use Rattle.program_model.specs.declared.tree.ExpressionKind.TheVariants as expressions
use Rattle.program_model.specs.declared.tree.NewObject.{NewObject}
use Rattle.program_model.specs.declared.tree.OperatorAssignment.{OperatorAssignment}
use Rattle.program_model.specs.declared.tree.TExpr.{TExpr}
use Rattle.program_model.specs.Lookups.{expression_at, method_at}
use Rattle.program_model.specs.Trees.{assignment_operands, call_target, operands}
use Rattle.program_model.specs.Typing as typing
use Rattle.program_model.specs.Typing.{AreArguments, IsCall, IsCallTarget, IsOfOptionalType, is_this_kind, kind_in}
use Rattle.rlc_base.specs.declared.place.Pos.{Pos}
use Rattle.java_control.specs.Conditions.{binary_condition, condition_front, equal_condition, kind_condition, literal_condition, node_condition, not_equal_condition, tests_value, unary_condition}
use Rattle.java_control.specs.Expressions.{assignment_front, binary_front, call_with, comparison_front, computes, evaluations, expression_front, field_read, field_store, new_front, postfix_front, stored, stored_at, stored_in, tested_front, type_or_null, unary_front, update_front}
use Rattle.java_control.specs.NullTests.{compared_with_null, is_null}
use Rattle.java_control.specs.Owned.{declares_field, has_place, is_owning, is_this, is_this_node, place_of_field}
use Rattle.java_control.specs.Owned as owned
use Rattle.java_control.specs.Remaining.{Todos, Ev, Act}
use Rattle.control_actions.specs.declared.action.Action.TheVariants as actions
use Rattle.control_actions.specs.declared.action.Operator.{Operator}
use Rattle.control_actions.specs.declared.action.Operator.TheVariants as operators
use Rattle.control_actions.specs.declared.action.Scope.TheVariants as scopes
use Rattle.control_actions.specs.declared.action.TargetForm.TheVariants as forms
use Rattle.control_actions.specs.declared.place.Place.TheVariants as places
use Rattle.control_actions.specs.declared.item.Condition.{Condition}
use Rattle.control_actions.specs.declared.item.Condition.TheVariants as conditions
use Rattle.step_laws.specs.SuperArguments.{itself, within}
use Rattle.step_laws.proofs.StartItems.{AllGood, AreGood, IsFree, IsFreeCondition, good_both, good_todos}

not_true : (x : Bool) → (x ≡ true → ⊥) → x ≡ false
not_true true never = absurd (never refl)
not_true false never = refl

same_kind : (k : ExpressionKind) → owned.is_this_kind k ≡ is_this_kind (Some k)
same_kind (expressions.Literal l) = refl
same_kind (expressions.This written) = refl
same_kind k = refl

same_this : (x : Option TExpr) → is_this_node x ≡ is_this_kind (kind_in x)
same_this None = refl
same_this (Some x) = same_kind x.kind

-- the expressions are free
abbrev pub AreFree : Bool → Body → List ExprId → Type 0
AreFree early b es = AllByRecursion (λ e. IsFree early b e) es

-- the target of a call on `this` is this
abbrev pub CallsThis : Body → CallTarget → Type 0
CallsThis b calls.Static = Unit {0}
CallsThis b (calls.This e) = typing.is_this b e ≡ true
CallsThis b (calls.Super e) = typing.is_this b e ≡ true
CallsThis b (calls.Other e) = Unit {0}

abbrev pub CallsOnThis : Body → ExpressionKind → Type 0
CallsOnThis b (expressions.Call c) = CallsThis b c.target
CallsOnThis b k = Unit {0}

-- so it is of a typed expression
pub calls_this : (p : Program) (b : Body) (k : ExpressionKind) (t : Option VType) → IsOfOptionalType p b k t → CallsOnThis b k
calls_this p b (expressions.Call c) t typed = by (method_at p c.method) c.target (call_of t typed)
  where
    call_of : (t : Option VType) → IsOfOptionalType p b (expressions.Call c) t → IsCall p b c t
    call_of None typed' = typed'
    call_of (Some t) typed' = typed'

    by : (m : Option Method) (target : CallTarget) → IsSomeAnd m (λ x. IsCallTarget p b target x × AreArguments p b c.arguments.items x.sig.params.items × (x.sig.result ≡ t)) → CallsThis b target
    by None target never = absurd never
    by (Some x) calls.Static is = tt
    by (Some x) (calls.This e) is = is.0.1
    by (Some x) (calls.Super e) is = is.0.1
    by (Some x) (calls.Other e) is = tt
calls_this p b k t typed = tt

module _ (p : Program) (b : Body) (early : Bool) where
  -- what stands in a free expression is free
  pub free_operands : (e : ExprId) (x : TExpr) → expression_at b e ≡ Some x → IsFree early b e → AreFree early b (operands x.kind)
  free_operands e x at free =
      recursion_from_All (λ o. IsFree early b o) (operands x.kind)
      (All-weaker (λ o. Contains (operands x.kind) o) (λ o. IsFree early b o) (λ o member is u stands. free is u (within e o x at member stands)) (operands x.kind) (All-contains_itself (operands x.kind)))

  -- a field of `this` is free where the call is done
  late_at_this : (e : ExprId) → IsFree early b e → is_this b e ≡ true → early ≡ false
  late_at_this e free this = not_true early (λ is. true≢false (sym this ∙ same_this (expression_at b e) ∙ free is e itself))

  -- so is the target of a call on `this`
  late_at_target : (e : ExprId) → IsFree early b e → typing.is_this b e ≡ true → early ≡ false
  late_at_target e free this = not_true early (λ is. true≢false (sym this ∙ free is e itself))

  pub good_evaluations : (es : List ExprId) (d : ℕ) → AreFree early b es → AllGood early b (evaluations es d)
  good_evaluations [] d free = tt
  good_evaluations (e ∷ es) d free = (free.0, good_evaluations es (d + 1) free.1)

  good_computes : (k : Operator) (es : List ExprId) (d : ℕ) (pos : Pos) → AreFree early b es → AllGood early b (computes k es d pos)
  good_computes k es d pos free = good_both early b (evaluations es d) (Act (actions.Op k d (length es)) pos ∷ []) (good_evaluations es d free) (tt, tt)

  good_read : (e : ExprId) (f : FieldId) (d : ℕ) (pos : Pos) → IsFree early b e → AllGood early b (field_read p b e f d pos)
  good_read e f d pos free = go (has_place p b e f)
    where
      go : (x : Bool) → AllGood early b (if x then Act (actions.Copy (places.Temp d) (place_of_field p f)) pos ∷ [] else (Ev e d ∷ Act (actions.Get f d (is_this b e)) pos ∷ []))
      go true = (tt, tt)
      go false = (free, (tt, tt))

  good_field_store : (e : ExprId) (f : FieldId) (value : ExprId) (d : ℕ) (pos : Pos) → IsFree early b e → IsFree early b value → AllGood early b (field_store p b e f value d pos)
  good_field_store e f value d pos free stored_free = go (is_this b e) (is_owning p f) (declares_field p b f) refl
    where
      go : (x y z : Bool) → is_this b e ≡ x
          → AllGood early b (if (if x then (if y then z else false) else false) then Ev value d ∷ Act (actions.PutOwn f d) pos ∷ [] else (Ev e d ∷ Ev value (d + 1) ∷ Act (actions.Put f d (is_this b e)) pos ∷ []))
      go true true true this = (stored_free, (late_at_this e free this, tt))
      go true true false this = (free, (stored_free, (tt, tt)))
      go true false z this = (free, (stored_free, (tt, tt)))
      go false y z this = (free, (stored_free, (tt, tt)))

  good_assignment : (x : AssignmentTarget) (value : ExprId) (d : ℕ) (pos : Pos) → AreFree early b (assignment_operands x ++ value ∷ []) → AllGood early b (assignment_front p b x value d pos)
  good_assignment (targets.Local x) value d pos free = (free.0, (tt, tt))
  good_assignment (targets.Field e f) value d pos free = good_field_store e f value d pos free.0 free.1.0
  good_assignment (targets.StaticField f) value d pos free = good_computes (operators.StoreStatic f) (value ∷ []) d pos free
  good_assignment (targets.Element a i) value d pos free = good_computes operators.StoreElement (a ∷ i ∷ value ∷ []) d pos free

  good_stored_in : (k : ExpressionKind) (d : ℕ) (pos : Pos) → AllGood early b (stored_in k d pos)
  good_stored_in (expressions.Literal l) d pos = tt
  good_stored_in (expressions.Local x) d pos = (tt, tt)
  good_stored_in (expressions.StaticField f) d pos = (tt, tt)
  good_stored_in (expressions.Field e f) d pos = (tt, (tt, (tt, tt)))
  good_stored_in k d pos = tt

  good_stored : (target : ExprId) (d : ℕ) (pos : Pos) → AllGood early b (stored b target d pos)
  good_stored target d pos = go (expression_at b target)
    where
      go : (x : Option TExpr) → AllGood early b (stored_at x d pos)
      go None = tt
      go (Some x) = good_stored_in x.kind d pos

  good_update : (a : OperatorAssignment) (u : Option VType) (d : ℕ) (pos : Pos) → AreFree early b (a.target ∷ a.value ∷ []) → AllGood early b (update_front b a u d pos)
  good_update a u d pos free =
      good_both early b (computes (operators.Binary a.operator a.operands (type_or_null u)) (a.target ∷ a.value ∷ []) d pos) (stored b a.target d pos)
      (good_computes (operators.Binary a.operator a.operands (type_or_null u)) (a.target ∷ a.value ∷ []) d pos free) (good_stored a.target d pos)

  good_postfix : (a : OperatorAssignment) (u : Option VType) (d : ℕ) (pos : Pos) → AreFree early b (a.target ∷ a.value ∷ []) → AllGood early b (postfix_front b a u d pos)
  good_postfix a u d pos free =
      good_both early b (Ev a.target d ∷ computes (operators.Binary a.operator a.operands (type_or_null u)) (a.target ∷ a.value ∷ []) (d + 1) pos ++ stored b a.target (d + 1) pos)
      (Act (actions.Drop (scopes.Temp (d + 1))) pos ∷ [])
      (good_both early b (Ev a.target d ∷ computes (operators.Binary a.operator a.operands (type_or_null u)) (a.target ∷ a.value ∷ []) (d + 1) pos) (stored b a.target (d + 1) pos)
      (free.0, good_computes (operators.Binary a.operator a.operands (type_or_null u)) (a.target ∷ a.value ∷ []) (d + 1) pos free) (good_stored a.target (d + 1) pos))
      (tt, tt)

  good_call_with : (m : MethodId) (es : List ExprId) (c : CallTarget) (d : ℕ) (pos : Pos) → CallsThis b c → AreFree early b (call_target c ++ es) → AllGood early b (call_with m es c d pos)
  good_call_with m es calls.Static d pos on free = good_both early b (evaluations es d) (Act (actions.Call m d (length es) forms.Static) pos ∷ []) (good_evaluations es d free) (tt, tt)
  good_call_with m es (calls.This e) d pos on free =
      good_both early b (Ev e d ∷ evaluations es (d + 1)) (Act (actions.Call m d (length es + 1) forms.This) pos ∷ []) (free.0, good_evaluations es (d + 1) free.1) (late_at_target e free.0 on, tt)
  good_call_with m es (calls.Super e) d pos on free =
      good_both early b (Ev e d ∷ evaluations es (d + 1)) (Act (actions.Call m d (length es + 1) forms.Super) pos ∷ []) (free.0, good_evaluations es (d + 1) free.1) (late_at_target e free.0 on, tt)
  good_call_with m es (calls.Other e) d pos on free =
      good_both early b (Ev e d ∷ evaluations es (d + 1)) (Act (actions.Call m d (length es + 1) forms.Other) pos ∷ []) (free.0, good_evaluations es (d + 1) free.1) (tt, tt)

  good_new : (n : NewObject) (d : ℕ) (pos : Pos) → AreFree early b n.arguments.items → AllGood early b (new_front n d pos)
  good_new n d pos free =
      good_both early b (evaluations n.arguments.items (d + 1)) (Act (actions.New n.constructor d (length n.arguments.items)) pos ∷ []) (good_evaluations n.arguments.items (d + 1) free) (tt, tt)

  good_tested : (e : ExprId) (d : ℕ) (pos : Pos) → IsFree early b e → AllGood early b (tested_front e d pos)
  good_tested e d pos free = ((free, (tt, tt), (tt, tt)), tt)

  good_unary : (o : UnaryOperator) (x e : ExprId) (t : Option VType) (d : ℕ) (pos : Pos) → IsFree early b e → AreFree early b (x ∷ []) → AllGood early b (unary_front o x e t d pos)
  good_unary unary.Not x e t d pos free below = good_tested e d pos free
  good_unary o x e t d pos free below = good_computes (operators.Unary o (type_or_null t)) (x ∷ []) d pos below

  good_comparison : (y : Option ExprId) (x : BinaryExpression) (e : ExprId) (t : Option VType) (d : ℕ) (pos : Pos) → IsFree early b e → AreFree early b (x.left ∷ x.right ∷ []) → AllGood early b (comparison_front y x e t d pos)
  good_comparison (Some y) x e t d pos free below = good_tested e d pos free
  good_comparison None x e t d pos free below = good_computes (operators.Binary x.operator x.operands (type_or_null t)) (x.left ∷ x.right ∷ []) d pos below

  good_binary : (o : BinaryOperator) (x : BinaryExpression) (e : ExprId) (t : Option VType) (d : ℕ) (pos : Pos) → IsFree early b e → AreFree early b (x.left ∷ x.right ∷ []) → AllGood early b (binary_front o x b e t d pos)
  good_binary binary.ConditionalAnd x e t d pos free below = good_tested e d pos free
  good_binary binary.ConditionalOr x e t d pos free below = good_tested e d pos free
  good_binary binary.Equal x e t d pos free below = good_comparison (compared_with_null b x) x e t d pos free below
  good_binary binary.NotEqual x e t d pos free below = good_comparison (compared_with_null b x) x e t d pos free below
  good_binary o x e t d pos free below = good_computes (operators.Binary x.operator x.operands (type_or_null t)) (x.left ∷ x.right ∷ []) d pos below

  pub good_expression : (k : ExpressionKind) (e : ExprId) (t : Option VType) (d : ℕ) (pos : Pos) → CallsOnThis b k → IsFree early b e → AreFree early b (operands k) → AllGood early b (expression_front k p b e t d pos)
  good_expression (expressions.Literal l) e t d pos on free below = (tt, tt)
  good_expression (expressions.Local x) e t d pos on free below = (tt, tt)
  good_expression (expressions.This written) e t d pos on free below = (tt, tt)
  good_expression (expressions.Field x f) e t d pos on free below = good_read x f d pos below.0
  good_expression (expressions.StaticField f) e t d pos on free below = (tt, tt)
  good_expression (expressions.LibraryConstant m) e t d pos on free below = (tt, tt)
  good_expression (expressions.Unary o x) e t d pos on free below = good_unary o x e t d pos free below
  good_expression (expressions.Binary x) e t d pos on free below = good_binary x.operator x e t d pos free below
  good_expression (expressions.Conditional c x y) e t d pos on free below = ((below.0, (below.1.0, tt), (below.1.1.0, tt)), tt)
  good_expression (expressions.InstanceOf x tested) e t d pos on free below = good_computes (operators.InstanceOf tested) (x ∷ []) d pos below
  good_expression (expressions.PrimitiveCast x) e t d pos on free below = good_computes (operators.Convert (type_or_null t)) (x ∷ []) d pos below
  good_expression (expressions.ReferenceCast x) e t d pos on free below = (below.0, (tt, tt))
  good_expression (expressions.Assignment x value) e t d pos on free below = good_assignment x value d pos below
  good_expression (expressions.OperatorAssignment a) e t d pos on free below = good_update a t d pos below
  good_expression (expressions.PostfixStep a) e t d pos on free below = good_postfix a t d pos below
  good_expression (expressions.Call c) e t d pos on free below = good_call_with c.method c.arguments.items c.target d pos on below
  good_expression (expressions.NewObject n) e t d pos on free below = good_new n d pos below
  good_expression (expressions.NewArray x) e t d pos on free below = good_computes (operators.NewArray (type_or_null t)) (x ∷ []) d pos below
  good_expression (expressions.Element a i) e t d pos on free below = good_computes operators.Element (a ∷ i ∷ []) d pos below
  good_expression (expressions.Length a) e t d pos on free below = good_computes operators.Length (a ∷ []) d pos below

  -- ---- conditions

  module _ (x y : Todos) (gx : AreGood early b x) (gy : AreGood early b y) where
    good_tests : (e : ExprId) (pos : Pos) (d : ℕ) → IsFree early b e → AllGood early b (tests_value e pos d x y)
    good_tests e pos d free = (free, ((gx, gy), tt))

    good_literal : (l : Literal) (e : ExprId) (pos : Pos) (d : ℕ) → IsFree early b e → AllGood early b (literal_condition l e pos d x y)
    good_literal (literals.Number z) e pos d free = good_tests e pos d free
    good_literal (literals.Boolean true) e pos d free = good_todos early b x gx
    good_literal (literals.Boolean false) e pos d free = good_todos early b y gy
    good_literal l e pos d free = good_tests e pos d free

    good_not : (o : UnaryOperator) (c e : ExprId) (pos : Pos) (d : ℕ) → IsFree early b e → IsFree early b c → AllGood early b (unary_condition o c e pos d x y)
    good_not unary.Not c e pos d free below = ((below, gy, gx), tt)
    good_not o c e pos d free below = good_tests e pos d free

    good_equal : (z : BinaryExpression) (e : ExprId) (pos : Pos) (d : ℕ) → IsFree early b e → AreFree early b (z.left ∷ z.right ∷ []) → AllGood early b (equal_condition (compared_with_null b z) e pos d x y)
    good_equal z e pos d free below = go (is_null b z.right) (is_null b z.left)
      where
        go : (u v : Bool) → AllGood early b (equal_condition (if u then Some z.left else (if v then Some z.right else None)) e pos d x y)
        go true v = (below.0, ((gx, gy), tt))
        go false true = (below.1.0, ((gx, gy), tt))
        go false false = good_tests e pos d free

    good_not_equal : (z : BinaryExpression) (e : ExprId) (pos : Pos) (d : ℕ) → IsFree early b e → AreFree early b (z.left ∷ z.right ∷ []) → AllGood early b (not_equal_condition (compared_with_null b z) e pos d x y)
    good_not_equal z e pos d free below = go (is_null b z.right) (is_null b z.left)
      where
        go : (u v : Bool) → AllGood early b (not_equal_condition (if u then Some z.left else (if v then Some z.right else None)) e pos d x y)
        go true v = (below.0, ((gy, gx), tt))
        go false true = (below.1.0, ((gy, gx), tt))
        go false false = good_tests e pos d free

    good_both_sides : (o : BinaryOperator) (z : BinaryExpression) (e : ExprId) (pos : Pos) (d : ℕ) → IsFree early b e → AreFree early b (z.left ∷ z.right ∷ []) → AllGood early b (binary_condition o z b e pos d x y)
    good_both_sides binary.ConditionalAnd z e pos d free below = ((below.0, ((below.1.0, gx, gy), tt), gy), tt)
    good_both_sides binary.ConditionalOr z e pos d free below = ((below.0, gx, ((below.1.0, gx, gy), tt)), tt)
    good_both_sides binary.Equal z e pos d free below = good_equal z e pos d free below
    good_both_sides binary.NotEqual z e pos d free below = good_not_equal z e pos d free below
    good_both_sides o z e pos d free below = good_tests e pos d free

    good_kind : (k : ExpressionKind) (e : ExprId) (pos : Pos) (d : ℕ) → IsFree early b e → AreFree early b (operands k) → AllGood early b (kind_condition k b e pos d x y)
    good_kind (expressions.Literal l) e pos d free below = good_literal l e pos d free
    good_kind (expressions.Unary o c) e pos d free below = good_not o c e pos d free below.0
    good_kind (expressions.Binary z) e pos d free below = good_both_sides z.operator z e pos d free below
    good_kind k e pos d free below = good_tests e pos d free

    good_node : (z : Option TExpr) (e : ExprId) (d : ℕ) → expression_at b e ≡ z → IsFree early b e → AllGood early b (node_condition z b e d x y)
    good_node None e d at free = (free, ((gx, gy), tt))
    good_node (Some z) e d at free = good_kind z.kind e z.pos d free (free_operands e z at free)

    pub good_condition : (c : Condition) (d : ℕ) → IsFreeCondition early b c → AllGood early b (condition_front b c d x y)
    good_condition (conditions.Of e) d free = good_node (expression_at b e) e d refl free
    good_condition (conditions.Absent pos) d free = good_todos early b x gx
