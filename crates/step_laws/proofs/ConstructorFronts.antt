-- What statements, expressions and conditions of a valid program become are such items.
use Rattle.std.specs.List.{All}
use Rattle.std.proofs.Common.{◌≡◌, ℕ, ◌+◌, Bool, true, false, Option, Some, None, List, [], ◌∷◌, ◌++◌, IsSomeAnd, length, map, reverse, flat_map, refl, ap, ◌∙◌, if◌then◌else◌}
use Rattle.program_model.specs.declared.kinds.BinaryOperator.{BinaryOperator}
use Rattle.program_model.specs.declared.kinds.BinaryOperator.TheVariants as binary
use Rattle.program_model.specs.declared.kinds.ClassId.{ClassId}
use Rattle.program_model.specs.declared.kinds.ExprId.{ExprId}
use Rattle.program_model.specs.declared.kinds.FieldId.{FieldId}
use Rattle.program_model.specs.declared.kinds.Literal.{Literal}
use Rattle.program_model.specs.declared.kinds.Literal.TheVariants as literals
use Rattle.program_model.specs.declared.kinds.MethodId.{MethodId}
use Rattle.program_model.specs.declared.kinds.MethodKind.TheVariants as methods
use Rattle.program_model.specs.declared.kinds.StmtId.{StmtId}
use Rattle.program_model.specs.declared.kinds.UnaryOperator.{UnaryOperator}
use Rattle.program_model.specs.declared.kinds.UnaryOperator.TheVariants as unary
use Rattle.program_model.specs.declared.kinds.VType.{VType}
use Rattle.program_model.specs.declared.program.Class.{Class}
use Rattle.program_model.specs.declared.program.Method.{Method}
use Rattle.program_model.specs.declared.program.Program.{Program}
use Rattle.program_model.specs.declared.tree.AssignmentTarget.{AssignmentTarget}
use Rattle.program_model.specs.declared.tree.AssignmentTarget.TheVariants as targets
use Rattle.program_model.specs.declared.tree.BinaryExpression.{BinaryExpression}
use Rattle.program_model.specs.declared.tree.Body.{Body}
use Rattle.program_model.specs.declared.tree.CallExpression.{CallExpression}
use Rattle.program_model.specs.declared.tree.CallTarget.{CallTarget}
use Rattle.program_model.specs.declared.tree.CallTarget.TheVariants as calls
use Rattle.program_model.specs.declared.tree.CatchClause.{CatchClause}
use Rattle.program_model.specs.declared.tree.Declarator.{Declarator}
use Rattle.program_model.specs.declared.tree.ExpressionKind.{ExpressionKind}
use Rattle.program_model.specs.declared.tree.ExpressionKind.TheVariants as expressions
use Rattle.program_model.specs.declared.tree.ForInitial.{ForInitial}
use Rattle.program_model.specs.declared.tree.ForInitial.TheVariants as initials
use Rattle.program_model.specs.declared.tree.NewObject.{NewObject}
use Rattle.program_model.specs.declared.tree.OperatorAssignment.{OperatorAssignment}
use Rattle.program_model.specs.declared.tree.Resource.{Resource}
use Rattle.program_model.specs.declared.tree.StatementKind.{StatementKind}
use Rattle.program_model.specs.declared.tree.StatementKind.TheVariants as statements
use Rattle.program_model.specs.declared.tree.SuperCall.{SuperCall}
use Rattle.program_model.specs.declared.tree.TExpr.{TExpr}
use Rattle.program_model.specs.declared.tree.TryStatement.{TryStatement}
use Rattle.program_model.specs.Lookups.{class_at, expression_at, method_at, variable_type}
use Rattle.program_model.specs.Overrides.{is_abstract, is_abstract_in}
use Rattle.program_model.specs.Typing.{AreArguments, Fits, IsCall, IsCallTarget, IsClose, IsConcrete, IsConstruction, IsNewObject, IsResource, IsOfOptionalType, IsSuperCall, IsTypedStatement, kind_at, kind_in}
use Rattle.rlc_base.specs.declared.place.Pos.{Pos}
use Rattle.java_control.specs.Conditions.{binary_condition, condition_front, equal_condition, kind_condition, literal_condition, node_condition, not_equal_condition, tests_value, unary_condition}
use Rattle.java_control.specs.Expressions.{assignment_front, binary_front, call_with, comparison_front, computes, evaluations, expression_front, field_read, field_store, new_front, postfix_front, stored, stored_at, stored_in, type_or_null, unary_front, update_front}
use Rattle.java_control.specs.NullTests.{compared_with_null}
use Rattle.java_control.specs.Owned.{declares_field, has_place, is_owning, is_this, place_of_field}
use Rattle.java_control.specs.Remaining.{Todos, Do, Ev, Act, Leave, For}
use Rattle.java_control.specs.Statements.{clauses_front, closes, declaration_front, declarator_front, declarator_with, finally_front, for_turn, head_front, initial_front, list_of_branch, loop_turn, opens, resources_front, return_front, statement_front, super_front, try_front}
use Rattle.control_actions.specs.declared.action.Action.TheVariants as actions
use Rattle.control_actions.specs.declared.action.Operator.{Operator}
use Rattle.control_actions.specs.declared.action.Operator.TheVariants as operators
use Rattle.control_actions.specs.declared.action.Scope.TheVariants as scopes
use Rattle.control_actions.specs.declared.action.TargetForm.TheVariants as forms
use Rattle.control_actions.specs.declared.place.Place.TheVariants as places
use Rattle.control_actions.specs.declared.item.Condition.{Condition}
use Rattle.control_actions.specs.declared.item.Condition.TheVariants as conditions
use Rattle.step_laws.specs.Constructors.{AssignsField, IsFieldAssigned, IsOfField, IsOfSuperClass, IsOtherField, StandsInBody}
use Rattle.step_laws.specs.Targets.{RunsOnThis}
use Rattle.step_laws.proofs.ConstructorItems.{AllGood, AreGood, IsInstanceMethod, IsOwn, SuitsTarget, all_reversed, good_both, good_each, good_flat, good_todos}

module _ (p : Program) (b : Body) where
  good_evaluations : (es : List ExprId) (d : ℕ) → AllGood p b (evaluations es d)
  good_evaluations [] d = tt
  good_evaluations (e ∷ es) d = (tt, good_evaluations es (d + 1))

  good_computes : (k : Operator) (es : List ExprId) (d : ℕ) (pos : Pos) → AllGood p b (computes k es d pos)
  good_computes k es d pos = good_both p b (evaluations es d) (Act (actions.Op k d (length es)) pos ∷ []) (good_evaluations es d) ((tt, tt), tt)

  good_read : (e : ExprId) (f : FieldId) (d : ℕ) (pos : Pos) → AllGood p b (field_read p b e f d pos)
  good_read e f d pos = go (has_place p b e f)
    where
      go : (x : Bool) → AllGood p b (if x then Act (actions.Copy (places.Temp d) (place_of_field p f)) pos ∷ [] else (Ev e d ∷ Act (actions.Get f d (is_this b e)) pos ∷ []))
      go true = ((tt, tt), tt)
      go false = (tt, ((tt, tt), tt))

  good_field_store : (e : ExprId) (f : FieldId) (value : ExprId) (d : ℕ) (pos : Pos) → (is_this b e ≡ true → RunsOnThis p b) → (has_place p b e f ≡ false → IsFieldAssigned p b f (is_this b e)) → AllGood p b (field_store p b e f value d pos)
  good_field_store e f value d pos runs assigned = go (is_this b e) (is_owning p f) (declares_field p b f) refl refl refl assigned
    where
      go : (x y z : Bool) → is_this b e ≡ x → is_owning p f ≡ y → declares_field p b f ≡ z → ((if x then (if y then z else false) else false) ≡ false → IsFieldAssigned p b f (is_this b e))
          → AllGood p b (if (if x then (if y then z else false) else false) then Ev value d ∷ Act (actions.PutOwn f d) pos ∷ [] else (Ev e d ∷ Ev value (d + 1) ∷ Act (actions.Put f d (is_this b e)) pos ∷ []))
      go true true true this owning declared assigned' = (tt, ((tt, (owning, declared, runs this)), tt))
      go true true false this owning declared assigned' = (tt, (tt, ((tt, assigned' refl), tt)))
      go true false z this owning declared assigned' = (tt, (tt, ((tt, assigned' refl), tt)))
      go false y z this owning declared assigned' = (tt, (tt, ((tt, assigned' refl), tt)))

  good_assignment : (x : AssignmentTarget) (value : ExprId) (d : ℕ) (pos : Pos) → ((e : ExprId) → is_this b e ≡ true → RunsOnThis p b) → ((f : FieldId) (this : Bool) → IsOtherField p b f x → IsFieldAssigned p b f this) → AllGood p b (assignment_front p b x value d pos)
  good_assignment (targets.Local x) value d pos runs assigned = (tt, ((tt, tt), tt))
  good_assignment (targets.Field e f) value d pos runs assigned = good_field_store e f value d pos (runs e) (λ other. assigned f (is_this b e) (refl, other))
  good_assignment (targets.StaticField f) value d pos runs assigned = good_computes (operators.StoreStatic f) (value ∷ []) d pos
  good_assignment (targets.Element a i) value d pos runs assigned = good_computes operators.StoreElement (a ∷ i ∷ value ∷ []) d pos

  good_stored_in : (k : ExpressionKind) (d : ℕ) (pos : Pos) → ((f : FieldId) → IsOfField f (Some k) → IsFieldAssigned p b f true) → AllGood p b (stored_in k d pos)
  good_stored_in (expressions.Literal l) d pos assigned = tt
  good_stored_in (expressions.Local x) d pos assigned = ((tt, tt), tt)
  good_stored_in (expressions.StaticField f) d pos assigned = ((tt, tt), tt)
  good_stored_in (expressions.Field e f) d pos assigned = ((tt, tt), ((tt, tt), ((tt, assigned f refl), tt)))
  good_stored_in k d pos assigned = tt

  good_stored : (target : ExprId) (d : ℕ) (pos : Pos) → ((f : FieldId) → IsOfField f (kind_at b target) → IsFieldAssigned p b f true) → AllGood p b (stored b target d pos)
  good_stored target d pos assigned = go (expression_at b target) assigned
    where
      go : (x : Option TExpr) → ((f : FieldId) → IsOfField f (kind_in x) → IsFieldAssigned p b f true) → AllGood p b (stored_at x d pos)
      go None assigned' = tt
      go (Some x) assigned' = good_stored_in x.kind d pos assigned'

  good_update : (a : OperatorAssignment) (u : Option VType) (d : ℕ) (pos : Pos) → ((f : FieldId) → IsOfField f (kind_at b a.target) → IsFieldAssigned p b f true) → AllGood p b (update_front b a u d pos)
  good_update a u d pos assigned =
      good_both p b (computes (operators.Binary a.operator a.operands (type_or_null u)) (a.target ∷ a.value ∷ []) d pos) (stored b a.target d pos)
      (good_computes (operators.Binary a.operator a.operands (type_or_null u)) (a.target ∷ a.value ∷ []) d pos) (good_stored a.target d pos assigned)

  good_postfix : (a : OperatorAssignment) (u : Option VType) (d : ℕ) (pos : Pos) → ((f : FieldId) → IsOfField f (kind_at b a.target) → IsFieldAssigned p b f true) → AllGood p b (postfix_front b a u d pos)
  good_postfix a u d pos assigned =
      good_both p b (Ev a.target d ∷ computes (operators.Binary a.operator a.operands (type_or_null u)) (a.target ∷ a.value ∷ []) (d + 1) pos ++ stored b a.target (d + 1) pos)
      (Act (actions.Drop (scopes.Temp (d + 1))) pos ∷ [])
      (good_both p b (Ev a.target d ∷ computes (operators.Binary a.operator a.operands (type_or_null u)) (a.target ∷ a.value ∷ []) (d + 1) pos) (stored b a.target (d + 1) pos)
      (tt, good_computes (operators.Binary a.operator a.operands (type_or_null u)) (a.target ∷ a.value ∷ []) (d + 1) pos) (good_stored a.target (d + 1) pos assigned))
      ((tt, tt), tt)

  -- a call whose target is an object names an instance method
  called : (c : CallExpression) (t : Option VType) → IsCall p b c t → SuitsTarget c.target (method_at p c.method)
  called c t is = go (method_at p c.method) c.target is
    where
      go : (x : Option Method) (target : CallTarget) → IsSomeAnd x (λ m. IsCallTarget p b target m × AreArguments p b c.arguments.items m.sig.params.items × (m.sig.result ≡ t)) → SuitsTarget target x
      go x calls.Static has = tt
      go None target has = absurd has
      go (Some x) (calls.This e) has = has.0.0
      go (Some x) (calls.Super e) has = has.0.0
      go (Some x) (calls.Other e) has = has.0.0

  good_call_with : (m : MethodId) (es : List ExprId) (c : CallTarget) (d : ℕ) (pos : Pos) → SuitsTarget c (method_at p m) → AllGood p b (call_with m es c d pos)
  good_call_with m es calls.Static d pos is = good_both p b (evaluations es d) (Act (actions.Call m d (length es) forms.Static) pos ∷ []) (good_evaluations es d) ((tt, tt), tt)
  good_call_with m es (calls.This e) d pos is =
      good_both p b (Ev e d ∷ evaluations es (d + 1)) (Act (actions.Call m d (length es + 1) forms.This) pos ∷ []) (tt, good_evaluations es (d + 1)) ((tt, is), tt)
  good_call_with m es (calls.Super e) d pos is =
      good_both p b (Ev e d ∷ evaluations es (d + 1)) (Act (actions.Call m d (length es + 1) forms.Super) pos ∷ []) (tt, good_evaluations es (d + 1)) ((tt, is), tt)
  good_call_with m es (calls.Other e) d pos is =
      good_both p b (Ev e d ∷ evaluations es (d + 1)) (Act (actions.Call m d (length es + 1) forms.Other) pos ∷ []) (tt, good_evaluations es (d + 1)) ((tt, is), tt)

  not_abstract : (k : Option Class) → IsSomeAnd k (λ x. x.is_abstract ≡ false) → is_abstract_in k ≡ false
  not_abstract None is = absurd is
  not_abstract (Some k) is = is

  concrete_of : (c : ClassId) (arguments : List ExprId) (x : Option Method) → IsSomeAnd x (λ y. (y.kind ≡ methods.Ctor) × (y.class ≡ c) × AreArguments p b arguments y.sig.params.items) → IsConcrete p c
      → IsSomeAnd x (λ y. is_abstract p y.class ≡ false)
  concrete_of c arguments None has concrete = absurd has
  concrete_of c arguments (Some y) has concrete = ap (is_abstract p) has.1 ∙ not_abstract (class_at p c) concrete

  good_new : (n : NewObject) (t : VType) (d : ℕ) (pos : Pos) → IsNewObject p b n t → AllGood p b (new_front n d pos)
  good_new n t d pos is =
      good_both p b (evaluations n.arguments.items (d + 1)) (Act (actions.New n.constructor d (length n.arguments.items)) pos ∷ []) (good_evaluations n.arguments.items (d + 1))
      ((tt, concrete_of n.class n.arguments.items (method_at p n.constructor) is.0 is.1), tt)

  good_unary : (o : UnaryOperator) (x e : ExprId) (t : Option VType) (d : ℕ) (pos : Pos) → AllGood p b (unary_front o x e t d pos)
  good_unary unary.Not x e t d pos = ((((tt, tt), tt), (((tt, tt), tt))), tt)
  good_unary o x e t d pos = good_computes (operators.Unary o (type_or_null t)) (x ∷ []) d pos

  good_comparison : (y : Option ExprId) (x : BinaryExpression) (e : ExprId) (t : Option VType) (d : ℕ) (pos : Pos) → AllGood p b (comparison_front y x e t d pos)
  good_comparison (Some y) x e t d pos = ((((tt, tt), tt), (((tt, tt), tt))), tt)
  good_comparison None x e t d pos = good_computes (operators.Binary x.operator x.operands (type_or_null t)) (x.left ∷ x.right ∷ []) d pos

  good_binary : (o : BinaryOperator) (x : BinaryExpression) (e : ExprId) (t : Option VType) (d : ℕ) (pos : Pos) → AllGood p b (binary_front o x b e t d pos)
  good_binary binary.ConditionalAnd x e t d pos = ((((tt, tt), tt), (((tt, tt), tt))), tt)
  good_binary binary.ConditionalOr x e t d pos = ((((tt, tt), tt), (((tt, tt), tt))), tt)
  good_binary binary.Equal x e t d pos = good_comparison (compared_with_null b x) x e t d pos
  good_binary binary.NotEqual x e t d pos = good_comparison (compared_with_null b x) x e t d pos
  good_binary o x e t d pos = good_computes (operators.Binary x.operator x.operands (type_or_null t)) (x.left ∷ x.right ∷ []) d pos

  -- an expression of a type, or a call of none
  pub good_expression : (k : ExpressionKind) (e : ExprId) (t : Option VType) (d : ℕ) (pos : Pos) → IsOfOptionalType p b k t → ((e : ExprId) → is_this b e ≡ true → RunsOnThis p b) → ((f : FieldId) (this : Bool) → AssignsField p b f this k → IsFieldAssigned p b f this) → AllGood p b (expression_front k p b e t d pos)
  good_expression (expressions.Call c) e None d pos is runs assigned = good_call_with c.method c.arguments.items c.target d pos (called c None is)
  good_expression (expressions.Literal l) e None d pos is runs assigned = absurd is
  good_expression k e None d pos is runs assigned = absurd is
  good_expression (expressions.Literal l) e (Some t) d pos is runs assigned = ((tt, tt), tt)
  good_expression (expressions.Local x) e (Some t) d pos is runs assigned = ((tt, tt), tt)
  good_expression (expressions.This written) e (Some t) d pos is runs assigned = ((tt, tt), tt)
  good_expression (expressions.Field x f) e (Some t) d pos is runs assigned = good_read x f d pos
  good_expression (expressions.StaticField f) e (Some t) d pos is runs assigned = ((tt, tt), tt)
  good_expression (expressions.LibraryConstant m) e (Some t) d pos is runs assigned = ((tt, tt), tt)
  good_expression (expressions.Unary o x) e (Some t) d pos is runs assigned = good_unary o x e (Some t) d pos
  good_expression (expressions.Binary x) e (Some t) d pos is runs assigned = good_binary x.operator x e (Some t) d pos
  good_expression (expressions.Conditional c x y) e (Some t) d pos is runs assigned = (((tt, tt), (tt, tt)), tt)
  good_expression (expressions.InstanceOf x tested) e (Some t) d pos is runs assigned = good_computes (operators.InstanceOf tested) (x ∷ []) d pos
  good_expression (expressions.PrimitiveCast x) e (Some t) d pos is runs assigned = good_computes (operators.Convert t) (x ∷ []) d pos
  good_expression (expressions.ReferenceCast x) e (Some t) d pos is runs assigned = (tt, ((tt, tt), tt))
  good_expression (expressions.Assignment x value) e (Some t) d pos is runs assigned = good_assignment x value d pos runs assigned
  good_expression (expressions.OperatorAssignment a) e (Some t) d pos is runs assigned = good_update a (Some t) d pos (λ f is'. assigned f true (is', refl))
  good_expression (expressions.PostfixStep a) e (Some t) d pos is runs assigned = good_postfix a (Some t) d pos (λ f is'. assigned f true (is', refl))
  good_expression (expressions.Call c) e (Some t) d pos is runs assigned = good_call_with c.method c.arguments.items c.target d pos (called c (Some t) is)
  good_expression (expressions.NewObject n) e (Some t) d pos is runs assigned = good_new n t d pos is
  good_expression (expressions.NewArray x) e (Some t) d pos is runs assigned = good_computes (operators.NewArray t) (x ∷ []) d pos
  good_expression (expressions.Element a i) e (Some t) d pos is runs assigned = good_computes operators.Element (a ∷ i ∷ []) d pos
  good_expression (expressions.Length a) e (Some t) d pos is runs assigned = good_computes operators.Length (a ∷ []) d pos

  -- ---- conditions

  module _ (x y : Todos) (gx : AreGood p b x) (gy : AreGood p b y) where
    good_tests : (e : ExprId) (pos : Pos) (d : ℕ) → AllGood p b (tests_value e pos d x y)
    good_tests e pos d = (tt, ((gx, gy), tt))

    good_literal : (l : Literal) (e : ExprId) (pos : Pos) (d : ℕ) → AllGood p b (literal_condition l e pos d x y)
    good_literal (literals.Number z) e pos d = good_tests e pos d
    good_literal (literals.Boolean true) e pos d = good_todos p b x gx
    good_literal (literals.Boolean false) e pos d = good_todos p b y gy
    good_literal l e pos d = good_tests e pos d

    good_not : (o : UnaryOperator) (c e : ExprId) (pos : Pos) (d : ℕ) → AllGood p b (unary_condition o c e pos d x y)
    good_not unary.Not c e pos d = ((gy, gx), tt)
    good_not o c e pos d = good_tests e pos d

    good_equal : (z : Option ExprId) (e : ExprId) (pos : Pos) (d : ℕ) → AllGood p b (equal_condition z e pos d x y)
    good_equal (Some z) e pos d = (tt, ((gx, gy), tt))
    good_equal None e pos d = good_tests e pos d

    good_not_equal : (z : Option ExprId) (e : ExprId) (pos : Pos) (d : ℕ) → AllGood p b (not_equal_condition z e pos d x y)
    good_not_equal (Some z) e pos d = (tt, ((gy, gx), tt))
    good_not_equal None e pos d = good_tests e pos d

    good_both_sides : (o : BinaryOperator) (z : BinaryExpression) (e : ExprId) (pos : Pos) (d : ℕ) → AllGood p b (binary_condition o z b e pos d x y)
    good_both_sides binary.ConditionalAnd z e pos d = ((((gx, gy), tt), gy), tt)
    good_both_sides binary.ConditionalOr z e pos d = ((gx, ((gx, gy), tt)), tt)
    good_both_sides binary.Equal z e pos d = good_equal (compared_with_null b z) e pos d
    good_both_sides binary.NotEqual z e pos d = good_not_equal (compared_with_null b z) e pos d
    good_both_sides o z e pos d = good_tests e pos d

    good_kind : (k : ExpressionKind) (e : ExprId) (pos : Pos) (d : ℕ) → AllGood p b (kind_condition k b e pos d x y)
    good_kind (expressions.Literal l) e pos d = good_literal l e pos d
    good_kind (expressions.Unary o c) e pos d = good_not o c e pos d
    good_kind (expressions.Binary z) e pos d = good_both_sides z.operator z e pos d
    good_kind k e pos d = good_tests e pos d

    good_node : (z : Option TExpr) (e : ExprId) (d : ℕ) → AllGood p b (node_condition z b e d x y)
    good_node None e d = (tt, ((gx, gy), tt))
    good_node (Some z) e d = good_kind z.kind e z.pos d

    pub good_condition : (c : Condition) (d : ℕ) → AllGood p b (condition_front b c d x y)
    good_condition (conditions.Of e) d = good_node (expression_at b e) e d
    good_condition (conditions.Absent pos) d = good_todos p b x gx

  -- ---- statements

  good_declarator : (d : ℕ) (x : Declarator) → AllGood p b (declarator_front b d x)
  good_declarator d x = go x.initializer
    where
      go : (e : Option ExprId) → AllGood p b (declarator_with b x.variable e d x.pos)
      go None = ((tt, tt), tt)
      go (Some e) = (tt, ((tt, tt), tt))

  good_declaration : (d : ℕ) (names : List Declarator) → AllGood p b (declaration_front b d names)
  good_declaration d names = good_flat p b (declarator_front b d) (good_declarator d) names

  good_head : (d : ℕ) (es : List ExprId) → AllGood p b (head_front b d es)
  good_head d [] = tt
  good_head d (e ∷ es) = (tt, ((tt, tt), good_head d es))

  good_initial : (d : ℕ) (x : ForInitial) → AllGood p b (initial_front b d x)
  good_initial d (initials.Declaration names) = good_declaration d names.items
  good_initial d (initials.Expressions es) = good_head d es.items

  good_opens : (d : ℕ) (r : Resource) → AllGood p b (opens d r)
  good_opens d r = (tt, ((tt, tt), tt))

  resource_closes : (r : Resource) → IsResource p b r → IsInstanceMethod (method_at p r.close)
  resource_closes r is = go (variable_type b r.variable) is
    where
      closed : (t : VType) (m : Option Method) → IsSomeAnd m (IsClose p t) → IsSomeAnd m (λ x. x.kind ≡ methods.Instance)
      closed t None has = has
      closed t (Some m) has = has.0

      go : (t : Option VType) → IsSomeAnd t (λ u. Fits p b r.initializer u × IsSomeAnd (method_at p r.close) (IsClose p u)) → IsInstanceMethod (method_at p r.close)
      go None has = absurd has
      go (Some t) has = closed t (method_at p r.close) has.1

  good_closes : (s : StmtId) (d : ℕ) (r : Resource) → IsResource p b r → AllGood p b (closes s d r)
  good_closes s d r is = (resource_closes r is, (tt, tt))

  good_resources : (s : StmtId) (t : TryStatement) (d : ℕ) → All (IsResource p b) t.resources.items → AllGood p b (resources_front s t d)
  good_resources s t d all =
      good_both p b (flat_map (opens d) t.resources.items) (Do t.block d ∷ flat_map (closes s d) (reverse t.resources.items)) (good_flat p b (opens d) (good_opens d) t.resources.items)
      (tt, good_each p b (closes s d) (IsResource p b) (good_closes s d) (reverse t.resources.items) (all_reversed (IsResource p b) t.resources.items all))

  good_clauses : (s : StmtId) (cs : List CatchClause) (d : ℕ) → AllGood p b (clauses_front s cs d)
  good_clauses s [] d = tt
  good_clauses s (c ∷ cs) d = (tt, tt)

  good_finally : (f : Option StmtId) (d : ℕ) → AllGood p b (finally_front f d)
  good_finally None d = tt
  good_finally (Some f) d = (tt, tt)

  good_try : (s : StmtId) (t : TryStatement) (d : ℕ) → All (IsResource p b) t.resources.items → AllGood p b (try_front s t d)
  good_try s t d all =
      good_both p b (resources_front s t d ++ clauses_front s t.catches.items d) (finally_front t.finally d)
      (good_both p b (resources_front s t d) (clauses_front s t.catches.items d) (good_resources s t d all) (good_clauses s t.catches.items d))
      (good_finally t.finally d)

  constructor_of : (c : ClassId) (arguments : List ExprId) (x : Option Method) → IsSomeAnd x (λ y. (y.kind ≡ methods.Ctor) × (y.class ≡ c) × AreArguments p b arguments y.sig.params.items)
      → IsSomeAnd x (λ y. (y.kind ≡ methods.Ctor) × (y.class ≡ c))
  constructor_of c arguments None has = absurd has
  constructor_of c arguments (Some y) has = (has.0, has.1)

  of_super_class : (c : SuperCall) → IsSuperCall p b c → IsOfSuperClass p b c.constructor
  of_super_class c is = by_method (method_at p b.method) is
    where
      by_class : (d : Option ClassId) → IsSomeAnd d (λ e. IsConstruction p b e c.constructor c.arguments.items)
          → IsSomeAnd d (λ e. IsSomeAnd (method_at p c.constructor) (λ y. (y.kind ≡ methods.Ctor) × (y.class ≡ e)))
      by_class None has = absurd has
      by_class (Some d) has = constructor_of d c.arguments.items (method_at p c.constructor) has

      by_declaration : (k : Option Class) → IsSomeAnd k (λ y. IsSomeAnd y.sup (λ e. IsConstruction p b e c.constructor c.arguments.items))
          → IsSomeAnd k (λ z. IsSomeAnd z.sup (λ e. IsSomeAnd (method_at p c.constructor) (λ y. (y.kind ≡ methods.Ctor) × (y.class ≡ e))))
      by_declaration None has = absurd has
      by_declaration (Some k) has = by_class k.sup has

      by_method : (x : Option Method)
          → IsSomeAnd x (λ m. (m.kind ≡ methods.Ctor) × IsSomeAnd (class_at p m.class) (λ k. IsSomeAnd k.sup (λ d. IsConstruction p b d c.constructor c.arguments.items)))
          → IsSomeAnd x (λ m. (m.kind ≡ methods.Ctor)
          × IsSomeAnd (class_at p m.class) (λ k. IsSomeAnd k.sup (λ d. IsSomeAnd (method_at p c.constructor) (λ y. (y.kind ≡ methods.Ctor) × (y.class ≡ d)))))
      by_method None has = absurd has
      by_method (Some m) has = (has.0, by_declaration (class_at p m.class) has.1)

  pub good_super : (c : SuperCall) (d : ℕ) (pos : Pos) → IsSuperCall p b c → StandsInBody b (actions.Super c.constructor d (length c.arguments.items + 1)) → AllGood p b (super_front c d pos)
  good_super c d pos is stands =
      good_both p b (Act (actions.Copy (places.Temp d) places.This) pos ∷ evaluations c.arguments.items (d + 1))
      (Act (actions.Super c.constructor d (length c.arguments.items + 1)) pos ∷ Act (actions.Drop (scopes.Temp d)) pos ∷ [])
      ((tt, tt), good_evaluations c.arguments.items (d + 1)) ((of_super_class c is, stands), ((tt, tt), tt))

  good_dos : (d : ℕ) (ss : List StmtId) → AllGood p b (map (λ x. Do x d) ss)
  good_dos d [] = tt
  good_dos d (s ∷ ss) = (tt, good_dos d ss)

  good_branch : (y : Option StmtId) (d : ℕ) → AreGood p b (list_of_branch y d)
  good_branch None d = tt
  good_branch (Some s) d = (tt, tt)

  good_return : (e : Option ExprId) (d : ℕ) (pos : Pos) → AllGood p b (return_front e d pos)
  good_return None d pos = (tt, tt)
  good_return (Some e) d pos = (tt, (tt, tt))

  pub good_statement : (k : StatementKind) (s : StmtId) (d : ℕ) (pos : Pos) → IsTypedStatement p b k → IsOwn b k → AllGood p b (statement_front k b s d pos)
  good_statement (statements.Block ss end) s d pos is own = good_both p b (map (λ x. Do x d) ss.items) (Leave (scopes.Declared s) pos ∷ []) (good_dos d ss.items) (tt, tt)
  good_statement statements.Empty s d pos is own = tt
  good_statement (statements.LocalDeclaration names) s d pos is own = good_declaration d names.items
  good_statement (statements.Expression e) s d pos is own = (tt, ((tt, tt), tt))
  good_statement (statements.If c x y) s d pos is own = (((tt, tt), good_branch y d), tt)
  good_statement (statements.While c x) s d pos is own = (((tt, (tt, tt)), tt), tt)
  good_statement (statements.Do x c) s d pos is own = (tt, (tt, tt))
  good_statement (statements.For l) s d pos is own =
      good_both p b (initial_front b d l.initial) (For s d ∷ Leave (scopes.Declared s) pos ∷ []) (good_initial d l.initial) (tt, (tt, tt))
  good_statement (statements.Return e) s d pos is own = good_return e d pos
  good_statement (statements.Throw e) s d pos is own = (tt, ((tt, tt), tt))
  good_statement statements.Break s d pos is own = (tt, tt)
  good_statement statements.Continue s d pos is own = (tt, tt)
  good_statement (statements.Try t) s d pos is own = good_try s t d is.0
  good_statement (statements.SuperCall c) s d pos is own = good_super c d pos is (own c.constructor refl)
  good_statement (statements.FieldInitializer e) s d pos is own = (tt, ((tt, tt), tt))

  pub good_for_turn : (k : StatementKind) (w : StmtId) (d : ℕ) (pos : Pos) → AllGood p b (for_turn k w d pos)
  good_for_turn (statements.Block ss end) w d pos = tt
  good_for_turn (statements.For l) w d pos = (((tt, (tt, tt)), tt), tt)
  good_for_turn k w d pos = tt

  pub good_loop_turn : (k : StatementKind) (w : StmtId) (d : ℕ) → AllGood p b (loop_turn k b w d)
  good_loop_turn (statements.Block ss end) w d = tt
  good_loop_turn (statements.While c x) w d = (tt, tt)
  good_loop_turn (statements.Do x c) w d = (((tt, tt), tt), tt)
  good_loop_turn (statements.For l) w d = good_both p b (head_front b d l.updates.items) (For w d ∷ []) (good_head d l.updates.items) (tt, tt)
  good_loop_turn k w d = tt
