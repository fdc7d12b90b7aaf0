-- What statements, expressions and conditions of a valid program become are such items.
use Rattle.std.proofs.Common.{◌≡◌, ℕ, ◌+◌, ◌<◌, Bool, true, false, Option, Some, None, List, [], ◌∷◌, ◌++◌, All, IsSomeAnd, length, map, reverse, flat_map, refl, ap, if◌then◌else◌}
use Rattle.program_model.specs.declared.kinds.BinaryOperator.{BinaryOperator}
use Rattle.program_model.specs.declared.kinds.BinaryOperator.TheVariants as binary
use Rattle.program_model.specs.declared.kinds.ExprId.{ExprId}
use Rattle.program_model.specs.declared.kinds.FieldId.{FieldId}
use Rattle.program_model.specs.declared.kinds.Literal.{Literal}
use Rattle.program_model.specs.declared.kinds.Literal.TheVariants as literals
use Rattle.program_model.specs.declared.kinds.MethodId.{MethodId}
use Rattle.program_model.specs.declared.kinds.MethodKind.TheVariants as methods
use Rattle.program_model.specs.declared.kinds.StmtId.{StmtId}
use Rattle.program_model.specs.declared.kinds.UnaryOperator.{UnaryOperator}
use Rattle.program_model.specs.declared.kinds.UnaryOperator.TheVariants as unary
use Rattle.program_model.specs.declared.kinds.VType.{VType}
use Rattle.program_model.specs.declared.program.Method.{Method}
use Rattle.program_model.specs.declared.program.Program.{Program}
use Rattle.program_model.specs.declared.tree.AssignmentTarget.{AssignmentTarget}
use Rattle.program_model.specs.declared.tree.AssignmentTarget.TheVariants as targets
use Rattle.program_model.specs.declared.tree.BinaryExpression.{BinaryExpression}
use Rattle.program_model.specs.declared.tree.Body.{Body}
use Rattle.program_model.specs.declared.tree.CallExpression.{CallExpression}
use Rattle.program_model.specs.declared.tree.CallTarget.{CallTarget}
use Rattle.program_model.specs.declared.tree.CallTarget.TheVariants as calls
use Rattle.program_model.specs.declared.tree.CatchClause.{CatchClause}
use Rattle.program_model.specs.declared.tree.Declarator.{Declarator}
use Rattle.program_model.specs.declared.tree.ExpressionKind.{ExpressionKind}
use Rattle.program_model.specs.declared.tree.ExpressionKind.TheVariants as expressions
use Rattle.program_model.specs.declared.tree.ForInitial.{ForInitial}
use Rattle.program_model.specs.declared.tree.ForInitial.TheVariants as initials
use Rattle.program_model.specs.declared.tree.NewObject.{NewObject}
use Rattle.program_model.specs.declared.tree.OperatorAssignment.{OperatorAssignment}
use Rattle.program_model.specs.declared.tree.Resource.{Resource}
use Rattle.program_model.specs.declared.tree.StatementKind.{StatementKind}
use Rattle.program_model.specs.declared.tree.StatementKind.TheVariants as statements
use Rattle.program_model.specs.declared.tree.SuperCall.{SuperCall}
use Rattle.program_model.specs.declared.tree.TExpr.{TExpr}
use Rattle.program_model.specs.declared.tree.TryStatement.{TryStatement}
use Rattle.accepted_programs.specs.Bodies.{constructs, is_constructor_kind}
use Rattle.program_model.specs.Lookups.{expression_at, method_at, variable_type}
use Rattle.program_model.specs.Typing.{AreArguments, Fits, IsInitializer, IsCall, IsCallTarget, IsClose, IsDeclarator, IsForInitial, IsNewObject, IsOfOptionalType, IsOperatorAssignment, IsOwnPlace, IsResource, IsTarget, IsTypedStatement, kind_at, kind_in}
use Rattle.rlc_base.specs.declared.place.Pos.{Pos}
use Rattle.java_control.specs.Conditions.{binary_condition, condition_front, equal_condition, kind_condition, literal_condition, node_condition, not_equal_condition, tests_value, unary_condition}
use Rattle.java_control.specs.Expressions.{assignment_front, binary_front, call_with, comparison_front, computes, evaluations, expression_front, field_read, field_store, new_front, postfix_front, stored, stored_at, stored_in, type_or_null, unary_front, update_front}
use Rattle.java_control.specs.NullTests.{compared_with_null}
use Rattle.java_control.specs.Owned.{has_place, is_this, place_of_field}
use Rattle.java_control.specs.Remaining.{Todos, Do, Ev, Act, Leave, For}
use Rattle.java_control.specs.Statements.{clauses_front, closes, declaration_front, declarator_front, declarator_with, finally_front, for_turn, head_front, initial_front, list_of_branch, loop_turn, opens, resources_front, return_front, statement_front, super_front, try_front}
use Rattle.control_actions.specs.declared.action.Action.TheVariants as actions
use Rattle.control_actions.specs.declared.action.Operator.{Operator}
use Rattle.control_actions.specs.declared.action.Operator.TheVariants as operators
use Rattle.control_actions.specs.declared.action.Scope.TheVariants as scopes
use Rattle.control_actions.specs.declared.action.TargetForm.TheVariants as forms
use Rattle.control_actions.specs.declared.place.Place.TheVariants as places
use Rattle.control_actions.specs.declared.item.Condition.{Condition}
use Rattle.control_actions.specs.declared.item.Condition.TheVariants as conditions
use Rattle.step_laws.proofs.NamedItems.{AllGood, AreGood, all_reversed, good_both, good_flat, good_todos, in_body, is_constructor, no_constructor, some_in_body}

module _ (p : Program) (b : Body) where
  good_evaluations : (es : List ExprId) (d : ℕ) → AllGood p b (evaluations es d)
  good_evaluations [] d = tt
  good_evaluations (e ∷ es) d = (tt, good_evaluations es (d + 1))

  good_computes : (k : Operator) (es : List ExprId) (d : ℕ) (pos : Pos) → AllGood p b (computes k es d pos)
  good_computes k es d pos = good_both p b (evaluations es d) (Act (actions.Op k d (length es)) pos ∷ []) (good_evaluations es d) ((tt, tt), tt)

  good_read : (e : ExprId) (f : FieldId) (d : ℕ) (pos : Pos) → AllGood p b (field_read p b e f d pos)
  good_read e f d pos = go (has_place p b e f)
    where
      go : (x : Bool) → AllGood p b (if x then Act (actions.Copy (places.Temp d) (place_of_field p f)) pos ∷ [] else (Ev e d ∷ Act (actions.Get f d (is_this b e)) pos ∷ []))
      go true = ((tt, tt), tt)
      go false = (tt, ((tt, tt), tt))

  good_field_store : (e : ExprId) (f : FieldId) (value : ExprId) (d : ℕ) (pos : Pos) → AllGood p b (field_store p b e f value d pos)
  good_field_store e f value d pos = go (has_place p b e f)
    where
      go : (x : Bool) → AllGood p b (if x then Ev value d ∷ Act (actions.PutOwn f d) pos ∷ [] else (Ev e d ∷ Ev value (d + 1) ∷ Act (actions.Put f d (is_this b e)) pos ∷ []))
      go true = (tt, ((tt, tt), tt))
      go false = (tt, (tt, ((tt, tt), tt)))

  good_assignment : (x : AssignmentTarget) (value : ExprId) (t : VType) (d : ℕ) (pos : Pos) → IsTarget p b x t → AllGood p b (assignment_front p b x value d pos)
  good_assignment (targets.Local x) value t d pos is = (tt, ((in_body b x t is, tt), tt))
  good_assignment (targets.Field e f) value t d pos is = good_field_store e f value d pos
  good_assignment (targets.StaticField f) value t d pos is = good_computes (operators.StoreStatic f) (value ∷ []) d pos
  good_assignment (targets.Element a i) value t d pos is = good_computes operators.StoreElement (a ∷ i ∷ value ∷ []) d pos

  good_stored_in : (k : ExpressionKind) (t : VType) (d : ℕ) (pos : Pos) → IsOwnPlace p b (Some k) t → AllGood p b (stored_in k d pos)
  good_stored_in (expressions.Literal l) t d pos is = tt
  good_stored_in (expressions.Local x) t d pos is = ((in_body b x t is, tt), tt)
  good_stored_in (expressions.StaticField f) t d pos is = ((tt, tt), tt)
  good_stored_in (expressions.Field e f) t d pos is = ((tt, tt), ((tt, tt), ((tt, tt), tt)))
  good_stored_in k t d pos is = tt

  good_stored : (target : ExprId) (t : VType) (d : ℕ) (pos : Pos) → IsOwnPlace p b (kind_at b target) t → AllGood p b (stored b target d pos)
  good_stored target t d pos is = go (expression_at b target) is
    where
      go : (x : Option TExpr) → IsOwnPlace p b (kind_in x) t → AllGood p b (stored_at x d pos)
      go None own = tt
      go (Some x) own = good_stored_in x.kind t d pos own

  good_update : (a : OperatorAssignment) (u : Option VType) (t : VType) (d : ℕ) (pos : Pos) → IsOperatorAssignment p b a t → AllGood p b (update_front b a u d pos)
  good_update a u t d pos is =
      good_both p b (computes (operators.Binary a.operator a.operands (type_or_null u)) (a.target ∷ a.value ∷ []) d pos) (stored b a.target d pos)
      (good_computes (operators.Binary a.operator a.operands (type_or_null u)) (a.target ∷ a.value ∷ []) d pos) (good_stored a.target t d pos is.0)

  good_postfix : (a : OperatorAssignment) (u : Option VType) (t : VType) (d : ℕ) (pos : Pos) → IsOperatorAssignment p b a t → AllGood p b (postfix_front b a u d pos)
  good_postfix a u t d pos is =
      good_both p b (Ev a.target d ∷ computes (operators.Binary a.operator a.operands (type_or_null u)) (a.target ∷ a.value ∷ []) (d + 1) pos ++ stored b a.target (d + 1) pos)
      (Act (actions.Drop (scopes.Temp (d + 1))) pos ∷ [])
      (good_both p b (Ev a.target d ∷ computes (operators.Binary a.operator a.operands (type_or_null u)) (a.target ∷ a.value ∷ []) (d + 1) pos) (stored b a.target (d + 1) pos)
      (tt, good_computes (operators.Binary a.operator a.operands (type_or_null u)) (a.target ∷ a.value ∷ []) (d + 1) pos) (good_stored a.target t (d + 1) pos is.0))
      ((tt, tt), tt)

  call_kind : (c : CallTarget) (x : Method) → IsCallTarget p b c x → is_constructor_kind x.kind ≡ false
  call_kind calls.Static x is = ap is_constructor_kind is
  call_kind (calls.This e) x is = ap is_constructor_kind is.0
  call_kind (calls.Super e) x is = ap is_constructor_kind is.0
  call_kind (calls.Other e) x is = ap is_constructor_kind is.0

  called_kind : (c : CallExpression) (t : Option VType) → IsCall p b c t → constructs (method_at p c.method) ≡ false
  called_kind c t is = go (method_at p c.method) is
    where
      go : (x : Option Method) → IsSomeAnd x (λ m. IsCallTarget p b c.target m × AreArguments p b c.arguments.items m.sig.params.items × (m.sig.result ≡ t)) → constructs x ≡ false
      go None has = absurd has
      go (Some x) has = call_kind c.target x has.0

  good_call_with : (m : MethodId) (es : List ExprId) (c : CallTarget) (d : ℕ) (pos : Pos) → constructs (method_at p m) ≡ false → AllGood p b (call_with m es c d pos)
  good_call_with m es calls.Static d pos plain = good_both p b (evaluations es d) (Act (actions.Call m d (length es) forms.Static) pos ∷ []) (good_evaluations es d) ((tt, plain), tt)
  good_call_with m es (calls.This e) d pos plain =
      good_both p b (Ev e d ∷ evaluations es (d + 1)) (Act (actions.Call m d (length es + 1) forms.This) pos ∷ []) (tt, good_evaluations es (d + 1)) ((tt, plain), tt)
  good_call_with m es (calls.Super e) d pos plain =
      good_both p b (Ev e d ∷ evaluations es (d + 1)) (Act (actions.Call m d (length es + 1) forms.Super) pos ∷ []) (tt, good_evaluations es (d + 1)) ((tt, plain), tt)
  good_call_with m es (calls.Other e) d pos plain =
      good_both p b (Ev e d ∷ evaluations es (d + 1)) (Act (actions.Call m d (length es + 1) forms.Other) pos ∷ []) (tt, good_evaluations es (d + 1)) ((tt, plain), tt)

  good_new : (n : NewObject) (t : VType) (d : ℕ) (pos : Pos) → IsNewObject p b n t → AllGood p b (new_front n d pos)
  good_new n t d pos is =
      good_both p b (evaluations n.arguments.items (d + 1)) (Act (actions.New n.constructor d (length n.arguments.items)) pos ∷ []) (good_evaluations n.arguments.items (d + 1))
      ((tt, is_constructor (λ (x : Method). (x.kind ≡ methods.Ctor) × (x.class ≡ n.class) × AreArguments p b n.arguments.items x.sig.params.items) (λ x has. has.0) (method_at p n.constructor) is.0), tt)

  good_unary : (o : UnaryOperator) (x e : ExprId) (t : Option VType) (d : ℕ) (pos : Pos) → AllGood p b (unary_front o x e t d pos)
  good_unary unary.Not x e t d pos = ((((tt, tt), tt), (((tt, tt), tt))), tt)
  good_unary o x e t d pos = good_computes (operators.Unary o (type_or_null t)) (x ∷ []) d pos

  good_comparison : (y : Option ExprId) (x : BinaryExpression) (e : ExprId) (t : Option VType) (d : ℕ) (pos : Pos) → AllGood p b (comparison_front y x e t d pos)
  good_comparison (Some y) x e t d pos = ((((tt, tt), tt), (((tt, tt), tt))), tt)
  good_comparison None x e t d pos = good_computes (operators.Binary x.operator x.operands (type_or_null t)) (x.left ∷ x.right ∷ []) d pos

  good_binary : (o : BinaryOperator) (x : BinaryExpression) (e : ExprId) (t : Option VType) (d : ℕ) (pos : Pos) → AllGood p b (binary_front o x b e t d pos)
  good_binary binary.ConditionalAnd x e t d pos = ((((tt, tt), tt), (((tt, tt), tt))), tt)
  good_binary binary.ConditionalOr x e t d pos = ((((tt, tt), tt), (((tt, tt), tt))), tt)
  good_binary binary.Equal x e t d pos = good_comparison (compared_with_null b x) x e t d pos
  good_binary binary.NotEqual x e t d pos = good_comparison (compared_with_null b x) x e t d pos
  good_binary o x e t d pos = good_computes (operators.Binary x.operator x.operands (type_or_null t)) (x.left ∷ x.right ∷ []) d pos

  -- an expression of a type, or a call of none
  pub good_expression : (k : ExpressionKind) (e : ExprId) (t : Option VType) (d : ℕ) (pos : Pos) → IsOfOptionalType p b k t → AllGood p b (expression_front k p b e t d pos)
  good_expression (expressions.Call c) e None d pos is = good_call_with c.method c.arguments.items c.target d pos (called_kind c None is)
  good_expression (expressions.Literal l) e None d pos is = absurd is
  good_expression k e None d pos is = absurd is
  good_expression (expressions.Literal l) e (Some t) d pos is = ((tt, tt), tt)
  good_expression (expressions.Local x) e (Some t) d pos is = ((tt, tt), tt)
  good_expression (expressions.This written) e (Some t) d pos is = ((tt, tt), tt)
  good_expression (expressions.Field x f) e (Some t) d pos is = good_read x f d pos
  good_expression (expressions.StaticField f) e (Some t) d pos is = ((tt, tt), tt)
  good_expression (expressions.LibraryConstant m) e (Some t) d pos is = ((tt, tt), tt)
  good_expression (expressions.Unary o x) e (Some t) d pos is = good_unary o x e (Some t) d pos
  good_expression (expressions.Binary x) e (Some t) d pos is = good_binary x.operator x e (Some t) d pos
  good_expression (expressions.Conditional c x y) e (Some t) d pos is = (((tt, tt), (tt, tt)), tt)
  good_expression (expressions.InstanceOf x tested) e (Some t) d pos is = good_computes (operators.InstanceOf tested) (x ∷ []) d pos
  good_expression (expressions.PrimitiveCast x) e (Some t) d pos is = good_computes (operators.Convert t) (x ∷ []) d pos
  good_expression (expressions.ReferenceCast x) e (Some t) d pos is = (tt, ((tt, tt), tt))
  good_expression (expressions.Assignment x value) e (Some t) d pos is = good_assignment x value t d pos is.0
  good_expression (expressions.OperatorAssignment a) e (Some t) d pos is = good_update a (Some t) t d pos is
  good_expression (expressions.PostfixStep a) e (Some t) d pos is = good_postfix a (Some t) t d pos is.2
  good_expression (expressions.Call c) e (Some t) d pos is = good_call_with c.method c.arguments.items c.target d pos (called_kind c (Some t) is)
  good_expression (expressions.NewObject n) e (Some t) d pos is = good_new n t d pos is
  good_expression (expressions.NewArray x) e (Some t) d pos is = good_computes (operators.NewArray t) (x ∷ []) d pos
  good_expression (expressions.Element a i) e (Some t) d pos is = good_computes operators.Element (a ∷ i ∷ []) d pos
  good_expression (expressions.Length a) e (Some t) d pos is = good_computes operators.Length (a ∷ []) d pos

  -- ---- conditions

  module _ (x y : Todos) (gx : AreGood p b x) (gy : AreGood p b y) where
    good_tests : (e : ExprId) (pos : Pos) (d : ℕ) → AllGood p b (tests_value e pos d x y)
    good_tests e pos d = (tt, ((gx, gy), tt))

    good_literal : (l : Literal) (e : ExprId) (pos : Pos) (d : ℕ) → AllGood p b (literal_condition l e pos d x y)
    good_literal (literals.Number z) e pos d = good_tests e pos d
    good_literal (literals.Boolean true) e pos d = good_todos p b x gx
    good_literal (literals.Boolean false) e pos d = good_todos p b y gy
    good_literal l e pos d = good_tests e pos d

    good_not : (o : UnaryOperator) (c e : ExprId) (pos : Pos) (d : ℕ) → AllGood p b (unary_condition o c e pos d x y)
    good_not unary.Not c e pos d = ((gy, gx), tt)
    good_not o c e pos d = good_tests e pos d

    good_equal : (z : Option ExprId) (e : ExprId) (pos : Pos) (d : ℕ) → AllGood p b (equal_condition z e pos d x y)
    good_equal (Some z) e pos d = (tt, ((gx, gy), tt))
    good_equal None e pos d = good_tests e pos d

    good_not_equal : (z : Option ExprId) (e : ExprId) (pos : Pos) (d : ℕ) → AllGood p b (not_equal_condition z e pos d x y)
    good_not_equal (Some z) e pos d = (tt, ((gy, gx), tt))
    good_not_equal None e pos d = good_tests e pos d

    good_both_sides : (o : BinaryOperator) (z : BinaryExpression) (e : ExprId) (pos : Pos) (d : ℕ) → AllGood p b (binary_condition o z b e pos d x y)
    good_both_sides binary.ConditionalAnd z e pos d = ((((gx, gy), tt), gy), tt)
    good_both_sides binary.ConditionalOr z e pos d = ((gx, ((gx, gy), tt)), tt)
    good_both_sides binary.Equal z e pos d = good_equal (compared_with_null b z) e pos d
    good_both_sides binary.NotEqual z e pos d = good_not_equal (compared_with_null b z) e pos d
    good_both_sides o z e pos d = good_tests e pos d

    good_kind : (k : ExpressionKind) (e : ExprId) (pos : Pos) (d : ℕ) → AllGood p b (kind_condition k b e pos d x y)
    good_kind (expressions.Literal l) e pos d = good_literal l e pos d
    good_kind (expressions.Unary o c) e pos d = good_not o c e pos d
    good_kind (expressions.Binary z) e pos d = good_both_sides z.operator z e pos d
    good_kind k e pos d = good_tests e pos d

    good_node : (z : Option TExpr) (e : ExprId) (d : ℕ) → AllGood p b (node_condition z b e d x y)
    good_node None e d = (tt, ((gx, gy), tt))
    good_node (Some z) e d = good_kind z.kind e z.pos d

    pub good_condition : (c : Condition) (d : ℕ) → AllGood p b (condition_front b c d x y)
    good_condition (conditions.Of e) d = good_node (expression_at b e) e d
    good_condition (conditions.Absent pos) d = good_todos p b x gx

  -- ---- statements

  good_declarator : (d : ℕ) (x : Declarator) → IsDeclarator p b x → AllGood p b (declarator_front b d x)
  good_declarator d x is = go x.initializer (some_in_body b x.variable (IsInitializer p b x.initializer) (variable_type b x.variable) refl is)
    where
      go : (e : Option ExprId) → x.variable < length b.vars.items → AllGood p b (declarator_with b x.variable e d x.pos)
      go None within = ((within, tt), tt)
      go (Some e) within = (tt, ((within, tt), tt))

  good_declaration : (d : ℕ) (names : List Declarator) → All (IsDeclarator p b) names → AllGood p b (declaration_front b d names)
  good_declaration d names all = good_flat p b (declarator_front b d) (IsDeclarator p b) (good_declarator d) names all

  good_head : (d : ℕ) (es : List ExprId) → AllGood p b (head_front b d es)
  good_head d [] = tt
  good_head d (e ∷ es) = (tt, ((tt, tt), good_head d es))

  good_initial : (d : ℕ) (x : ForInitial) → IsForInitial p b x → AllGood p b (initial_front b d x)
  good_initial d (initials.Declaration names) all = good_declaration d names.items all
  good_initial d (initials.Expressions es) all = good_head d es.items

  good_opens : (d : ℕ) (r : Resource) → IsResource p b r → AllGood p b (opens d r)
  good_opens d r is = (tt, ((some_in_body b r.variable (λ (t : VType). Fits p b r.initializer t × IsSomeAnd (method_at p r.close) (IsClose p t)) (variable_type b r.variable) refl is, tt), tt))

  resource_closes : (r : Resource) → IsResource p b r → constructs (method_at p r.close) ≡ false
  resource_closes r is = go (variable_type b r.variable) is
    where
      go : (t : Option VType) → IsSomeAnd t (λ u. Fits p b r.initializer u × IsSomeAnd (method_at p r.close) (IsClose p u)) → constructs (method_at p r.close) ≡ false
      go None has = absurd has
      go (Some t) has = no_constructor methods.Instance (IsClose p t) refl (λ x close. close.0) (method_at p r.close) has.1

  good_closes : (s : StmtId) (d : ℕ) (r : Resource) → IsResource p b r → AllGood p b (closes s d r)
  good_closes s d r is = (resource_closes r is, (tt, tt))

  good_resources : (s : StmtId) (t : TryStatement) (d : ℕ) → All (IsResource p b) t.resources.items → AllGood p b (resources_front s t d)
  good_resources s t d all =
      good_both p b (flat_map (opens d) t.resources.items) (Do t.block d ∷ flat_map (closes s d) (reverse t.resources.items))
      (good_flat p b (opens d) (IsResource p b) (good_opens d) t.resources.items all)
      (tt, good_flat p b (closes s d) (IsResource p b) (good_closes s d) (reverse t.resources.items) (all_reversed (IsResource p b) t.resources.items all))

  good_clauses : (s : StmtId) (cs : List CatchClause) (d : ℕ) → AllGood p b (clauses_front s cs d)
  good_clauses s [] d = tt
  good_clauses s (c ∷ cs) d = (tt, tt)

  good_finally : (f : Option StmtId) (d : ℕ) → AllGood p b (finally_front f d)
  good_finally None d = tt
  good_finally (Some f) d = (tt, tt)

  good_try : (s : StmtId) (t : TryStatement) (d : ℕ) → All (IsResource p b) t.resources.items → AllGood p b (try_front s t d)
  good_try s t d all =
      good_both p b (resources_front s t d ++ clauses_front s t.catches.items d) (finally_front t.finally d)
      (good_both p b (resources_front s t d) (clauses_front s t.catches.items d) (good_resources s t d all) (good_clauses s t.catches.items d))
      (good_finally t.finally d)

  pub good_super : (c : SuperCall) (d : ℕ) (pos : Pos) → AllGood p b (super_front c d pos)
  good_super c d pos =
      good_both p b (Act (actions.Copy (places.Temp d) places.This) pos ∷ evaluations c.arguments.items (d + 1))
      (Act (actions.Super c.constructor d (length c.arguments.items + 1)) pos ∷ Act (actions.Drop (scopes.Temp d)) pos ∷ [])
      ((tt, tt), good_evaluations c.arguments.items (d + 1)) ((tt, tt), ((tt, tt), tt))

  good_dos : (d : ℕ) (ss : List StmtId) → AllGood p b (map (λ x. Do x d) ss)
  good_dos d [] = tt
  good_dos d (s ∷ ss) = (tt, good_dos d ss)

  good_branch : (y : Option StmtId) (d : ℕ) → AreGood p b (list_of_branch y d)
  good_branch None d = tt
  good_branch (Some s) d = (tt, tt)

  good_return : (e : Option ExprId) (d : ℕ) (pos : Pos) → AllGood p b (return_front e d pos)
  good_return None d pos = (tt, tt)
  good_return (Some e) d pos = (tt, (tt, tt))

  pub good_statement : (k : StatementKind) (s : StmtId) (d : ℕ) (pos : Pos) → IsTypedStatement p b k → AllGood p b (statement_front k b s d pos)
  good_statement (statements.Block ss end) s d pos is = good_both p b (map (λ x. Do x d) ss.items) (Leave (scopes.Declared s) pos ∷ []) (good_dos d ss.items) (tt, tt)
  good_statement statements.Empty s d pos is = tt
  good_statement (statements.LocalDeclaration names) s d pos is = good_declaration d names.items is
  good_statement (statements.Expression e) s d pos is = (tt, ((tt, tt), tt))
  good_statement (statements.If c x y) s d pos is = (((tt, tt), good_branch y d), tt)
  good_statement (statements.While c x) s d pos is = (((tt, (tt, tt)), tt), tt)
  good_statement (statements.Do x c) s d pos is = (tt, (tt, tt))
  good_statement (statements.For l) s d pos is =
      good_both p b (initial_front b d l.initial) (For s d ∷ Leave (scopes.Declared s) pos ∷ []) (good_initial d l.initial is.0) (tt, (tt, tt))
  good_statement (statements.Return e) s d pos is = good_return e d pos
  good_statement (statements.Throw e) s d pos is = (tt, ((tt, tt), tt))
  good_statement statements.Break s d pos is = (tt, tt)
  good_statement statements.Continue s d pos is = (tt, tt)
  good_statement (statements.Try t) s d pos is = good_try s t d is.0
  good_statement (statements.SuperCall c) s d pos is = good_super c d pos
  good_statement (statements.FieldInitializer e) s d pos is = (tt, ((tt, tt), tt))

  pub good_for_turn : (k : StatementKind) (w : StmtId) (d : ℕ) (pos : Pos) → AllGood p b (for_turn k w d pos)
  good_for_turn (statements.Block ss end) w d pos = tt
  good_for_turn (statements.For l) w d pos = (((tt, (tt, tt)), tt), tt)
  good_for_turn k w d pos = tt

  pub good_loop_turn : (k : StatementKind) (w : StmtId) (d : ℕ) → AllGood p b (loop_turn k b w d)
  good_loop_turn (statements.Block ss end) w d = tt
  good_loop_turn (statements.While c x) w d = (tt, tt)
  good_loop_turn (statements.Do x c) w d = (((tt, tt), tt), tt)
  good_loop_turn (statements.For l) w d = good_both p b (head_front b d l.updates.items) (For w d ∷ []) (good_head d l.updates.items) (tt, tt)
  good_loop_turn k w d = tt
