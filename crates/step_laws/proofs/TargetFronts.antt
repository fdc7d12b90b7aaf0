-- What an expression of a valid program becomes finds `this`, where what follows the expression does.
use Rattle.std.proofs.Common.{◌≡◌, ℕ, ◌+◌, ◌<◌, Bool, true, false, Option, Some, None, List, [], ◌∷◌, ◌++◌, IsSomeAnd, length, inl, inr, refl, sym, ◌∙◌, true≢false, arith, if◌then◌else◌}
use Rattle.std.specs.Prelude.{◌⊎◌}
use Rattle.program_model.specs.declared.kinds.BinaryOperator.{BinaryOperator}
use Rattle.program_model.specs.declared.kinds.BinaryOperator.TheVariants as binary
use Rattle.program_model.specs.declared.kinds.BodyId.{BodyId}
use Rattle.program_model.specs.declared.kinds.ClassId.{ClassId}
use Rattle.program_model.specs.declared.kinds.ExprId.{ExprId}
use Rattle.program_model.specs.declared.kinds.FieldId.{FieldId}
use Rattle.program_model.specs.declared.kinds.MethodId.{MethodId}
use Rattle.program_model.specs.declared.kinds.MethodKind.TheVariants as methods
use Rattle.program_model.specs.declared.kinds.UnaryOperator.{UnaryOperator}
use Rattle.program_model.specs.declared.kinds.UnaryOperator.TheVariants as unary
use Rattle.program_model.specs.declared.kinds.VType.{VType}
use Rattle.program_model.specs.declared.kinds.VType.TheVariants as types
use Rattle.program_model.specs.declared.program.Method.{Method}
use Rattle.program_model.specs.declared.program.Program.{Program}
use Rattle.program_model.specs.declared.tree.AssignmentTarget.{AssignmentTarget}
use Rattle.program_model.specs.declared.tree.AssignmentTarget.TheVariants as targets
use Rattle.program_model.specs.declared.tree.BinaryExpression.{BinaryExpression}
use Rattle.program_model.specs.declared.tree.Body.{Body}
use Rattle.program_model.specs.declared.tree.CallTarget.{CallTarget}
use Rattle.program_model.specs.declared.tree.CallTarget.TheVariants as calls
use Rattle.program_model.specs.declared.tree.ExpressionKind.{ExpressionKind}
use Rattle.program_model.specs.declared.tree.ExpressionKind.TheVariants as expressions
use Rattle.program_model.specs.declared.tree.NewObject.{NewObject}
use Rattle.program_model.specs.declared.tree.OperatorAssignment.{OperatorAssignment}
use Rattle.program_model.specs.declared.tree.TExpr.{TExpr}
use Rattle.program_model.specs.Lookups.{expression_at, method_at}
use Rattle.program_model.specs.Typing.{AreArguments, HasThis, IsCall, IsCallTarget, IsOfOptionalType, IsOperatorAssignment, IsOwnPlace, IsThisType, kind_at, kind_in}
use Rattle.program_model.specs.Typing as typing
use Rattle.program_model.specs.Validity.{IsValidBody}
use Rattle.rlc_base.specs.declared.place.Pos.{Pos}
use Rattle.java_control.specs.Expressions.{assignment_front, binary_front, call_with, comparison_front, computes, evaluations, expression_front, field_read, field_store, new_front, postfix_front, stored, stored_at, stored_in, tested_front, type_or_null, unary_front, update_front}
use Rattle.java_control.specs.NullTests.{compared_with_null}
use Rattle.java_control.specs.Owned.{has_place, is_this, is_this_kind, is_this_node, place_of_field}
use Rattle.java_control.specs.Remaining.{Todo, Ev, Act}
use Rattle.control_actions.specs.declared.action.Action.TheVariants as actions
use Rattle.control_actions.specs.declared.action.Operator.{Operator}
use Rattle.control_actions.specs.declared.action.Operator.TheVariants as operators
use Rattle.control_actions.specs.declared.action.Scope.TheVariants as scopes
use Rattle.control_actions.specs.declared.action.TargetForm.{TargetForm}
use Rattle.control_actions.specs.declared.action.TargetForm.TheVariants as forms
use Rattle.control_actions.specs.declared.place.Place.TheVariants as places
use Rattle.step_laws.specs.Targets.{FindsIt, FindsThis, IsStatic, RunsOnThis, below, below_and_at, evaluated}
use Rattle.step_laws.proofs.TargetItems.{evaluations_find, finds_more, in_three, under_next}

-- ---- which body has a `this`

module _ (p : Program) (b : Body) (n : BodyId) (valid : IsValidBody p n b) where
  of_class : (c : ClassId) → HasThis p b c → RunsOnThis p b
  of_class c has = go (method_at p b.method) has
    where
      go : (m : Option Method) → IsSomeAnd m (λ x. (x.class ≡ c) × ((x.kind ≡ methods.Instance) ⊎ (x.kind ≡ methods.Ctor))) → IsSomeAnd m (λ x. (x.kind ≡ methods.Instance) ⊎ (x.kind ≡ methods.Ctor))
      go None has = absurd has
      go (Some x) has = has.1

  of_type : (t : VType) → IsThisType p b t → RunsOnThis p b
  of_type (types.Obj c) is = of_class c is
  of_type (types.Arr k) is = absurd is
  of_type t is = absurd is

  of_kind : (k : ExpressionKind) (t : Option VType) → is_this_kind k ≡ true → IsOfOptionalType p b k t → RunsOnThis p b
  of_kind (expressions.This written) None this is = absurd is
  of_kind (expressions.This written) (Some t) this is = of_type t is
  of_kind (expressions.Literal l) t this is = absurd (true≢false (sym this))
  of_kind k t this is = absurd (true≢false (sym this))

  -- a body in which `this` stands has one
  pub runs_on_this : (e : ExprId) → is_this b e ≡ true → RunsOnThis p b
  runs_on_this e this = go (expression_at b e) refl this
    where
      go : (x : Option TExpr) → expression_at b e ≡ x → is_this_node x ≡ true → RunsOnThis p b
      go None at this = absurd (true≢false (sym this))
      go (Some x) at this = of_kind x.kind x.vtype this (valid.expressions e x at).typed

  -- the rules of types see the same expressions as `this`
  same_kind : (k : ExpressionKind) → is_this_kind k ≡ typing.is_this_kind (Some k)
  same_kind (expressions.This written) = refl
  same_kind (expressions.Literal l) = refl
  same_kind k = refl

  same_this : (e : ExprId) → is_this b e ≡ typing.is_this b e
  same_this e = go (expression_at b e)
    where
      go : (x : Option TExpr) → is_this_node x ≡ typing.is_this_kind (kind_in x)
      go None = refl
      go (Some x) = same_kind x.kind

  -- ---- temps below a depth

  twice : (d : ℕ) (h : ℕ → Type 0) (x : ℕ) → below d h x → below d (below d h) x
  twice d h x under = (under.0, under)

  under_value : (e : ExprId) (d : ℕ) (h : ℕ → Type 0) (x : ℕ) → below d h x → below d (evaluated b e d h) x
  under_value e d h x under = (under.0, inl under)

  -- `this` stands in t(d) below the operands behind it
  this_under : (e : ExprId) (d : ℕ) (h : ℕ → Type 0) → is_this b e ≡ true → below (d + 1) (evaluated b e d h) d
  this_under e d h this = (omega arith, inr (refl, this))

  -- ---- operands

  operands_find : (es : List ExprId) (d : ℕ) (xs k : List Todo) (h : ℕ → Type 0) → FindsThis p b (xs ++ k) (below d h) → FindsThis p b ((evaluations es d ++ xs) ++ k) h
  operands_find es d xs k h finds = in_three p b (evaluations es d) xs k h (evaluations_find p b es d (xs ++ k) h finds)

  computes_find : (o : Operator) (es : List ExprId) (d : ℕ) (pos : Pos) (k : List Todo) (h : ℕ → Type 0) → FindsThis p b k (below d h) → FindsThis p b (computes o es d pos ++ k) h
  computes_find o es d pos k h finds =
      operands_find es d (Act (actions.Op o d (length es)) pos ∷ []) k h (tt, finds_more p b k (below d h) (below d (below d h)) (twice d h) finds)

  -- ---- fields

  get_finds : (e : ExprId) (f : FieldId) (d : ℕ) (h : ℕ → Type 0) (this : Bool) → is_this b e ≡ this → FindsIt p b (actions.Get f d this) (evaluated b e d h)
  get_finds e f d h true is = (inr (refl, is), runs_on_this e is)
  get_finds e f d h false is = tt

  put_finds : (e value : ExprId) (f : FieldId) (d : ℕ) (h : ℕ → Type 0) (this : Bool) → is_this b e ≡ this → FindsIt p b (actions.Put f d this) (evaluated b value (d + 1) (evaluated b e d h))
  put_finds e value f d h true is = (inl (this_under e d h is), runs_on_this e is)
  put_finds e value f d h false is = tt

  read_finds : (e : ExprId) (f : FieldId) (d : ℕ) (pos : Pos) (k : List Todo) (h : ℕ → Type 0) → FindsThis p b k (below d h) → FindsThis p b (field_read p b e f d pos ++ k) h
  read_finds e f d pos k h finds = go (has_place p b e f)
    where
      go : (x : Bool) → FindsThis p b ((if x then Act (actions.Copy (places.Temp d) (place_of_field p f)) pos ∷ [] else (Ev e d ∷ Act (actions.Get f d (is_this b e)) pos ∷ [])) ++ k) h
      go true = (tt, finds)
      go false = (get_finds e f d h (is_this b e) refl, finds_more p b k (below d h) (below d (evaluated b e d h)) (under_value e d h) finds)

  store_finds : (e : ExprId) (f : FieldId) (value : ExprId) (d : ℕ) (pos : Pos) (k : List Todo) (h : ℕ → Type 0) → FindsThis p b k (below d h) → FindsThis p b (field_store p b e f value d pos ++ k) h
  store_finds e f value d pos k h finds = go (has_place p b e f)
    where
      go : (x : Bool) → FindsThis p b ((if x then Ev value d ∷ Act (actions.PutOwn f d) pos ∷ [] else (Ev e d ∷ Ev value (d + 1) ∷ Act (actions.Put f d (is_this b e)) pos ∷ [])) ++ k) h
      go true = (tt, finds_more p b k (below d h) (evaluated b value d h) (λ x under. inl under) finds)
      go false = (
        put_finds e value f d h (is_this b e) refl,
        finds_more p b k (below d h) (below d (evaluated b value (d + 1) (evaluated b e d h))) (λ x under. (under.0, inl (under_next b e d h x under))) finds,
      )

  -- ---- assignments

  assignment_finds : (x : AssignmentTarget) (value : ExprId) (d : ℕ) (pos : Pos) (k : List Todo) (h : ℕ → Type 0) → FindsThis p b k (below d h) → FindsThis p b (assignment_front p b x value d pos ++ k) h
  assignment_finds (targets.Local x) value d pos k h finds = (tt, finds_more p b k (below d h) (evaluated b value d h) (λ y under. inl under) finds)
  assignment_finds (targets.Field e f) value d pos k h finds = store_finds e f value d pos k h finds
  assignment_finds (targets.StaticField f) value d pos k h finds = computes_find (operators.StoreStatic f) (value ∷ []) d pos k h finds
  assignment_finds (targets.Element a i) value d pos k h finds = computes_find operators.StoreElement (a ∷ i ∷ value ∷ []) d pos k h finds

  forget : (d : ℕ) (k : List Todo) (h : ℕ → Type 0) → FindsThis p b k (below d h) → FindsThis p b k h
  forget d k h finds = finds_more p b k (below d h) h (λ x under. under.1) finds

  -- what is stored stands in t(d), and `this` is put there in its place
  stored_finds : (j : ExpressionKind) (t : VType) (d : ℕ) (pos : Pos) (k : List Todo) (h : ℕ → Type 0) → IsOwnPlace p b (Some j) t → FindsThis p b k (below d h) → FindsThis p b (stored_in j d pos ++ k) h
  stored_finds (expressions.Local x) t d pos k h own finds = (tt, forget d k h finds)
  stored_finds (expressions.StaticField f) t d pos k h own finds = (tt, finds)
  stored_finds (expressions.Field e f) t d pos k h own finds = (
    tt,
    (
      tt,
      (
        (inr (refl, tt), runs_on_this e (same_this e ∙ own.0)),
        finds_more p b k (below d h) (below d (below_and_at d (Unit {0}) (below (d + 1) h))) (λ x under. (under.0, inl (under.0, (omega (arith, under.0), under.1)))) finds,
      ),
    ),
  )
  stored_finds (expressions.Literal l) t d pos k h own finds = absurd own
  stored_finds j t d pos k h own finds = absurd own

  stored_find : (e : ExprId) (t : VType) (d : ℕ) (pos : Pos) (k : List Todo) (h : ℕ → Type 0) → IsOwnPlace p b (kind_at b e) t → FindsThis p b k (below d h) → FindsThis p b (stored b e d pos ++ k) h
  stored_find e t d pos k h own finds = go (expression_at b e) own
    where
      go : (x : Option TExpr) → IsOwnPlace p b (kind_in x) t → FindsThis p b (stored_at x d pos ++ k) h
      go None own = absurd own
      go (Some x) own = stored_finds x.kind t d pos k h own finds

  update_finds : (a : OperatorAssignment) (u : Option VType) (t : VType) (d : ℕ) (pos : Pos) (k : List Todo) (h : ℕ → Type 0) → IsOperatorAssignment p b a t → FindsThis p b k (below d h)
      → FindsThis p b (update_front b a u d pos ++ k) h
  update_finds a u t d pos k h is finds =
      in_three p b (computes (operators.Binary a.operator a.operands (type_or_null u)) (a.target ∷ a.value ∷ []) d pos) (stored b a.target d pos) k h
      (computes_find (operators.Binary a.operator a.operands (type_or_null u)) (a.target ∷ a.value ∷ []) d pos (stored b a.target d pos ++ k) h
      (stored_find a.target t d pos k (below d h) is.0 (finds_more p b k (below d h) (below d (below d h)) (twice d h) finds)))

  postfix_finds : (a : OperatorAssignment) (u : Option VType) (t : VType) (d : ℕ) (pos : Pos) (k : List Todo) (h : ℕ → Type 0) → IsOperatorAssignment p b a t → FindsThis p b k (below d h)
      → FindsThis p b (postfix_front b a u d pos ++ k) h
  postfix_finds a u t d pos k h is finds =
      in_three p b (Ev a.target d ∷ operation ++ store) drop k h
      (in_three p b (Ev a.target d ∷ operation) store (drop ++ k) h
      (computes_find (operators.Binary a.operator a.operands (type_or_null u)) (a.target ∷ a.value ∷ []) (d + 1) pos (store ++ (drop ++ k)) value
      (stored_find a.target t (d + 1) pos (drop ++ k) (below (d + 1) value) is.0 (
        tt,
        finds_more p b k (below d h) (below (d + 1) (below (d + 1) (below (d + 1) value)))
            (λ x under. let deep : x < d + 1 = omega (arith, under.0) in (deep, (deep, under_next b a.target d h x under))) finds,
      ))))
    where
      operation : List Todo
      operation = computes (operators.Binary a.operator a.operands (type_or_null u)) (a.target ∷ a.value ∷ []) (d + 1) pos

      store : List Todo
      store = stored b a.target (d + 1) pos

      drop : List Todo
      drop = Act (actions.Drop (scopes.Temp (d + 1))) pos ∷ []

      value : ℕ → Type 0
      value = evaluated b a.target d h

  -- ---- calls

  -- a call whose target is evaluated first
  target_finds : (m : MethodId) (e : ExprId) (es : List ExprId) (form : TargetForm) (d : ℕ) (pos : Pos) (k : List Todo) (h : ℕ → Type 0)
      → FindsIt p b (actions.Call m d (length es + 1) form) (below (d + 1) (evaluated b e d h)) → FindsThis p b k (below d h)
      → FindsThis p b ((Ev e d ∷ evaluations es (d + 1) ++ Act (actions.Call m d (length es + 1) form) pos ∷ []) ++ k) h
  target_finds m e es form d pos k h target finds =
      operands_find es (d + 1) (Act (actions.Call m d (length es + 1) form) pos ∷ []) k (evaluated b e d h)
      (target, finds_more p b k (below d h) (below d (below (d + 1) (evaluated b e d h))) (λ x under. (under.0, under_next b e d h x under)) finds)

  static_method : (x : Option Method) (es : List ExprId) (t : Option VType)
      → IsSomeAnd x (λ m. IsCallTarget p b calls.Static m × AreArguments p b es m.sig.params.items × (m.sig.result ≡ t)) → IsStatic x
  static_method None es t is = absurd is
  static_method (Some x) es t is = is.0

  this_target : (x : Option Method) (e : ExprId) (es : List ExprId) (t : Option VType)
      → IsSomeAnd x (λ m. IsCallTarget p b (calls.This e) m × AreArguments p b es m.sig.params.items × (m.sig.result ≡ t)) → is_this b e ≡ true
  this_target None e es t is = absurd is
  this_target (Some x) e es t is = same_this e ∙ is.0.1

  super_target : (x : Option Method) (e : ExprId) (es : List ExprId) (t : Option VType)
      → IsSomeAnd x (λ m. IsCallTarget p b (calls.Super e) m × AreArguments p b es m.sig.params.items × (m.sig.result ≡ t)) → is_this b e ≡ true
  super_target None e es t is = absurd is
  super_target (Some x) e es t is = same_this e ∙ is.0.1

  call_finds : (m : MethodId) (es : List ExprId) (c : CallTarget) (t : Option VType) (d : ℕ) (pos : Pos) (k : List Todo) (h : ℕ → Type 0)
      → IsSomeAnd (method_at p m) (λ x. IsCallTarget p b c x × AreArguments p b es x.sig.params.items × (x.sig.result ≡ t)) → FindsThis p b k (below d h)
      → FindsThis p b (call_with m es c d pos ++ k) h
  call_finds m es calls.Static t d pos k h is finds =
      operands_find es d (Act (actions.Call m d (length es) forms.Static) pos ∷ []) k h
      (static_method (method_at p m) es t is, finds_more p b k (below d h) (below d (below d h)) (twice d h) finds)
  call_finds m es (calls.This e) t d pos k h is finds =
      let this = this_target (method_at p m) e es t is in
      target_finds m e es forms.This d pos k h (this_under e d h this, runs_on_this e this, omega arith) finds
  call_finds m es (calls.Super e) t d pos k h is finds =
      let this = super_target (method_at p m) e es t is in
      target_finds m e es forms.Super d pos k h (this_under e d h this, runs_on_this e this, omega arith) finds
  call_finds m es (calls.Other e) t d pos k h is finds = target_finds m e es forms.Other d pos k h tt finds

  new_finds : (x : NewObject) (d : ℕ) (pos : Pos) (k : List Todo) (h : ℕ → Type 0) → FindsThis p b k (below d h) → FindsThis p b (new_front x d pos ++ k) h
  new_finds x d pos k h finds =
      operands_find x.arguments.items (d + 1) (Act (actions.New x.constructor d (length x.arguments.items)) pos ∷ []) k h
      (tt, finds_more p b k (below d h) (below d (below (d + 1) h)) (λ y under. (under.0, (omega (arith, under.0), under.1))) finds)

  -- ---- operators

  tested_finds : (e : ExprId) (d : ℕ) (pos : Pos) (k : List Todo) (h : ℕ → Type 0) → FindsThis p b k (below d h) → FindsThis p b (tested_front e d pos ++ k) h
  tested_finds e d pos k h finds = let rest = finds_more p b k (below d h) (below d (below d h)) (twice d h) finds in ((tt, rest), (tt, rest))

  unary_finds : (o : UnaryOperator) (x e : ExprId) (t : Option VType) (d : ℕ) (pos : Pos) (k : List Todo) (h : ℕ → Type 0) → FindsThis p b k (below d h) → FindsThis p b (unary_front o x e t d pos ++ k) h
  unary_finds unary.Not x e t d pos k h finds = tested_finds e d pos k h finds
  unary_finds o x e t d pos k h finds = computes_find (operators.Unary o (type_or_null t)) (x ∷ []) d pos k h finds

  value_finds : (x : BinaryExpression) (t : Option VType) (d : ℕ) (pos : Pos) (k : List Todo) (h : ℕ → Type 0) → FindsThis p b k (below d h)
      → FindsThis p b (computes (operators.Binary x.operator x.operands (type_or_null t)) (x.left ∷ x.right ∷ []) d pos ++ k) h
  value_finds x t d pos k h finds = computes_find (operators.Binary x.operator x.operands (type_or_null t)) (x.left ∷ x.right ∷ []) d pos k h finds

  comparison_finds : (y : Option ExprId) (x : BinaryExpression) (e : ExprId) (t : Option VType) (d : ℕ) (pos : Pos) (k : List Todo) (h : ℕ → Type 0) → FindsThis p b k (below d h)
      → FindsThis p b (comparison_front y x e t d pos ++ k) h
  comparison_finds (Some y) x e t d pos k h finds = tested_finds e d pos k h finds
  comparison_finds None x e t d pos k h finds = value_finds x t d pos k h finds

  binary_finds : (o : BinaryOperator) (x : BinaryExpression) (e : ExprId) (t : Option VType) (d : ℕ) (pos : Pos) (k : List Todo) (h : ℕ → Type 0) → FindsThis p b k (below d h)
      → FindsThis p b (binary_front o x b e t d pos ++ k) h
  binary_finds binary.ConditionalAnd x e t d pos k h finds = tested_finds e d pos k h finds
  binary_finds binary.ConditionalOr x e t d pos k h finds = tested_finds e d pos k h finds
  binary_finds binary.Equal x e t d pos k h finds = comparison_finds (compared_with_null b x) x e t d pos k h finds
  binary_finds binary.NotEqual x e t d pos k h finds = comparison_finds (compared_with_null b x) x e t d pos k h finds
  binary_finds o x e t d pos k h finds = value_finds x t d pos k h finds

  -- ---- expressions

  -- any but `this` leaves no `this` in t(d)
  not_this : (e : ExprId) (d : ℕ) (k : List Todo) (h : ℕ → Type 0) → is_this b e ≡ false → FindsThis p b k (evaluated b e d h) → FindsThis p b k (below d h)
  not_this e d k h other finds = finds_more p b k (evaluated b e d h) (below d h) go finds
    where
      go : (x : ℕ) → evaluated b e d h x → below d h x
      go x (inl under) = under
      go x (inr same) = absurd (true≢false (sym same.1 ∙ other))

  this_finds : (e : ExprId) (d : ℕ) (k : List Todo) (h : ℕ → Type 0) → FindsThis p b k (evaluated b e d h) → FindsThis p b k (below_and_at d (Unit {0}) h)
  this_finds e d k h finds = finds_more p b k (evaluated b e d h) (below_and_at d (Unit {0}) h) go finds
    where
      go : (x : ℕ) → evaluated b e d h x → below_and_at d (Unit {0}) h x
      go x (inl under) = inl under
      go x (inr same) = inr (same.0, tt)

  -- of a type, or a call of none
  pub expression_finds : (j : ExpressionKind) (e : ExprId) (t : Option VType) (d : ℕ) (pos : Pos) (k : List Todo) (h : ℕ → Type 0) → is_this b e ≡ is_this_kind j → IsOfOptionalType p b j t
      → FindsThis p b k (evaluated b e d h) → FindsThis p b (expression_front j p b e t d pos ++ k) h
  expression_finds (expressions.This written) e t d pos k h same is finds = (tt, this_finds e d k h finds)
  expression_finds (expressions.Call c) e t d pos k h same is finds = call_finds c.method c.arguments.items c.target t d pos k h (call_of t is) (not_this e d k h same finds)
    where
      call_of : (t : Option VType) → IsOfOptionalType p b (expressions.Call c) t → IsCall p b c t
      call_of None is = is
      call_of (Some t) is = is
  expression_finds (expressions.Literal l) e t d pos k h same is finds = (tt, not_this e d k h same finds)
  expression_finds j e None d pos k h same is finds = absurd is
  expression_finds (expressions.Local x) e (Some t) d pos k h same is finds = (tt, not_this e d k h same finds)
  expression_finds (expressions.Field x f) e (Some t) d pos k h same is finds = read_finds x f d pos k h (not_this e d k h same finds)
  expression_finds (expressions.StaticField f) e (Some t) d pos k h same is finds = (tt, not_this e d k h same finds)
  expression_finds (expressions.LibraryConstant m) e (Some t) d pos k h same is finds = (tt, not_this e d k h same finds)
  expression_finds (expressions.Unary o x) e (Some t) d pos k h same is finds = unary_finds o x e (Some t) d pos k h (not_this e d k h same finds)
  expression_finds (expressions.Binary x) e (Some t) d pos k h same is finds = binary_finds x.operator x e (Some t) d pos k h (not_this e d k h same finds)
  expression_finds (expressions.Conditional c x y) e (Some t) d pos k h same is finds =
      let rest = not_this e d k h same finds in
      (finds_more p b k (below d h) (evaluated b x d (below d h)) (λ z under. inl (under.0, under)) rest, finds_more p b k (below d h) (evaluated b y d (below d h)) (λ z under. inl (under.0, under)) rest)
  expression_finds (expressions.InstanceOf x tested) e (Some t) d pos k h same is finds = computes_find (operators.InstanceOf tested) (x ∷ []) d pos k h (not_this e d k h same finds)
  expression_finds (expressions.PrimitiveCast x) e (Some t) d pos k h same is finds = computes_find (operators.Convert t) (x ∷ []) d pos k h (not_this e d k h same finds)
  expression_finds (expressions.ReferenceCast x) e (Some t) d pos k h same is finds =
      (tt, finds_more p b k (below d h) (below d (evaluated b x d h)) (under_value x d h) (not_this e d k h same finds))
  expression_finds (expressions.Assignment x value) e (Some t) d pos k h same is finds = assignment_finds x value d pos k h (not_this e d k h same finds)
  expression_finds (expressions.OperatorAssignment a) e (Some t) d pos k h same is finds = update_finds a (Some t) t d pos k h is (not_this e d k h same finds)
  expression_finds (expressions.PostfixStep a) e (Some t) d pos k h same is finds = postfix_finds a (Some t) t d pos k h is.2 (not_this e d k h same finds)
  expression_finds (expressions.NewObject x) e (Some t) d pos k h same is finds = new_finds x d pos k h (not_this e d k h same finds)
  expression_finds (expressions.NewArray x) e (Some t) d pos k h same is finds = computes_find (operators.NewArray t) (x ∷ []) d pos k h (not_this e d k h same finds)
  expression_finds (expressions.Element a i) e (Some t) d pos k h same is finds = computes_find operators.Element (a ∷ i ∷ []) d pos k h (not_this e d k h same finds)
  expression_finds (expressions.Length a) e (Some t) d pos k h same is finds = computes_find operators.Length (a ∷ []) d pos k h (not_this e d k h same finds)
