-- What an expression of a valid program becomes finds the values that it asks, where what follows the expression does.
use Rattle.std.proofs.Common.{◌≡◌, ℕ, ◌+◌, ◌<◌, Bool, true, false, Option, Some, None, List, [], ◌∷◌, ◌++◌, IsSomeAnd, length, inl, inr, refl, sym, subst, arith, if◌then◌else◌}
use Rattle.program_model.specs.declared.kinds.BinaryOperator.{BinaryOperator}
use Rattle.program_model.specs.declared.kinds.BinaryOperator.TheVariants as binary
use Rattle.program_model.specs.declared.kinds.ExprId.{ExprId}
use Rattle.program_model.specs.declared.kinds.ClassId.{ClassId}
use Rattle.program_model.specs.declared.kinds.FieldId.{FieldId}
use Rattle.program_model.specs.declared.kinds.MethodId.{MethodId}
use Rattle.program_model.specs.declared.kinds.MethodKind.TheVariants as methods
use Rattle.program_model.specs.declared.kinds.UnaryOperator.{UnaryOperator}
use Rattle.program_model.specs.declared.kinds.UnaryOperator.TheVariants as unary
use Rattle.program_model.specs.declared.kinds.VType.{VType}
use Rattle.program_model.specs.declared.program.Method.{Method}
use Rattle.program_model.specs.declared.program.ParamSig.{ParamSig}
use Rattle.program_model.specs.declared.program.Program.{Program}
use Rattle.program_model.specs.declared.tree.AssignmentTarget.{AssignmentTarget}
use Rattle.program_model.specs.declared.tree.AssignmentTarget.TheVariants as targets
use Rattle.program_model.specs.declared.tree.BinaryExpression.{BinaryExpression}
use Rattle.program_model.specs.declared.tree.Body.{Body}
use Rattle.program_model.specs.declared.tree.CallTarget.{CallTarget}
use Rattle.program_model.specs.declared.tree.CallTarget.TheVariants as calls
use Rattle.program_model.specs.declared.tree.ExpressionKind.{ExpressionKind}
use Rattle.program_model.specs.declared.tree.ExpressionKind.TheVariants as expressions
use Rattle.program_model.specs.declared.tree.NewObject.{NewObject}
use Rattle.program_model.specs.declared.tree.OperatorAssignment.{OperatorAssignment}
use Rattle.program_model.specs.declared.tree.TExpr.{TExpr}
use Rattle.program_model.specs.Lookups.{expression_at, method_at, type_at, variable_type}
use Rattle.program_model.specs.Typing.{AreArguments, IsCall, IsCallTarget, IsConstruction, IsOfOptionalType, IsOperatorAssignment, IsOwnPlace, IsTarget, kind_at, kind_in}
use Rattle.program_model.specs.Typing as typing
use Rattle.program_model.specs.Validity.{IsTypedProgram, is_class_type}
use Rattle.rlc_base.specs.declared.place.Pos.{Pos}
use Rattle.java_control.specs.Expressions.{assignment_front, binary_front, call_with, comparison_front, computes, evaluations, expression_front, field_read, field_store, new_front, postfix_front, stored, stored_at, stored_in, tested_front, type_or_null, unary_front, update_front}
use Rattle.java_control.specs.NullTests.{compared_with_null}
use Rattle.java_control.specs.Owned.{declares_field, field_number, has_place, is_owning, is_this, place_of_field}
use Rattle.java_control.specs.Remaining.{Todo, Ev, Act}
use Rattle.control_actions.specs.declared.action.Action.TheVariants as actions
use Rattle.control_actions.specs.declared.action.Operator.{Operator}
use Rattle.control_actions.specs.declared.action.Operator.TheVariants as operators
use Rattle.control_actions.specs.declared.action.Scope.TheVariants as scopes
use Rattle.control_actions.specs.declared.action.TargetForm.{TargetForm}
use Rattle.control_actions.specs.declared.action.TargetForm.TheVariants as forms
use Rattle.control_actions.specs.declared.place.Place.TheVariants as places
use Rattle.step_laws.specs.Operands.{FindsAside, FindsTypes, HasNoObjectAt, MakesText, NoObject, OperandsFit, TakesAll, below, below_and_at, evaluated, field_type, first_argument, params_of, put_at, result_of}
use Rattle.step_laws.proofs.TypeItems.{Within, all_evaluated, evaluations_find, evaluations_past, finds_more, in_three, past_more, past_three, under_all, under_next}
use Rattle.step_laws.proofs.OperandTypes.{constant_object, element_none, fits_none, instance_type, new_text, postfix_none, primitive_none, static_none, this_object}

-- ---- temps

pub twice : (d : ℕ) (h : ℕ → Type 0) → Within (below d h) (below d (below d h))
twice d h x under = (under.0, under)

pub at_more : (d : ℕ) (P Q : Type 0) (h g : ℕ → Type 0) → (P → Q) → Within (below d h) g → Within (below_and_at d P h) (below_and_at d Q g)
at_more d P Q h g so more x (inl under) = inl (under.0, more x under)
at_more d P Q h g so more x (inr same) = inr (same.0, so same.1)

put_more : (d : ℕ) (P Q : Type 0) (h g : ℕ → Type 0) → (P → Q) → Within (below d h) g → Within (below_and_at d P h) (put_at d Q g)
put_more d P Q h g so more x (inl under) = inl (λ same. (let never : ⊥ = omega (arith, under.0, same) in never), more x under)
put_more d P Q h g so more x (inr same) = inr (same.0, so same.1)

under_value : (b : Body) (e : ExprId) (d : ℕ) (h : ℕ → Type 0) → Within (below d h) (evaluated b e d h)
under_value b e d h x under = inl under

below_more : (d : ℕ) (h g : ℕ → Type 0) → Within (below d h) g → Within (below d h) (below d g)
below_more d h g more x under = (under.0, more x under)

deeper : (d : ℕ) → d < d + 1
deeper d = omega arith

other : (d : ℕ) → d + 1 ≡ d → ⊥
other d same = (let never : ⊥ = omega (arith, same) in never)

module _ (p : Program) (typed : IsTypedProgram p) (b : Body) where
  -- ---- what follows

  gives : (k : List Todo) (d : ℕ) (P Q : Type 0) (h g : ℕ → Type 0) → (P → Q) → Within (below d h) g → FindsTypes p b k (below_and_at d P h) → FindsTypes p b k (below_and_at d Q g)
  gives k d P Q h g so more finds = finds_more p b k (below_and_at d P h) (below_and_at d Q g) (at_more d P Q h g so more) finds

  puts : (k : List Todo) (d : ℕ) (P Q : Type 0) (h g : ℕ → Type 0) → (P → Q) → Within (below d h) g → FindsTypes p b k (below_and_at d P h) → FindsTypes p b k (put_at d Q g)
  puts k d P Q h g so more finds = finds_more p b k (below_and_at d P h) (put_at d Q g) (put_more d P Q h g so more) finds

  past_in : (k : List Todo) (d : ℕ) (h g : ℕ → Type 0) → Within (below d h) g → FindsAside p b k (below d h) → FindsAside p b k (below d g)
  past_in k d h g more past = past_more p b k (below d h) (below d g) (below_more d h g more) past

  past_next : (k : List Todo) (e : ExprId) (d : ℕ) (h : ℕ → Type 0) → FindsAside p b k (below d h) → FindsAside p b k (below (d + 1) (evaluated b e d h))
  past_next k e d h past = past_more p b k (below d h) (below (d + 1) (evaluated b e d h)) (under_next p b e d h) past

  -- ---- operands

  operands_find : (es : List ExprId) (d : ℕ) (xs k : List Todo) (h : ℕ → Type 0) → FindsTypes p b (xs ++ k) (all_evaluated p b es d h) → FindsAside p b (xs ++ k) (below d h) → FindsTypes p b ((evaluations es d ++ xs) ++ k) h
  operands_find es d xs k h finds past = in_three p b (evaluations es d) xs k h (evaluations_find p b es d (xs ++ k) h finds past)

  operands_past : (es : List ExprId) (d : ℕ) (xs k : List Todo) (h : ℕ → Type 0) → FindsAside p b (xs ++ k) h → FindsAside p b ((evaluations es d ++ xs) ++ k) h
  operands_past es d xs k h past = past_three p b (evaluations es d) xs k h (evaluations_past p b es d (xs ++ k) h past)

  computes_find : (o : Operator) (es : List ExprId) (d : ℕ) (pos : Pos) (k : List Todo) (h : ℕ → Type 0) → OperandsFit o d (all_evaluated p b es d h) → FindsTypes p b k (below_and_at d (Unit {0}) h) → FindsAside p b k (below d h)
      → FindsTypes p b (computes o es d pos ++ k) h
  computes_find o es d pos k h fits finds past =
      operands_find es d (Act (actions.Op o d (length es)) pos ∷ []) k h
      (fits, gives k d (Unit {0}) (Unit {0}) h (all_evaluated p b es d h) (λ is. is) (under_all p b es d h) finds, past_in k d h (all_evaluated p b es d h) (under_all p b es d h) past) past

  -- ---- fields

  read_finds : (e : ExprId) (f : FieldId) (t : VType) (d : ℕ) (pos : Pos) (k : List Todo) (h : ℕ → Type 0) → field_type p f ≡ Some t → FindsTypes p b k (below_and_at d (NoObject (Some t)) h) → FindsAside p b k (below d h)
      → FindsTypes p b (field_read p b e f d pos ++ k) h
  read_finds e f t d pos k h is finds past = go (is_this b e) (is_owning p f) (declares_field p b f) refl refl
    where
      is_none : NoObject (Some t) → NoObject (field_type p f)
      is_none none = subst NoObject (sym is) none

      got : FindsTypes p b (Ev e d ∷ Act (actions.Get f d (is_this b e)) pos ∷ k) h
      got = ((tt, gives k d (NoObject (Some t)) (NoObject (field_type p f)) h (evaluated b e d h) is_none (under_value b e d h) finds, past_in k d h (evaluated b e d h) (under_value b e d h) past), past)

      go : (x y z : Bool) → is_owning p f ≡ y → declares_field p b f ≡ z
          → FindsTypes p b ((if (if x then (if y then z else false) else false) then Act (actions.Copy (places.Temp d) (place_of_field p f)) pos ∷ [] else (Ev e d ∷ Act (actions.Get f d (is_this b e)) pos ∷ [])) ++ k) h
      go true true true owning declared = (
        tt,
        puts k d (NoObject (Some t)) (HasNoObjectAt p b (field_number p f)) h h (λ none. record { field = f; place = refl; owning = owning; declared = declared; kind = is_none none }) (λ x under. under.1) finds,
        tt,
      )
      go true true false owning declared = got
      go true false z owning declared = got
      go false y z owning declared = got

  store_finds : (e : ExprId) (f : FieldId) (value : ExprId) (t : VType) (d : ℕ) (pos : Pos) (k : List Todo) (h : ℕ → Type 0) → field_type p f ≡ Some t → typing.Fits p b value t
      → FindsTypes p b k (below_and_at d (NoObject (Some t)) h) → FindsAside p b k (below d h) → FindsTypes p b (field_store p b e f value d pos ++ k) h
  store_finds e f value t d pos k h is fits finds past = go (has_place p b e f)
    where
      value_none : NoObject (Some t) → NoObject (type_at b value)
      value_none none = fits_none p b value t fits none

      takes_none : NoObject (field_type p f) → NoObject (type_at b value)
      takes_none none = value_none (subst NoObject is none)

      both : ℕ → Type 0
      both = evaluated b value (d + 1) (evaluated b e d h)

      under_both : Within (below d h) both
      under_both x under = inl (under_next p b e d h x under)

      go : (x : Bool) → FindsTypes p b ((if x then Ev value d ∷ Act (actions.PutOwn f d) pos ∷ [] else (Ev e d ∷ Ev value (d + 1) ∷ Act (actions.Put f d (is_this b e)) pos ∷ [])) ++ k) h
      go true = ((λ none. inr (refl, takes_none none), gives k d (NoObject (Some t)) (NoObject (type_at b value)) h h value_none (λ x under. under.1) finds, tt), past)
      go false = (
        (
          (λ none. inr (refl, takes_none none), gives k d (NoObject (Some t)) (both (d + 1)) h both (λ none. inr (refl, value_none none)) under_both finds, past_in k d h both under_both past),
          past_next k e d h past,
        ),
        past,
      )

  -- ---- assignments

  assignment_finds : (x : AssignmentTarget) (value : ExprId) (t : VType) (d : ℕ) (pos : Pos) (k : List Todo) (h : ℕ → Type 0) → IsTarget p b x t → typing.Fits p b value t
      → FindsTypes p b k (below_and_at d (NoObject (Some t)) h) → FindsAside p b k (below d h) → FindsTypes p b (assignment_front p b x value d pos ++ k) h
  assignment_finds (targets.Local x) value t d pos k h is fits finds past =
      ((λ none. inr (refl, fits_none p b value t fits (subst NoObject is none)), gives k d (NoObject (Some t)) (NoObject (type_at b value)) h h (λ none. fits_none p b value t fits none) (λ x under. under.1) finds, tt), past)
  assignment_finds (targets.Field e f) value t d pos k h is fits finds past = store_finds e f value t d pos k h (instance_type p b e f t is) fits finds past
  assignment_finds (targets.StaticField f) value t d pos k h is fits finds past =
      let none : is_class_type t ≡ false = static_none p typed f t is in
      computes_find (operators.StoreStatic f) (value ∷ []) d pos k h (inr (refl, fits_none p b value t fits none)) (gives k d (NoObject (Some t)) (Unit {0}) h h (λ none. tt) (λ x under. under.1) finds) past
  assignment_finds (targets.Element a i) value t d pos k h is fits finds past =
      let none : is_class_type t ≡ false = element_none b a i t is in
      computes_find operators.StoreElement (a ∷ i ∷ value ∷ []) d pos k h (inr (omega arith, fits_none p b value t fits none)) (gives k d (NoObject (Some t)) (Unit {0}) h h (λ none. tt) (λ x under. under.1) finds) past

  -- what is stored stands in t(d), and is no object
  module _ (d : ℕ) (pos : Pos) (k : List Todo) (g : ℕ → Type 0) where
    abbrev stored_here : ℕ → Type 0
    stored_here = below_and_at d (Unit {0}) g

    abbrev aside_copy : ℕ → Type 0
    aside_copy = put_at (d + 1) (stored_here d) stored_here

    abbrev both_copied : ℕ → Type 0
    both_copied = put_at d ⊥ aside_copy

    under_copies : Within (below d g) both_copied
    under_copies x under =
        inl (λ same. (let never : ⊥ = omega (arith, under.0, same) in never), inl (λ same. (let never : ⊥ = omega (arith, under.0, same) in never), inl under))

    copy_none : both_copied (d + 1)
    copy_none = inl (other d, inr (refl, inr (refl, tt)))

    stored_finds : (j : ExpressionKind) (t : VType) → IsOwnPlace p b (Some j) t → FindsTypes p b k stored_here → FindsAside p b k (below d g) → FindsTypes p b (stored_in j d pos ++ k) stored_here
    stored_finds (expressions.Local x) t own finds past = (λ none. inr (refl, tt), finds, tt)
    stored_finds (expressions.StaticField f) t own finds past =
        (inr (refl, tt), gives k d (Unit {0}) (Unit {0}) g stored_here (λ is. is) (λ x under. inl under) finds, past_in k d g stored_here (λ x under. inl under) past)
    stored_finds (expressions.Field e f) t own finds past = (
      tt,
      (tt, (λ none. copy_none, gives k d (Unit {0}) (both_copied (d + 1)) g both_copied (λ is. copy_none) under_copies finds, past_in k d g both_copied under_copies past), tt),
      tt,
    )
    stored_finds (expressions.Literal l) t own finds past = absurd own
    stored_finds j t own finds past = absurd own

    stored_past : (j : ExpressionKind) (h : ℕ → Type 0) → FindsAside p b k h → FindsAside p b (stored_in j d pos ++ k) h
    stored_past (expressions.Local x) h past = past
    stored_past (expressions.StaticField f) h past = past
    stored_past (expressions.Field e f) h past = past
    stored_past (expressions.Literal l) h past = past
    stored_past j h past = past

    stored_find : (e : ExprId) (t : VType) → IsOwnPlace p b (kind_at b e) t → FindsTypes p b k stored_here → FindsAside p b k (below d g) → FindsTypes p b (stored b e d pos ++ k) stored_here
    stored_find e t own finds past = go (expression_at b e) own
      where
        go : (x : Option TExpr) → IsOwnPlace p b (kind_in x) t → FindsTypes p b (stored_at x d pos ++ k) stored_here
        go None own = absurd own
        go (Some x) own = stored_finds x.kind t own finds past

    stored_passed : (e : ExprId) (h : ℕ → Type 0) → FindsAside p b k h → FindsAside p b (stored b e d pos ++ k) h
    stored_passed e h past = go (expression_at b e)
      where
        go : (x : Option TExpr) → FindsAside p b (stored_at x d pos ++ k) h
        go None = past
        go (Some x) = stored_past x.kind h past

  update_finds : (a : OperatorAssignment) (u : Option VType) (t : VType) (d : ℕ) (pos : Pos) (k : List Todo) (h : ℕ → Type 0) → IsOperatorAssignment p b a t → FindsTypes p b k (below_and_at d (Unit {0}) h) → FindsAside p b k (below d h)
      → FindsTypes p b (update_front b a u d pos ++ k) h
  update_finds a u t d pos k h is finds past =
      in_three p b (computes (operators.Binary a.operator a.operands (type_or_null u)) (a.target ∷ a.value ∷ []) d pos) (stored b a.target d pos) k h
      (computes_find (operators.Binary a.operator a.operands (type_or_null u)) (a.target ∷ a.value ∷ []) d pos (stored b a.target d pos ++ k) h tt
      (stored_find d pos k h a.target t is.0 finds past) (stored_passed d pos k h a.target (below d h) past))

  postfix_finds : (a : OperatorAssignment) (u : Option VType) (t : VType) (d : ℕ) (pos : Pos) (k : List Todo) (h : ℕ → Type 0) → IsOperatorAssignment p b a t → NoObject (type_at b a.target)
      → FindsTypes p b k (below_and_at d (Unit {0}) h) → FindsAside p b k (below d h) → FindsTypes p b (postfix_front b a u d pos ++ k) h
  postfix_finds a u t d pos k h is target finds past =
      in_three p b (Ev a.target d ∷ operation ++ store) drop k h
      (in_three p b (Ev a.target d ∷ operation) store (drop ++ k) h (
        computes_find (operators.Binary a.operator a.operands (type_or_null u)) (a.target ∷ a.value ∷ []) (d + 1) pos (store ++ (drop ++ k)) value tt
            (stored_find (d + 1) pos (drop ++ k) value a.target t is.0 (
              tt,
              finds_more p b k (below_and_at d (Unit {0}) h) (below (d + 1) (below_and_at (d + 1) (Unit {0}) value)) kept finds,
              tt,
            ) (past_next k a.target d h past))
            (stored_passed (d + 1) pos (drop ++ k) value a.target (below (d + 1) value) (past_next k a.target d h past)),
        operation_past (stored_passed (d + 1) pos (drop ++ k) value a.target (below d h) past),
      ))
    where
      operation : List Todo
      operation = computes (operators.Binary a.operator a.operands (type_or_null u)) (a.target ∷ a.value ∷ []) (d + 1) pos

      store : List Todo
      store = stored b a.target (d + 1) pos

      drop : List Todo
      drop = Act (actions.Drop (scopes.Temp (d + 1))) pos ∷ []

      value : ℕ → Type 0
      value = evaluated b a.target d h

      operation_past : FindsAside p b (store ++ (drop ++ k)) (below d h) → FindsAside p b (operation ++ (store ++ (drop ++ k))) (below d h)
      operation_past past = past

      kept : Within (below_and_at d (Unit {0}) h) (below (d + 1) (below_and_at (d + 1) (Unit {0}) value))
      kept x (inl under) = let deep : x < d + 1 = omega (arith, under.0) in (deep, inl (deep, inl under))
      kept x (inr same) = let deep : x < d + 1 = omega (arith, same.0) in (deep, inl (deep, inr (same.0, target)))

  -- ---- calls

  pub arguments_taken : (es : List ExprId) (xs : List ParamSig) (d : ℕ) (h : ℕ → Type 0) → AreArguments p b es xs → TakesAll xs d (all_evaluated p b es d h)
  arguments_taken [] [] d h are = tt
  arguments_taken [] (x ∷ xs) d h are = absurd are
  arguments_taken (e ∷ es) [] d h are = absurd are
  arguments_taken (e ∷ es) (x ∷ xs) d h are =
      (λ none. under_all p b es (d + 1) (evaluated b e d h) d (deeper d, inr (refl, fits_none p b e x.vtype are.0 none)), arguments_taken es xs (d + 1) (evaluated b e d h) are.1)

  call_parts : (m : Option Method) (c : CallTarget) (es : List ExprId) (t : Option VType) (d : ℕ) (h : ℕ → Type 0) → IsSomeAnd m (λ x. IsCallTarget p b c x × AreArguments p b es x.sig.params.items × (x.sig.result ≡ t))
      → TakesAll (params_of m) d (all_evaluated p b es d h) × (NoObject t → NoObject (result_of m))
  call_parts None c es t d h is = absurd is
  call_parts (Some x) c es t d h is = (arguments_taken es x.sig.params.items d h is.1, λ none. subst NoObject (sym is.2) none)

  -- a call whose target is evaluated first
  target_finds : (m : MethodId) (e : ExprId) (es : List ExprId) (form : TargetForm) (t : Option VType) (d : ℕ) (pos : Pos) (k : List Todo) (h : ℕ → Type 0)
      → TakesAll (params_of (method_at p m)) (first_argument form d) (all_evaluated p b es (d + 1) (evaluated b e d h)) → (NoObject t → NoObject (result_of (method_at p m)))
      → FindsTypes p b k (below_and_at d (NoObject t) h) → FindsAside p b k (below d h)
      → FindsTypes p b ((Ev e d ∷ evaluations es (d + 1) ++ Act (actions.Call m d (length es + 1) form) pos ∷ []) ++ k) h
  target_finds m e es form t d pos k h takes result finds past = (
    operands_find es (d + 1) (Act (actions.Call m d (length es + 1) form) pos ∷ []) k (evaluated b e d h)
        (takes, gives k d (NoObject t) (NoObject (result_of (method_at p m))) h all result under finds, past_in k d h all under past) (past_next k e d h past),
    operands_past es (d + 1) (Act (actions.Call m d (length es + 1) form) pos ∷ []) k (below d h) past,
  )
    where
      all : ℕ → Type 0
      all = all_evaluated p b es (d + 1) (evaluated b e d h)

      under : Within (below d h) all
      under x low = under_all p b es (d + 1) (evaluated b e d h) x (under_next p b e d h x low)

  call_finds : (m : MethodId) (es : List ExprId) (c : CallTarget) (t : Option VType) (d : ℕ) (pos : Pos) (k : List Todo) (h : ℕ → Type 0)
      → IsSomeAnd (method_at p m) (λ x. IsCallTarget p b c x × AreArguments p b es x.sig.params.items × (x.sig.result ≡ t)) → FindsTypes p b k (below_and_at d (NoObject t) h) → FindsAside p b k (below d h)
      → FindsTypes p b (call_with m es c d pos ++ k) h
  call_finds m es calls.Static t d pos k h is finds past =
      let parts = call_parts (method_at p m) calls.Static es t d h is in
      operands_find es d (Act (actions.Call m d (length es) forms.Static) pos ∷ []) k h
      (parts.0, gives k d (NoObject t) (NoObject (result_of (method_at p m))) h (all_evaluated p b es d h) parts.1 (under_all p b es d h) finds, past_in k d h (all_evaluated p b es d h) (under_all p b es d h) past) past
  call_finds m es (calls.This e) t d pos k h is finds past =
      let parts = call_parts (method_at p m) (calls.This e) es t (d + 1) (evaluated b e d h) is in target_finds m e es forms.This t d pos k h parts.0 parts.1 finds past
  call_finds m es (calls.Super e) t d pos k h is finds past =
      let parts = call_parts (method_at p m) (calls.Super e) es t (d + 1) (evaluated b e d h) is in target_finds m e es forms.Super t d pos k h parts.0 parts.1 finds past
  call_finds m es (calls.Other e) t d pos k h is finds past =
      let parts = call_parts (method_at p m) (calls.Other e) es t (d + 1) (evaluated b e d h) is in target_finds m e es forms.Other t d pos k h parts.0 parts.1 finds past

  pub construction_takes : (m : MethodId) (c : ClassId) (es : List ExprId) (d : ℕ) (h : ℕ → Type 0) → IsConstruction p b c m es → TakesAll (params_of (method_at p m)) d (all_evaluated p b es d h)
  construction_takes m c es d h is = go (method_at p m) is
    where
      go : (x : Option Method) → IsSomeAnd x (λ x. (x.kind ≡ methods.Ctor) × (x.class ≡ c) × AreArguments p b es x.sig.params.items) → TakesAll (params_of x) d (all_evaluated p b es d h)
      go None is = absurd is
      go (Some x) is = arguments_taken es x.sig.params.items d h is.2

  new_finds : (n : NewObject) (t : VType) (d : ℕ) (pos : Pos) (k : List Todo) (h : ℕ → Type 0) → typing.IsNewObject p b n t → FindsTypes p b k (below_and_at d (NoObject (Some t)) h) → FindsAside p b k (below d h)
      → FindsTypes p b (new_front n d pos ++ k) h
  new_finds n t d pos k h is finds past =
      operands_find n.arguments.items (d + 1) (Act (actions.New n.constructor d (length n.arguments.items)) pos ∷ []) k h
      (construction_takes n.constructor n.class n.arguments.items (d + 1) h is.0, finds_more p b k (below_and_at d (NoObject (Some t)) h) (below_and_at d (MakesText p n.constructor) all) kept finds, past_in k d h all under past)
      (past_more p b k (below d h) (below (d + 1) h) (λ x low. (let deep : x < d + 1 = omega (arith, low.0) in deep, low.1)) past)
    where
      all : ℕ → Type 0
      all = all_evaluated p b n.arguments.items (d + 1) h

      under : Within (below d h) all
      under x low = under_all p b n.arguments.items (d + 1) h x (let deep : x < d + 1 = omega (arith, low.0) in deep, low.1)

      kept : Within (below_and_at d (NoObject (Some t)) h) (below_and_at d (MakesText p n.constructor) all)
      kept x (inl low) = inl (low.0, under x low)
      kept x (inr same) = inr (same.0, new_text p b n t is same.1)

  -- ---- operators

  tested_finds : (e : ExprId) (d : ℕ) (pos : Pos) (k : List Todo) (h : ℕ → Type 0) → FindsTypes p b k (below_and_at d (Unit {0}) h) → FindsAside p b k (below d h) → FindsTypes p b (tested_front e d pos ++ k) h
  tested_finds e d pos k h finds past =
      let rest = gives k d (Unit {0}) (Unit {0}) h (below d h) (λ is. is) (λ x under. under) finds in
      ((tt, rest, tt), (tt, rest, tt), past)

  unary_finds : (o : UnaryOperator) (x e : ExprId) (t : Option VType) (d : ℕ) (pos : Pos) (k : List Todo) (h : ℕ → Type 0) → FindsTypes p b k (below_and_at d (Unit {0}) h) → FindsAside p b k (below d h)
      → FindsTypes p b (unary_front o x e t d pos ++ k) h
  unary_finds unary.Not x e t d pos k h finds past = tested_finds e d pos k h finds past
  unary_finds o x e t d pos k h finds past = computes_find (operators.Unary o (type_or_null t)) (x ∷ []) d pos k h tt finds past

  value_finds : (x : BinaryExpression) (t : Option VType) (d : ℕ) (pos : Pos) (k : List Todo) (h : ℕ → Type 0) → FindsTypes p b k (below_and_at d (Unit {0}) h) → FindsAside p b k (below d h)
      → FindsTypes p b (computes (operators.Binary x.operator x.operands (type_or_null t)) (x.left ∷ x.right ∷ []) d pos ++ k) h
  value_finds x t d pos k h finds past = computes_find (operators.Binary x.operator x.operands (type_or_null t)) (x.left ∷ x.right ∷ []) d pos k h tt finds past

  comparison_finds : (y : Option ExprId) (x : BinaryExpression) (e : ExprId) (t : Option VType) (d : ℕ) (pos : Pos) (k : List Todo) (h : ℕ → Type 0) → FindsTypes p b k (below_and_at d (Unit {0}) h) → FindsAside p b k (below d h)
      → FindsTypes p b (comparison_front y x e t d pos ++ k) h
  comparison_finds (Some y) x e t d pos k h finds past = tested_finds e d pos k h finds past
  comparison_finds None x e t d pos k h finds past = value_finds x t d pos k h finds past

  binary_finds : (o : BinaryOperator) (x : BinaryExpression) (e : ExprId) (t : Option VType) (d : ℕ) (pos : Pos) (k : List Todo) (h : ℕ → Type 0) → FindsTypes p b k (below_and_at d (Unit {0}) h) → FindsAside p b k (below d h)
      → FindsTypes p b (binary_front o x b e t d pos ++ k) h
  binary_finds binary.ConditionalAnd x e t d pos k h finds past = tested_finds e d pos k h finds past
  binary_finds binary.ConditionalOr x e t d pos k h finds past = tested_finds e d pos k h finds past
  binary_finds binary.Equal x e t d pos k h finds past = comparison_finds (compared_with_null b x) x e t d pos k h finds past
  binary_finds binary.NotEqual x e t d pos k h finds past = comparison_finds (compared_with_null b x) x e t d pos k h finds past
  binary_finds o x e t d pos k h finds past = value_finds x t d pos k h finds past

  -- ---- expressions

  -- where the value is no object in any case
  always : (t : Option VType) (k : List Todo) (d : ℕ) (h : ℕ → Type 0) → FindsTypes p b k (below_and_at d (NoObject t) h) → FindsTypes p b k (below_and_at d (Unit {0}) h)
  always t k d h finds = gives k d (NoObject t) (Unit {0}) h h (λ none. tt) (λ x under. under.1) finds

  -- of a type, or a call of none
  kind_finds : (j : ExpressionKind) (e : ExprId) (t : Option VType) (d : ℕ) (pos : Pos) (k : List Todo) (h : ℕ → Type 0) → IsOfOptionalType p b j t → FindsTypes p b k (below_and_at d (NoObject t) h) → FindsAside p b k (below d h)
      → FindsTypes p b (expression_front j p b e t d pos ++ k) h
  kind_finds (expressions.Call c) e t d pos k h is finds past = call_finds c.method c.arguments.items c.target t d pos k h (call_of t is) finds past
    where
      call_of : (t : Option VType) → IsOfOptionalType p b (expressions.Call c) t → IsCall p b c t
      call_of None is = is
      call_of (Some t) is = is
  kind_finds (expressions.Literal l) e t d pos k h is finds past = (tt, always t k d h finds, tt)
  kind_finds j e None d pos k h is finds past = absurd is
  kind_finds (expressions.This written) e (Some t) d pos k h is finds past = (tt, puts k d (NoObject (Some t)) ⊥ h h (this_object p b t is) (λ x under. under.1) finds, tt)
  kind_finds (expressions.Local x) e (Some t) d pos k h is finds past =
      (tt, puts k d (NoObject (Some t)) (NoObject (variable_type b x)) h h (λ none. subst NoObject (sym is) none) (λ x under. under.1) finds, tt)
  kind_finds (expressions.Field x f) e (Some t) d pos k h is finds past = read_finds x f t d pos k h (instance_type p b x f t is) finds past
  kind_finds (expressions.StaticField f) e (Some t) d pos k h is finds past = (tt, always (Some t) k d h finds, tt)
  kind_finds (expressions.LibraryConstant m) e (Some t) d pos k h is finds past = (tt, gives k d (NoObject (Some t)) ⊥ h h (constant_object p typed m t is) (λ x under. under.1) finds, tt)
  kind_finds (expressions.Unary o x) e (Some t) d pos k h is finds past = unary_finds o x e (Some t) d pos k h (always (Some t) k d h finds) past
  kind_finds (expressions.Binary x) e (Some t) d pos k h is finds past = binary_finds x.operator x e (Some t) d pos k h (always (Some t) k d h finds) past
  kind_finds (expressions.Conditional c x y) e (Some t) d pos k h is finds past = (
    (gives k d (NoObject (Some t)) (NoObject (type_at b x)) h (below d h) (λ none. fits_none p b x t is.1 none) (λ z under. under) finds, past_in k d h (below d h) (λ z under. under) past),
    (gives k d (NoObject (Some t)) (NoObject (type_at b y)) h (below d h) (λ none. fits_none p b y t is.2 none) (λ z under. under) finds, past_in k d h (below d h) (λ z under. under) past),
    past,
  )
  kind_finds (expressions.InstanceOf x tested) e (Some t) d pos k h is finds past = computes_find (operators.InstanceOf tested) (x ∷ []) d pos k h tt (always (Some t) k d h finds) past
  kind_finds (expressions.PrimitiveCast x) e (Some t) d pos k h is finds past =
      computes_find (operators.Convert t) (x ∷ []) d pos k h (inr (refl, fits_none p b x t is.1 (primitive_none t is.0)), is.0) (always (Some t) k d h finds) past
  kind_finds (expressions.ReferenceCast x) e (Some t) d pos k h is finds past =
      ((tt, gives k d (NoObject (Some t)) (NoObject (Some t)) h (evaluated b x d h) (λ none. none) (under_value b x d h) finds, past_in k d h (evaluated b x d h) (under_value b x d h) past), past)
  kind_finds (expressions.Assignment x value) e (Some t) d pos k h is finds past = assignment_finds x value t d pos k h is.0 is.1 finds past
  kind_finds (expressions.OperatorAssignment a) e (Some t) d pos k h is finds past = update_finds a (Some t) t d pos k h is (always (Some t) k d h finds) past
  kind_finds (expressions.PostfixStep a) e (Some t) d pos k h is finds past = postfix_finds a (Some t) t d pos k h is.2 (postfix_none p b a t is.0 is.2) (always (Some t) k d h finds) past
  kind_finds (expressions.NewObject n) e (Some t) d pos k h is finds past = new_finds n t d pos k h is finds past
  kind_finds (expressions.NewArray x) e (Some t) d pos k h is finds past = computes_find (operators.NewArray t) (x ∷ []) d pos k h tt (always (Some t) k d h finds) past
  kind_finds (expressions.Element a i) e (Some t) d pos k h is finds past = computes_find operators.Element (a ∷ i ∷ []) d pos k h tt (always (Some t) k d h finds) past
  kind_finds (expressions.Length a) e (Some t) d pos k h is finds past = computes_find operators.Length (a ∷ []) d pos k h tt (always (Some t) k d h finds) past

  pub expression_finds : (j : ExpressionKind) (e : ExprId) (t : Option VType) (d : ℕ) (pos : Pos) (k : List Todo) (h : ℕ → Type 0) → type_at b e ≡ t → IsOfOptionalType p b j t → FindsTypes p b k (evaluated b e d h) → FindsAside p b k (below d h)
      → FindsTypes p b (expression_front j p b e t d pos ++ k) h
  expression_finds j e t d pos k h same is finds past =
      kind_finds j e t d pos k h is (subst (λ (u : Option VType). FindsTypes p b k (below_and_at d (NoObject u) h)) same finds) past
