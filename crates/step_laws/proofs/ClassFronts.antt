-- What an expression of a valid program becomes finds the values that it asks, where what follows the expression does.
use Rattle.std.proofs.Common.{◌≡◌, ℕ, ◌+◌, ◌<◌, Bool, true, false, Option, Some, None, List, [], ◌∷◌, ◌++◌, IsSomeAnd, length, inl, inr, refl, sym, ◌∙◌, true≢false, subst, arith, if◌then◌else◌}
use Rattle.program_model.specs.declared.kinds.BinaryOperator.{BinaryOperator}
use Rattle.program_model.specs.declared.kinds.BinaryOperator.TheVariants as binary
use Rattle.program_model.specs.declared.kinds.ExprId.{ExprId}
use Rattle.program_model.specs.declared.kinds.ClassId.{ClassId}
use Rattle.program_model.specs.declared.kinds.FieldId.{FieldId}
use Rattle.program_model.specs.declared.kinds.MethodId.{MethodId}
use Rattle.program_model.specs.declared.kinds.MethodKind.TheVariants as methods
use Rattle.program_model.specs.declared.kinds.UnaryOperator.{UnaryOperator}
use Rattle.program_model.specs.declared.kinds.UnaryOperator.TheVariants as unary
use Rattle.program_model.specs.declared.kinds.OperandType.TheVariants as operand_types
use Rattle.program_model.specs.declared.kinds.VType.{VType}
use Rattle.program_model.specs.declared.kinds.VType.TheVariants as types
use Rattle.program_model.specs.declared.program.Method.{Method}
use Rattle.program_model.specs.declared.program.ParamSig.{ParamSig}
use Rattle.program_model.specs.declared.program.Program.{Program}
use Rattle.program_model.specs.declared.tree.AssignmentTarget.{AssignmentTarget}
use Rattle.program_model.specs.declared.tree.AssignmentTarget.TheVariants as targets
use Rattle.program_model.specs.declared.tree.BinaryExpression.{BinaryExpression}
use Rattle.program_model.specs.declared.tree.Body.{Body}
use Rattle.program_model.specs.declared.tree.CallTarget.{CallTarget}
use Rattle.program_model.specs.declared.tree.CallTarget.TheVariants as calls
use Rattle.program_model.specs.declared.tree.ExpressionKind.{ExpressionKind}
use Rattle.program_model.specs.declared.tree.ExpressionKind.TheVariants as expressions
use Rattle.program_model.specs.declared.tree.NewObject.{NewObject}
use Rattle.program_model.specs.declared.tree.OperatorAssignment.{OperatorAssignment}
use Rattle.program_model.specs.declared.tree.TExpr.{TExpr}
use Rattle.program_model.specs.Lookups.{expression_at, method_at, type_at, variable_type}
use Rattle.program_model.specs.Typing.{AreArguments, IsCall, IsCallTarget, IsConstruction, IsOfOptionalType, IsOperatorAssignment, IsOwnPlace, IsTarget, kind_at, kind_in}
use Rattle.program_model.specs.Typing as typing
use Rattle.program_model.specs.Validity.{IsTypedProgram}
use Rattle.rlc_base.specs.declared.place.Pos.{Pos}
use Rattle.java_control.specs.Expressions.{assignment_front, binary_front, call_with, comparison_front, computes, evaluations, expression_front, field_read, field_store, new_front, postfix_front, stored, stored_at, stored_in, tested_front, type_or_null, unary_front, update_front}
use Rattle.java_control.specs.NullTests.{compared_with_null}
use Rattle.java_control.specs.Owned.{declares_field, field_number, is_owning, is_this, place_of_field}
use Rattle.java_control.specs.Remaining.{Todo, Ev, Act}
use Rattle.control_actions.specs.declared.action.Action.TheVariants as actions
use Rattle.control_actions.specs.declared.action.Operator.{Operator}
use Rattle.control_actions.specs.declared.action.Operator.TheVariants as operators
use Rattle.control_actions.specs.declared.action.Scope.TheVariants as scopes
use Rattle.control_actions.specs.declared.action.TargetForm.{TargetForm}
use Rattle.control_actions.specs.declared.action.TargetForm.TheVariants as forms
use Rattle.control_actions.specs.declared.place.Place.TheVariants as places
use Rattle.step_laws.specs.Operands.{below, below_and_at, field_type, first_argument, params_of, put_at, result_of}
use Rattle.step_laws.proofs.TextOperators.{text_operands}
use Rattle.step_laws.proofs.TypeItems.{Within}
use Rattle.step_laws.proofs.OperandTypes.{instance_type}
use Rattle.step_laws.specs.ClassOperands.{FindsAside, FindsClass, GivesText, HasFieldOfClass, IsNotAboveString, IsOfClass, IsNull, OfClass, TakesAll, TakesTarget, UpdateFits, evaluated, own_type}
use Rattle.step_laws.proofs.ClassItems.{all_evaluated, evaluations_find, evaluations_past, finds_more, in_three, past_more, past_three, under_all, under_next}
use Rattle.step_laws.proofs.ClassTypes.{array_never, below_class, boolean_never, constant_class, element_never, fits_class, int_never, literal_null, new_class, numeric_never, operation_never, primitive_never, static_never, this_class, unary_never, update_never}

-- ---- temps

pub twice : (d : ℕ) (h : ℕ → Type 0) → Within (below d h) (below d (below d h))
twice d h x under = (under.0, under)

pub at_more : (d : ℕ) (P Q : Type 0) (h g : ℕ → Type 0) → (P → Q) → Within (below d h) g → Within (below_and_at d P h) (below_and_at d Q g)
at_more d P Q h g so more x (inl under) = inl (under.0, more x under)
at_more d P Q h g so more x (inr same) = inr (same.0, so same.1)

put_more : (d : ℕ) (P Q : Type 0) (h g : ℕ → Type 0) → (P → Q) → Within (below d h) g → Within (below_and_at d P h) (put_at d Q g)
put_more d P Q h g so more x (inl under) = inl (λ same. (let never : ⊥ = omega (arith, under.0, same) in never), more x under)
put_more d P Q h g so more x (inr same) = inr (same.0, so same.1)

under_value : (p : Program) (bound : ClassId) (b : Body) (e : ExprId) (d : ℕ) (h : ℕ → Type 0) → Within (below d h) (evaluated p bound b e d h)
under_value p bound b e d h x under = inl under

below_more : (d : ℕ) (h g : ℕ → Type 0) → Within (below d h) g → Within (below d h) (below d g)
below_more d h g more x under = (under.0, more x under)

pub deeper : (d : ℕ) → d < d + 1
deeper d = omega arith

other : (d : ℕ) → d + 1 ≡ d → ⊥
other d same = (let never : ⊥ = omega (arith, same) in never)

module _ (p : Program) (bound : ClassId) (typed : IsTypedProgram p) (own : IsNotAboveString p bound) (b : Body) where
  -- ---- what follows

  gives : (k : List Todo) (d : ℕ) (P Q : Type 0) (h g : ℕ → Type 0) → (P → Q) → Within (below d h) g → FindsClass p bound b k (below_and_at d P h) → FindsClass p bound b k (below_and_at d Q g)
  gives k d P Q h g so more finds = finds_more p bound b k (below_and_at d P h) (below_and_at d Q g) (at_more d P Q h g so more) finds

  puts : (k : List Todo) (d : ℕ) (P Q : Type 0) (h g : ℕ → Type 0) → (P → Q) → Within (below d h) g → FindsClass p bound b k (below_and_at d P h) → FindsClass p bound b k (put_at d Q g)
  puts k d P Q h g so more finds = finds_more p bound b k (below_and_at d P h) (put_at d Q g) (put_more d P Q h g so more) finds

  -- where the value may be none of the class, and no place of such a type takes it
  plainly : (k : List Todo) (d : ℕ) (P : Type 0) (h g : ℕ → Type 0) → (P → ⊥) → Within (below d h) g → FindsClass p bound b k (below_and_at d P h) → FindsClass p bound b k (below d g)
  plainly k d P h g never more finds = finds_more p bound b k (below_and_at d P h) (below d g) kept finds
    where
      kept : Within (below_and_at d P h) (below d g)
      kept x (inl under) = (under.0, more x under)
      kept x (inr same) = absurd (never same.1)

  never_goes : (t : VType) (d : ℕ) (k : List Todo) (h : ℕ → Type 0) → (IsOfClass p bound t → ⊥) → FindsClass p bound b k (below_and_at d (IsOfClass p bound t) h) → FindsClass p bound b k (below d h)
  never_goes t d k h never finds = plainly k d (IsOfClass p bound t) h h never (λ x under. under.1) finds

  past_in : (k : List Todo) (d : ℕ) (h g : ℕ → Type 0) → Within (below d h) g → FindsAside p bound b k (below d h) → FindsAside p bound b k (below d g)
  past_in k d h g more past = past_more p bound b k (below d h) (below d g) (below_more d h g more) past

  past_next : (k : List Todo) (e : ExprId) (d : ℕ) (h : ℕ → Type 0) → FindsAside p bound b k (below d h) → FindsAside p bound b k (below (d + 1) (evaluated p bound b e d h))
  past_next k e d h past = past_more p bound b k (below d h) (below (d + 1) (evaluated p bound b e d h)) (under_next p bound b e d h) past

  -- ---- operands

  operands_find : (es : List ExprId) (d : ℕ) (xs k : List Todo) (h : ℕ → Type 0) → FindsClass p bound b (xs ++ k) (all_evaluated p bound b es d h) → FindsAside p bound b (xs ++ k) (below d h) → FindsClass p bound b ((evaluations es d ++ xs) ++ k) h
  operands_find es d xs k h finds past = in_three p bound b (evaluations es d) xs k h (evaluations_find p bound b es d (xs ++ k) h finds past)

  operands_past : (es : List ExprId) (d : ℕ) (xs k : List Todo) (h : ℕ → Type 0) → FindsAside p bound b (xs ++ k) h → FindsAside p bound b ((evaluations es d ++ xs) ++ k) h
  operands_past es d xs k h past = past_three p bound b (evaluations es d) xs k h (evaluations_past p bound b es d (xs ++ k) h past)

  -- an operator that gives a text leaves it
  gives_find : (o : Operator) (es : List ExprId) (d : ℕ) (pos : Pos) (k : List Todo) (h : ℕ → Type 0) → FindsClass p bound b k (below_and_at d (GivesText o) h) → FindsAside p bound b k (below d h)
      → FindsClass p bound b (computes o es d pos ++ k) h
  gives_find o es d pos k h finds past =
      operands_find es d (Act (actions.Op o d (length es)) pos ∷ []) k h (
        tt,
        gives k d (GivesText o) (GivesText o) h (all_evaluated p bound b es d h) (λ text. text) (under_all p bound b es d h) finds,
        past_in k d h (all_evaluated p bound b es d h) (under_all p bound b es d h) past,
      ) past

  computes_find : (o : Operator) (es : List ExprId) (d : ℕ) (pos : Pos) (k : List Todo) (h : ℕ → Type 0) → FindsClass p bound b k (below d h) → FindsAside p bound b k (below d h)
      → FindsClass p bound b (computes o es d pos ++ k) h
  computes_find o es d pos k h finds past = gives_find o es d pos k h (finds_more p bound b k (below d h) (below_and_at d (GivesText o) h) (λ x under. inl under) finds) past

  -- ---- fields

  read_finds : (e : ExprId) (f : FieldId) (t : VType) (d : ℕ) (pos : Pos) (k : List Todo) (h : ℕ → Type 0) → field_type p f ≡ Some t → FindsClass p bound b k (below_and_at d (OfClass p bound (Some t)) h) → FindsAside p bound b k (below d h)
      → FindsClass p bound b (field_read p b e f d pos ++ k) h
  read_finds e f t d pos k h is finds past = go (is_this b e) (is_owning p f) (declares_field p b f) refl refl
    where
      is_none : OfClass p bound (Some t) → OfClass p bound (field_type p f)
      is_none none = subst (OfClass p bound) (sym is) none

      got : FindsClass p bound b (Ev e d ∷ Act (actions.Get f d (is_this b e)) pos ∷ k) h
      got = ((tt, gives k d (OfClass p bound (Some t)) (OfClass p bound (field_type p f)) h (evaluated p bound b e d h) is_none (under_value p bound b e d h) finds, past_in k d h (evaluated p bound b e d h) (under_value p bound b e d h) past), past)

      go : (x y z : Bool) → is_owning p f ≡ y → declares_field p b f ≡ z
          → FindsClass p bound b ((if (if x then (if y then z else false) else false) then Act (actions.Copy (places.Temp d) (place_of_field p f)) pos ∷ [] else (Ev e d ∷ Act (actions.Get f d (is_this b e)) pos ∷ [])) ++ k) h
      go true true true owning declared = (
        tt,
        puts k d (OfClass p bound (Some t)) (HasFieldOfClass p bound b (field_number p f)) h h (λ none. record { field = f; place = refl; owning = owning; declared = declared; kind = is_none none }) (λ x under. under.1) finds,
        tt,
      )
      go true true false owning declared = got
      go true false z owning declared = got
      go false y z owning declared = got

  store_finds : (e : ExprId) (f : FieldId) (value : ExprId) (t : VType) (d : ℕ) (pos : Pos) (k : List Todo) (h : ℕ → Type 0) → field_type p f ≡ Some t → typing.Fits p b value t
      → FindsClass p bound b k (below_and_at d (OfClass p bound (Some t)) h) → FindsAside p bound b k (below d h) → FindsClass p bound b (field_store p b e f value d pos ++ k) h
  store_finds e f value t d pos k h is fits finds past = go (is_this b e) (is_owning p f) (declares_field p b f) refl refl
    where
      value_none : OfClass p bound (Some t) → OfClass p bound (type_at b value)
      value_none none = fits_class p bound typed own b value t fits none

      takes_none : OfClass p bound (field_type p f) → OfClass p bound (type_at b value)
      takes_none none = value_none (subst (OfClass p bound) is none)

      both : ℕ → Type 0
      both = evaluated p bound b value (d + 1) (evaluated p bound b e d h)

      under_both : Within (below d h) both
      under_both x under = inl (under_next p bound b e d h x under)

      -- the store is into no owning field of `this` that the body's class declares
      other_field : (this : Bool) → UpdateFits p b f this d both → FindsClass p bound b ((Ev e d ∷ Ev value (d + 1) ∷ Act (actions.Put f d this) pos ∷ []) ++ k) h
      other_field this other = (
        (
          (
            (λ none. inr (refl, takes_none none), other),
            gives k d (OfClass p bound (Some t)) (both (d + 1)) h both (λ none. inr (refl, value_none none)) under_both finds,
            past_in k d h both under_both past,
          ),
          past_next k e d h past,
        ),
        past,
      )

      go : (x y z : Bool) → is_owning p f ≡ y → declares_field p b f ≡ z
          → FindsClass p bound b ((if (if x then (if y then z else false) else false) then Ev value d ∷ Act (actions.PutOwn f d) pos ∷ [] else (Ev e d ∷ Ev value (d + 1) ∷ Act (actions.Put f d x) pos ∷ [])) ++ k) h
      go true true true owning declared = ((λ none. inr (refl, takes_none none), gives k d (OfClass p bound (Some t)) (OfClass p bound (type_at b value)) h h value_none (λ x under. under.1) finds, tt), past)
      go true true false owning declared = other_field true (λ own mine text. absurd (true≢false (sym mine ∙ declared)))
      go true false z owning declared = other_field true (λ own mine text. absurd (true≢false (sym own ∙ owning)))
      go false y z owning declared = other_field false tt

  -- ---- assignments

  assignment_finds : (x : AssignmentTarget) (value : ExprId) (t : VType) (d : ℕ) (pos : Pos) (k : List Todo) (h : ℕ → Type 0) → IsTarget p b x t → typing.Fits p b value t
      → FindsClass p bound b k (below_and_at d (OfClass p bound (Some t)) h) → FindsAside p bound b k (below d h) → FindsClass p bound b (assignment_front p b x value d pos ++ k) h
  assignment_finds (targets.Local x) value t d pos k h is fits finds past =
      ((λ none. inr (refl, fits_class p bound typed own b value t fits (subst (OfClass p bound) is none)), gives k d (OfClass p bound (Some t)) (OfClass p bound (type_at b value)) h h (λ none. fits_class p bound typed own b value t fits none) (λ x under. under.1) finds, tt), past)
  assignment_finds (targets.Field e f) value t d pos k h is fits finds past = store_finds e f value t d pos k h (instance_type p b e f t is) fits finds past
  assignment_finds (targets.StaticField f) value t d pos k h is fits finds past =
      computes_find (operators.StoreStatic f) (value ∷ []) d pos k h (plainly k d (IsOfClass p bound t) h h (static_never p bound typed f t is) (λ x under. under.1) finds) past
  assignment_finds (targets.Element a i) value t d pos k h is fits finds past =
      computes_find operators.StoreElement (a ∷ i ∷ value ∷ []) d pos k h (plainly k d (IsOfClass p bound t) h h (element_never p bound b a i t is) (λ x under. under.1) finds) past

  -- what is stored stands in t(d), and goes to a place of another type
  module _ (d : ℕ) (pos : Pos) (k : List Todo) (GivesIt : Type 0) (h : ℕ → Type 0) where
    abbrev g : ℕ → Type 0
    g = below_and_at d GivesIt h

    abbrev aside_copy : ℕ → Type 0
    aside_copy = put_at (d + 1) (g d) g

    abbrev both_copied : ℕ → Type 0
    both_copied = put_at d (OfClass p bound (own_type (method_at p b.method))) aside_copy

    under_made : Within (below d h) g
    under_made x under = inl under

    under_copies : Within (below d h) both_copied
    under_copies x under =
        inl (λ same. (let never : ⊥ = omega (arith, under.0, same) in never), inl (λ same. (let never : ⊥ = omega (arith, under.0, same) in never), inl under))

    beside : Within (below d h) (below_and_at d (both_copied (d + 1)) both_copied)
    beside x under = inl (under.0, under_copies x under)

    past_copies : Within (below d h) (below d both_copied)
    past_copies x under = (under.0, under_copies x under)

    under_static : Within (below d h) (below_and_at d ⊥ g)
    under_static x under = inl (under.0, inl under)

    past_made : Within (below d h) (below d g)
    past_made x under = (under.0, inl under)

    stored_finds : (j : ExpressionKind) (t : VType) → IsOwnPlace p b (Some j) t → (IsOfClass p bound t → ⊥) → (t ≡ types.Str → GivesIt) → FindsClass p bound b k (below d h) → FindsAside p bound b k (below d h) → FindsClass p bound b (stored_in j d pos ++ k) g
    stored_finds (expressions.Local x) t is never made finds past = (λ to. absurd (never (subst (OfClass p bound) is to)), finds_more p bound b k (below d h) g under_made finds, tt)
    stored_finds (expressions.StaticField f) t is never made finds past = (tt, finds_more p bound b k (below d h) (below_and_at d ⊥ g) under_static finds, past_more p bound b k (below d h) (below d g) past_made past)
    stored_finds (expressions.Field e f) t is never made finds past = (
      tt,
      (
        tt,
        (
          (λ to. absurd (never (subst (OfClass p bound) (instance_type p b e f t is.1) to)), text_goes),
          finds_more p bound b k (below d h) (below_and_at d (both_copied (d + 1)) both_copied) beside finds,
          past_more p bound b k (below d h) (below d both_copied) past_copies past,
        ),
        tt,
      ),
      tt,
    )
      where
        -- the text that the operator has made stands in t(d), and is copied to t(d + 1)
        text_goes : UpdateFits p b f true d both_copied
        text_goes own mine text =
            let same : Some t ≡ Some types.Str = sym (instance_type p b e f t is.1) ∙ text in
            inl (other d, inr (refl, inr (refl, made (let one : t ≡ types.Str = cc in one))))
    stored_finds (expressions.Literal l) t is never made finds past = absurd is
    stored_finds j t is never made finds past = absurd is

    stored_past : (j : ExpressionKind) (held : ℕ → Type 0) → FindsAside p bound b k held → FindsAside p bound b (stored_in j d pos ++ k) held
    stored_past (expressions.Local x) held past = past
    stored_past (expressions.StaticField f) held past = past
    stored_past (expressions.Field e f) held past = past
    stored_past (expressions.Literal l) held past = past
    stored_past j held past = past

    stored_find : (e : ExprId) (t : VType) → IsOwnPlace p b (kind_at b e) t → (IsOfClass p bound t → ⊥) → (t ≡ types.Str → GivesIt) → FindsClass p bound b k (below d h) → FindsAside p bound b k (below d h) → FindsClass p bound b (stored b e d pos ++ k) g
    stored_find e t is never made finds past = go (expression_at b e) is
      where
        go : (x : Option TExpr) → IsOwnPlace p b (kind_in x) t → FindsClass p bound b (stored_at x d pos ++ k) g
        go None is = absurd is
        go (Some x) is = stored_finds x.kind t is never made finds past

    stored_passed : (e : ExprId) (held : ℕ → Type 0) → FindsAside p bound b k held → FindsAside p bound b (stored b e d pos ++ k) held
    stored_passed e held past = go (expression_at b e)
      where
        go : (x : Option TExpr) → FindsAside p bound b (stored_at x d pos ++ k) held
        go None = past
        go (Some x) = stored_past x.kind held past

  -- what the operator gives is a text
  abbrev GivesUpdate : OperatorAssignment → Option VType → Type 0
  GivesUpdate a u = GivesText (operators.Binary a.operator a.operands (type_or_null u))

  -- so it is where the place is of type `String`
  abbrev UpdatesText : OperatorAssignment → VType → Option VType → Type 0
  UpdatesText a t u = t ≡ types.Str → GivesUpdate a u

  update_text : (a : OperatorAssignment) (t : VType) → IsOperatorAssignment p b a t → UpdatesText a t (Some t)
  update_text a t is text = go (text_operands p b a t is text) text
    where
      go : a.operands ≡ operand_types.Text → t ≡ types.Str → GivesText (operators.Binary a.operator a.operands t)
      go operands same = rw (operands, same) tt

  update_finds : (a : OperatorAssignment) (u : Option VType) (t : VType) (d : ℕ) (pos : Pos) (k : List Todo) (h : ℕ → Type 0) → IsOperatorAssignment p b a t → UpdatesText a t u → FindsClass p bound b k (below d h)
      → FindsAside p bound b k (below d h) → FindsClass p bound b (update_front b a u d pos ++ k) h
  update_finds a u t d pos k h is text finds past =
      in_three p bound b (computes (operators.Binary a.operator a.operands (type_or_null u)) (a.target ∷ a.value ∷ []) d pos) (stored b a.target d pos) k h
      (gives_find (operators.Binary a.operator a.operands (type_or_null u)) (a.target ∷ a.value ∷ []) d pos (stored b a.target d pos ++ k) h
      (stored_find d pos k (GivesUpdate a u) h a.target t is.0 (update_never p bound b a t is) text finds past) (stored_passed d pos k (GivesUpdate a u) h a.target (below d h) past))

  postfix_finds : (a : OperatorAssignment) (u : Option VType) (t : VType) (d : ℕ) (pos : Pos) (k : List Todo) (h : ℕ → Type 0) → IsOperatorAssignment p b a t → UpdatesText a t u
      → FindsClass p bound b k (below d h) → FindsAside p bound b k (below d h) → FindsClass p bound b (postfix_front b a u d pos ++ k) h
  postfix_finds a u t d pos k h is text finds past =
      in_three p bound b (Ev a.target d ∷ operation ++ store) drop k h
      (in_three p bound b (Ev a.target d ∷ operation) store (drop ++ k) h (
        gives_find (operators.Binary a.operator a.operands (type_or_null u)) (a.target ∷ a.value ∷ []) (d + 1) pos (store ++ (drop ++ k)) value
            (stored_find (d + 1) pos (drop ++ k) (GivesUpdate a u) value a.target t is.0 (update_never p bound b a t is) text (
              tt,
              finds_more p bound b k (below d h) (below (d + 1) (below (d + 1) value)) kept finds,
              tt,
            ) (past_next k a.target d h past))
            (stored_passed (d + 1) pos (drop ++ k) (GivesUpdate a u) value a.target (below (d + 1) value) (past_next k a.target d h past)),
        operation_past (stored_passed (d + 1) pos (drop ++ k) (GivesUpdate a u) value a.target (below d h) past),
      ))
    where
      operation : List Todo
      operation = computes (operators.Binary a.operator a.operands (type_or_null u)) (a.target ∷ a.value ∷ []) (d + 1) pos

      store : List Todo
      store = stored b a.target (d + 1) pos

      drop : List Todo
      drop = Act (actions.Drop (scopes.Temp (d + 1))) pos ∷ []

      value : ℕ → Type 0
      value = evaluated p bound b a.target d h

      operation_past : FindsAside p bound b (store ++ (drop ++ k)) (below d h) → FindsAside p bound b (operation ++ (store ++ (drop ++ k))) (below d h)
      operation_past past = past

      kept : Within (below d h) (below (d + 1) (below (d + 1) value))
      kept x under = let deep : x < d + 1 = omega (arith, under.0) in (deep, (deep, inl under))

  -- ---- calls

  pub arguments_taken : (es : List ExprId) (xs : List ParamSig) (d : ℕ) (h : ℕ → Type 0) → AreArguments p b es xs → TakesAll p bound xs d (all_evaluated p bound b es d h)
  arguments_taken [] [] d h are = tt
  arguments_taken [] (x ∷ xs) d h are = absurd are
  arguments_taken (e ∷ es) [] d h are = absurd are
  arguments_taken (e ∷ es) (x ∷ xs) d h are =
      (λ none. under_all p bound b es (d + 1) (evaluated p bound b e d h) d (deeper d, inr (refl, fits_class p bound typed own b e x.vtype are.0 none)), arguments_taken es xs (d + 1) (evaluated p bound b e d h) are.1)

  call_parts : (m : Option Method) (c : CallTarget) (es : List ExprId) (t : Option VType) (d : ℕ) (h : ℕ → Type 0) → IsSomeAnd m (λ x. IsCallTarget p b c x × AreArguments p b es x.sig.params.items × (x.sig.result ≡ t))
      → TakesAll p bound (params_of m) d (all_evaluated p bound b es d h) × (OfClass p bound t → OfClass p bound (result_of m))
  call_parts None c es t d h is = absurd is
  call_parts (Some x) c es t d h is = (arguments_taken es x.sig.params.items d h is.1, λ none. subst (OfClass p bound) (sym is.2) none)

  -- the target of `super.m()` is of a class under that of the method
  super_target : (m : Option Method) (e : ExprId) (es : List ExprId) (t : Option VType) → IsSomeAnd m (λ x. IsCallTarget p b (calls.Super e) x × AreArguments p b es x.sig.params.items × (x.sig.result ≡ t)) → OfClass p bound (own_type m)
      → OfClass p bound (type_at b e)
  super_target None e es t is to = absurd is
  super_target (Some x) e es t is to = below_class p bound typed own (type_at b e) x.class is.0.2 to

  -- a call whose target is evaluated first
  target_finds : (m : MethodId) (e : ExprId) (es : List ExprId) (form : TargetForm) (t : Option VType) (d : ℕ) (pos : Pos) (k : List Todo) (h : ℕ → Type 0)
      → TakesAll p bound (params_of (method_at p m)) (first_argument form d) (all_evaluated p bound b es (d + 1) (evaluated p bound b e d h))
      → TakesTarget p bound form (own_type (method_at p m)) d (all_evaluated p bound b es (d + 1) (evaluated p bound b e d h)) → (OfClass p bound t → OfClass p bound (result_of (method_at p m)))
      → FindsClass p bound b k (below_and_at d (OfClass p bound t) h) → FindsAside p bound b k (below d h)
      → FindsClass p bound b ((Ev e d ∷ evaluations es (d + 1) ++ Act (actions.Call m d (length es + 1) form) pos ∷ []) ++ k) h
  target_finds m e es form t d pos k h takes target result finds past = (
    operands_find es (d + 1) (Act (actions.Call m d (length es + 1) form) pos ∷ []) k (evaluated p bound b e d h)
        ((takes, target), gives k d (OfClass p bound t) (OfClass p bound (result_of (method_at p m))) h all result under finds, past_in k d h all under past) (past_next k e d h past),
    operands_past es (d + 1) (Act (actions.Call m d (length es + 1) form) pos ∷ []) k (below d h) past,
  )
    where
      all : ℕ → Type 0
      all = all_evaluated p bound b es (d + 1) (evaluated p bound b e d h)

      under : Within (below d h) all
      under x low = under_all p bound b es (d + 1) (evaluated p bound b e d h) x (under_next p bound b e d h x low)

  call_finds : (m : MethodId) (es : List ExprId) (c : CallTarget) (t : Option VType) (d : ℕ) (pos : Pos) (k : List Todo) (h : ℕ → Type 0)
      → IsSomeAnd (method_at p m) (λ x. IsCallTarget p b c x × AreArguments p b es x.sig.params.items × (x.sig.result ≡ t)) → FindsClass p bound b k (below_and_at d (OfClass p bound t) h) → FindsAside p bound b k (below d h)
      → FindsClass p bound b (call_with m es c d pos ++ k) h
  call_finds m es calls.Static t d pos k h is finds past =
      let parts = call_parts (method_at p m) calls.Static es t d h is in
      operands_find es d (Act (actions.Call m d (length es) forms.Static) pos ∷ []) k h
      ((parts.0, tt), gives k d (OfClass p bound t) (OfClass p bound (result_of (method_at p m))) h (all_evaluated p bound b es d h) parts.1 (under_all p bound b es d h) finds, past_in k d h (all_evaluated p bound b es d h) (under_all p bound b es d h) past) past
  call_finds m es (calls.This e) t d pos k h is finds past =
      let parts = call_parts (method_at p m) (calls.This e) es t (d + 1) (evaluated p bound b e d h) is in target_finds m e es forms.This t d pos k h parts.0 tt parts.1 finds past
  call_finds m es (calls.Super e) t d pos k h is finds past =
      let parts = call_parts (method_at p m) (calls.Super e) es t (d + 1) (evaluated p bound b e d h) is in
      target_finds m e es forms.Super t d pos k h parts.0
      (λ to. under_all p bound b es (d + 1) (evaluated p bound b e d h) d (deeper d, inr (refl, super_target (method_at p m) e es t is to))) parts.1 finds past
  call_finds m es (calls.Other e) t d pos k h is finds past =
      let parts = call_parts (method_at p m) (calls.Other e) es t (d + 1) (evaluated p bound b e d h) is in target_finds m e es forms.Other t d pos k h parts.0 tt parts.1 finds past

  pub construction_takes : (m : MethodId) (c : ClassId) (es : List ExprId) (d : ℕ) (h : ℕ → Type 0) → IsConstruction p b c m es → TakesAll p bound (params_of (method_at p m)) d (all_evaluated p bound b es d h)
  construction_takes m c es d h is = go (method_at p m) is
    where
      go : (x : Option Method) → IsSomeAnd x (λ x. (x.kind ≡ methods.Ctor) × (x.class ≡ c) × AreArguments p b es x.sig.params.items) → TakesAll p bound (params_of x) d (all_evaluated p bound b es d h)
      go None is = absurd is
      go (Some x) is = arguments_taken es x.sig.params.items d h is.2

  new_finds : (n : NewObject) (t : VType) (d : ℕ) (pos : Pos) (k : List Todo) (h : ℕ → Type 0) → typing.IsNewObject p b n t → FindsClass p bound b k (below_and_at d (IsOfClass p bound t) h) → FindsAside p bound b k (below d h)
      → FindsClass p bound b (new_front n d pos ++ k) h
  new_finds n t d pos k h is finds past =
      operands_find n.arguments.items (d + 1) (Act (actions.New n.constructor d (length n.arguments.items)) pos ∷ []) k h
      (construction_takes n.constructor n.class n.arguments.items (d + 1) h is.0, gives k d (IsOfClass p bound t) (OfClass p bound (own_type (method_at p n.constructor))) h all (new_class p bound b n t is) under finds, past_in k d h all under past)
      (past_more p bound b k (below d h) (below (d + 1) h) (λ x low. (let deep : x < d + 1 = omega (arith, low.0) in deep, low.1)) past)
    where
      all : ℕ → Type 0
      all = all_evaluated p bound b n.arguments.items (d + 1) h

      under : Within (below d h) all
      under x low = under_all p bound b n.arguments.items (d + 1) h x (let deep : x < d + 1 = omega (arith, low.0) in deep, low.1)

  -- ---- operators

  -- the value of a condition
  truth_finds : (d : ℕ) (k : List Todo) (h : ℕ → Type 0) → FindsClass p bound b k (below d h) → FindsClass p bound b k (below_and_at d ⊥ (below d h))
  truth_finds d k h finds = finds_more p bound b k (below d h) (below_and_at d ⊥ (below d h)) (λ x under. inl (under.0, under)) finds

  tested_finds : (e : ExprId) (d : ℕ) (pos : Pos) (k : List Todo) (h : ℕ → Type 0) → FindsClass p bound b k (below d h) → FindsAside p bound b k (below d h) → FindsClass p bound b (tested_front e d pos ++ k) h
  tested_finds e d pos k h finds past =
      let rest = truth_finds d k h finds in
      ((tt, rest, tt), (tt, rest, tt), past)

  unary_finds : (o : UnaryOperator) (x e : ExprId) (t : Option VType) (d : ℕ) (pos : Pos) (k : List Todo) (h : ℕ → Type 0) → FindsClass p bound b k (below d h) → FindsAside p bound b k (below d h)
      → FindsClass p bound b (unary_front o x e t d pos ++ k) h
  unary_finds unary.Not x e t d pos k h finds past = tested_finds e d pos k h finds past
  unary_finds o x e t d pos k h finds past = computes_find (operators.Unary o (type_or_null t)) (x ∷ []) d pos k h finds past

  value_finds : (x : BinaryExpression) (t : Option VType) (d : ℕ) (pos : Pos) (k : List Todo) (h : ℕ → Type 0) → FindsClass p bound b k (below d h) → FindsAside p bound b k (below d h)
      → FindsClass p bound b (computes (operators.Binary x.operator x.operands (type_or_null t)) (x.left ∷ x.right ∷ []) d pos ++ k) h
  value_finds x t d pos k h finds past = computes_find (operators.Binary x.operator x.operands (type_or_null t)) (x.left ∷ x.right ∷ []) d pos k h finds past

  comparison_finds : (y : Option ExprId) (x : BinaryExpression) (e : ExprId) (t : Option VType) (d : ℕ) (pos : Pos) (k : List Todo) (h : ℕ → Type 0) → FindsClass p bound b k (below d h) → FindsAside p bound b k (below d h)
      → FindsClass p bound b (comparison_front y x e t d pos ++ k) h
  comparison_finds (Some y) x e t d pos k h finds past = tested_finds e d pos k h finds past
  comparison_finds None x e t d pos k h finds past = value_finds x t d pos k h finds past

  binary_finds : (o : BinaryOperator) (x : BinaryExpression) (e : ExprId) (t : Option VType) (d : ℕ) (pos : Pos) (k : List Todo) (h : ℕ → Type 0) → FindsClass p bound b k (below d h) → FindsAside p bound b k (below d h)
      → FindsClass p bound b (binary_front o x b e t d pos ++ k) h
  binary_finds binary.ConditionalAnd x e t d pos k h finds past = tested_finds e d pos k h finds past
  binary_finds binary.ConditionalOr x e t d pos k h finds past = tested_finds e d pos k h finds past
  binary_finds binary.Equal x e t d pos k h finds past = comparison_finds (compared_with_null b x) x e t d pos k h finds past
  binary_finds binary.NotEqual x e t d pos k h finds past = comparison_finds (compared_with_null b x) x e t d pos k h finds past
  binary_finds o x e t d pos k h finds past = value_finds x t d pos k h finds past

  -- ---- expressions

  -- of a type, or a call of none
  kind_finds : (j : ExpressionKind) (e : ExprId) (t : Option VType) (d : ℕ) (pos : Pos) (k : List Todo) (h : ℕ → Type 0) → IsOfOptionalType p b j t → FindsClass p bound b k (below_and_at d (OfClass p bound t) h) → FindsAside p bound b k (below d h)
      → FindsClass p bound b (expression_front j p b e t d pos ++ k) h
  kind_finds (expressions.Call c) e t d pos k h is finds past = call_finds c.method c.arguments.items c.target t d pos k h (call_of t is) finds past
    where
      call_of : (t : Option VType) → IsOfOptionalType p b (expressions.Call c) t → IsCall p b c t
      call_of None is = is
      call_of (Some t) is = is
  kind_finds (expressions.Literal l) e None d pos k h is finds past = absurd is
  kind_finds (expressions.Literal l) e (Some t) d pos k h is finds past = (tt, gives k d (IsOfClass p bound t) (IsNull l) h h (literal_null p bound l t is) (λ x under. under.1) finds, tt)
  kind_finds j e None d pos k h is finds past = absurd is
  kind_finds (expressions.This written) e (Some t) d pos k h is finds past = (tt, puts k d (IsOfClass p bound t) (OfClass p bound (own_type (method_at p b.method))) h h (this_class p bound b t is) (λ x under. under.1) finds, tt)
  kind_finds (expressions.Local x) e (Some t) d pos k h is finds past =
      (tt, puts k d (IsOfClass p bound t) (OfClass p bound (variable_type b x)) h h (λ to. subst (OfClass p bound) (sym is) to) (λ x under. under.1) finds, tt)
  kind_finds (expressions.Field x f) e (Some t) d pos k h is finds past = read_finds x f t d pos k h (instance_type p b x f t is) finds past
  kind_finds (expressions.StaticField f) e (Some t) d pos k h is finds past = (tt, gives k d (IsOfClass p bound t) ⊥ h h (static_never p bound typed f t is) (λ x under. under.1) finds, tt)
  kind_finds (expressions.LibraryConstant m) e (Some t) d pos k h is finds past =
      (tt, gives k d (IsOfClass p bound t) (OfClass p bound (result_of (method_at p m))) h h (constant_class p bound m t is) (λ x under. under.1) finds, tt)
  kind_finds (expressions.Unary o x) e (Some t) d pos k h is finds past = unary_finds o x e (Some t) d pos k h (never_goes t d k h (unary_never p bound b o x t is) finds) past
  kind_finds (expressions.Binary x) e (Some t) d pos k h is finds past = binary_finds x.operator x e (Some t) d pos k h (never_goes t d k h (operation_never p bound b x.operator x.left x.right x.operands t is) finds) past
  kind_finds (expressions.Conditional c x y) e (Some t) d pos k h is finds past = (
    (gives k d (IsOfClass p bound t) (OfClass p bound (type_at b x)) h (below d h) (λ to. fits_class p bound typed own b x t is.1 to) (λ z under. under) finds, past_in k d h (below d h) (λ z under. under) past),
    (gives k d (IsOfClass p bound t) (OfClass p bound (type_at b y)) h (below d h) (λ to. fits_class p bound typed own b y t is.2 to) (λ z under. under) finds, past_in k d h (below d h) (λ z under. under) past),
    past,
  )
  kind_finds (expressions.InstanceOf x tested) e (Some t) d pos k h is finds past = computes_find (operators.InstanceOf tested) (x ∷ []) d pos k h (never_goes t d k h (boolean_never p bound t is.0) finds) past
  kind_finds (expressions.PrimitiveCast x) e (Some t) d pos k h is finds past = computes_find (operators.Convert t) (x ∷ []) d pos k h (never_goes t d k h (primitive_never p bound t is.0) finds) past
  kind_finds (expressions.ReferenceCast x) e (Some t) d pos k h is finds past =
      ((tt, gives k d (IsOfClass p bound t) (IsOfClass p bound t) h (evaluated p bound b x d h) (λ to. to) (under_value p bound b x d h) finds, past_in k d h (evaluated p bound b x d h) (under_value p bound b x d h) past), past)
  kind_finds (expressions.Assignment x value) e (Some t) d pos k h is finds past = assignment_finds x value t d pos k h is.0 is.1 finds past
  kind_finds (expressions.OperatorAssignment a) e (Some t) d pos k h is finds past = update_finds a (Some t) t d pos k h is (update_text a t is) (never_goes t d k h (update_never p bound b a t is) finds) past
  kind_finds (expressions.PostfixStep a) e (Some t) d pos k h is finds past = postfix_finds a (Some t) t d pos k h is.2 (update_text a t is.2) (never_goes t d k h (numeric_never p bound t is.1) finds) past
  kind_finds (expressions.NewObject n) e (Some t) d pos k h is finds past = new_finds n t d pos k h is finds past
  kind_finds (expressions.NewArray x) e (Some t) d pos k h is finds past = computes_find (operators.NewArray t) (x ∷ []) d pos k h (never_goes t d k h (array_never p bound t is.0) finds) past
  kind_finds (expressions.Element a i) e (Some t) d pos k h is finds past = computes_find operators.Element (a ∷ i ∷ []) d pos k h (never_goes t d k h (element_never p bound b a i t is) finds) past
  kind_finds (expressions.Length a) e (Some t) d pos k h is finds past = computes_find operators.Length (a ∷ []) d pos k h (never_goes t d k h (int_never p bound t is.1) finds) past

  pub expression_finds : (j : ExpressionKind) (e : ExprId) (t : Option VType) (d : ℕ) (pos : Pos) (k : List Todo) (h : ℕ → Type 0) → type_at b e ≡ t → IsOfOptionalType p b j t → FindsClass p bound b k (evaluated p bound b e d h) → FindsAside p bound b k (below d h)
      → FindsClass p bound b (expression_front j p b e t d pos ++ k) h
  expression_finds j e t d pos k h same is finds past =
      kind_finds j e t d pos k h is (subst (λ (u : Option VType). FindsClass p bound b k (below_and_at d (OfClass p bound u) h)) same finds) past
