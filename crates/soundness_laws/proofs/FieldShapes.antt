-- Owning fields of an accepted program have the shape that is asked: what is stored into them other than by `=` is a text.
use Rattle.std.proofs.Common.{◌≡◌, ℕ, zero, suc, Bool, true, false, not, ◌&&◌, ◌||◌, Option, Some, None, IsSomeAnd, List, [], ◌∷◌, slice_get, refl, sym, ap, ◌∙◌, true≢false, eqb-true, eq-eqb, if◌then◌else◌}
use Rattle.std.specs.Prelude.{nat_eq}
use Rattle.std.specs.List.{list_any}
use Rattle.std.proofs.lemmas.Bool.{and_from, and_parts, or_left, or_right}
use Rattle.program_model.specs.declared.kinds.BodyId.{BodyId}
use Rattle.program_model.specs.declared.kinds.ClassId.{ClassId}
use Rattle.program_model.specs.declared.kinds.ExprId.{ExprId}
use Rattle.program_model.specs.declared.kinds.FieldId.{FieldId}
use Rattle.program_model.specs.declared.kinds.Primitive.TheVariants as primitives
use Rattle.program_model.specs.declared.kinds.VType.{VType}
use Rattle.program_model.specs.declared.kinds.VType.TheVariants as types
use Rattle.program_model.specs.declared.program.Field.{Field}
use Rattle.program_model.specs.declared.program.Method.{Method}
use Rattle.program_model.specs.declared.program.Program.{Program}
use Rattle.program_model.specs.declared.tree.AssignmentTarget.{AssignmentTarget}
use Rattle.program_model.specs.declared.tree.AssignmentTarget.TheVariants as targets
use Rattle.program_model.specs.declared.tree.Body.{Body}
use Rattle.program_model.specs.declared.tree.ExpressionKind.{ExpressionKind}
use Rattle.program_model.specs.declared.tree.ExpressionKind.TheVariants as expressions
use Rattle.program_model.specs.declared.tree.OperatorAssignment.{OperatorAssignment}
use Rattle.program_model.specs.declared.tree.TExpr.{TExpr}
use Rattle.program_model.specs.Lookups.{body_at, expression_at, field_at, method_at, type_at}
use Rattle.program_model.specs.SuperTests.{is_class}
use Rattle.program_model.specs.Typing.{IsCastable, IsNumeric, IsOfOptionalType, IsOperatorAssignment, IsOwnPlace, IsStored, IsTypeUnder, binary_result, kind_at, kind_in}
use Rattle.program_model.specs.Typing as typing
use Rattle.ledger_obligations.specs.Bodies.{is_class_of, is_extended}
use Rattle.must_call_reset.specs.OwningCases.{assigns_from_outside, field_ids, has_no_finalizer, is_assigned_from_outside, is_assigned_in, is_class_type, is_foreign_place, is_foreign_target, is_misshapen, may_hold_unseen_reset, owning_cases_in, owning_cases_of}
use Rattle.rlc_base.specs.declared.code.Code.TheVariants as refused
use Rattle.rlc_base.specs.declared.faults.Refusal.{Refusal}
use Rattle.refusal_order.specs.Refusals.{refused_at, where_true}
use Rattle.java_control.specs.Owned.{declares_field, has_place, is_beside_method, is_owning, is_owning_field}
use Rattle.java_control.specs.Owned as owned
use Rattle.content_laws.specs.Accept.{Accept}
use Rattle.content_laws.specs.Constructors.{AssignsField, IsFieldAssigned, IsOfField, IsOtherField}
use Rattle.content_laws.specs.ClassOperands.{field_type, type_of_field}
use Rattle.content_laws.specs.PlainForms.{IsTextUpdate}
use Rattle.content_laws.proofs.Finalizers.{listed, none_at, parts_empty}

-- ---- lists

pub any_at : {X : Type 0} (test : X → Bool) (xs : List X) (n : ℕ) (x : X) → slice_get xs n ≡ Some x → test x ≡ true → list_any test xs ≡ true
any_at test [] n x at passes = absurd (none n at)
  where
    none : (n : ℕ) → slice_get [] n ≡ Some x → ⊥
    none zero is = let never : None ≡ Some x = is in cc
    none (suc n) is = let never : None ≡ Some x = is in cc
any_at test (y ∷ ys) zero x at passes = let same : y ≡ x = (let both : Some y ≡ Some x = at in cc) in or_left (test y) (list_any test ys) (ap test same ∙ passes)
any_at test (y ∷ ys) (suc n) x at passes = or_right (test y) (list_any test ys) (any_at test ys n x at passes)

pub same_class : (c d : ClassId) → is_class c d ≡ true → is_class d c ≡ true
same_class c d is = eq-eqb d.0 c.0 (sym (eqb-true c.0 d.0 is))

pub not_true : (b : Bool) → (b ≡ true → ⊥) → b ≡ false
not_true true never = absurd (never refl)
not_true false never = refl

-- no refusal is there, so its case does not hold
not_there : (b : Bool) (r : Refusal) → (if b then r ∷ [] else []) ≡ [] → b ≡ false
not_there true r is = absurd (let never : r ∷ [] ≡ [] = is in cc)
not_there false r is = refl

-- ---- the shape of owning fields

module _ (p : Program) (ac : Accept p) (f : FieldId) (x : Field) (at : field_at p f ≡ Some x) (owning : x.owning ≡ true) where
  cases : owning_cases_of p f x ≡ []
  cases = sym (ap (λ (b : Bool). if b then owning_cases_of p f x else []) owning) ∙ sym (ap (owning_cases_in p f) at)
      ∙ none_at (λ (g : FieldId). owning_cases_in p g (field_at p g)) (field_ids p) f.0 f ac.well_formed.owning (listed p ac f x at)

  pub well_shaped : is_misshapen p f x ≡ false
  well_shaped =
      not_there (is_misshapen p f x) (refused_at refused.OwningFieldShape x.pos)
      (parts_empty (where_true (has_no_finalizer p f x) refused.NoFinalizer x.pos) (where_true (is_misshapen p f x) refused.OwningFieldShape x.pos) cases).1

  -- no body assigns the field other than through `this` in its class
  not_assigned_outside : is_assigned_from_outside p f x ≡ true → ⊥
  not_assigned_outside assigned =
      let before : Bool = x.is_static || not x.is_private || not (is_class_type x.vtype) in
      let shape = or_right before (is_assigned_from_outside p f x) assigned in
      let extended = or_left (before || is_assigned_from_outside p f x) (is_extended p x.class) shape in
      true≢false (sym (or_left (before || is_assigned_from_outside p f x || is_extended p x.class) (may_hold_unseen_reset p x.vtype) extended) ∙ well_shaped)

  class_type : is_class_type x.vtype ≡ true
  class_type = go (is_class_type x.vtype) refl
    where
      go : (b : Bool) → is_class_type x.vtype ≡ b → is_class_type x.vtype ≡ true
      go true is = is
      go false other = absurd (true≢false (sym (
          or_left (x.is_static || not x.is_private || not (is_class_type x.vtype) || is_assigned_from_outside p f x || is_extended p x.class) (may_hold_unseen_reset p x.vtype)
          (or_left (x.is_static || not x.is_private || not (is_class_type x.vtype) || is_assigned_from_outside p f x) (is_extended p x.class)
          (or_left (x.is_static || not x.is_private || not (is_class_type x.vtype)) (is_assigned_from_outside p f x)
          (or_right (x.is_static || not x.is_private) (not (is_class_type x.vtype)) (ap not other))))) ∙ well_shaped))

-- ---- stores other than by `=`

no_number : (t : VType) → IsNumeric t → is_class_type t ≡ true → ⊥
no_number (types.Primitive k) is class = true≢false (sym class)
no_number types.Str is class = is
no_number (types.Arr e) is class = is
no_number (types.Obj c) is class = is
no_number types.NullType is class = is

-- what the result of an operator is stored in is of no class type but `String`
stored_text : (from t : VType) → IsCastable from t → is_class_type t ≡ true → t ≡ types.Str
stored_text types.Str t is class = is
stored_text (types.Primitive primitives.Boolean) t is class = absurd (true≢false (sym class ∙ ap is_class_type is))
stored_text (types.Primitive primitives.Byte) t is class = absurd (no_number t is class)
stored_text (types.Primitive primitives.Char) t is class = absurd (no_number t is class)
stored_text (types.Primitive primitives.Int) t is class = absurd (no_number t is class)
stored_text (types.Primitive primitives.Long) t is class = absurd (no_number t is class)
stored_text (types.Arr e) t is class = absurd is
stored_text (types.Obj c) t is class = absurd is
stored_text types.NullType t is class = absurd is

module _ (p : Program) (ac : Accept p) (n : BodyId) (b : Body) (at_b : body_at p n ≡ Some b) where
  -- both ways to ask whether an expression is `this` tell the same
  same_this : (e : ExprId) → typing.is_this b e ≡ owned.is_this b e
  same_this e = by_node (expression_at b e)
    where
      by_kind : (k : ExpressionKind) → typing.is_this_kind (Some k) ≡ owned.is_this_kind k
      by_kind (expressions.This written) = refl
      by_kind (expressions.Literal l) = refl
      by_kind k = refl

      by_node : (x : Option TExpr) → typing.is_this_kind (kind_in x) ≡ owned.is_this_node x
      by_node None = refl
      by_node (Some x) = by_kind x.kind

  module _ (f : FieldId) (x : Field) (at : field_at p f ≡ Some x) (owning : x.owning ≡ true) where
    is_owned : is_owning p f ≡ true
    is_owned = ap is_owning_field at ∙ owning

    beside : (m : Option Method) → is_class_of x.class m ≡ true → is_beside_method (Some x) m ≡ true
    beside None is = absurd (true≢false (sym is))
    beside (Some m) is = same_class x.class m.class is

    declared_here : is_class_of x.class (method_at p b.method) ≡ true → declares_field p b f ≡ true
    declared_here same = ap (λ (o : Option Field). is_beside_method o (method_at p b.method)) at ∙ beside (method_at p b.method) same

    -- what has no place is no field of `this` in its class
    without_place : (e : ExprId) → has_place p b e f ≡ false → (typing.is_this b e && is_class_of x.class (method_at p b.method)) ≡ false
    without_place e free =
        not_true (typing.is_this b e && is_class_of x.class (method_at p b.method)) (λ both.
        let parts = and_parts (typing.is_this b e) (is_class_of x.class (method_at p b.method)) both in
        let this : owned.is_this b e ≡ true = sym (same_this e) ∙ parts.0 in
        let place : has_place p b e f ≡ true = rw (this, is_owned, declared_here parts.1) refl in
        true≢false (sym place ∙ free))

    by_target : (t : AssignmentTarget) → IsOtherField p b f t → is_foreign_target p b f x t ≡ true
    by_target (targets.Field e g) (same, free) =
        and_from (nat_eq g.0 f.0) (not (typing.is_this b e && is_class_of x.class (method_at p b.method))) (eq-eqb g.0 f.0 (ap (λ (h : FieldId). h.0) same))
        (ap not (without_place e (sym (ap (has_place p b e) same) ∙ free)))
    by_target t other = absurd other

    -- the body is one of the class that declares the field, where no other place of the field is assigned
    in_class : (k : Option ExpressionKind) → IsOfField f k → is_foreign_place p b f x k ≡ false → is_class_of x.class (method_at p b.method) ≡ true
    in_class (Some (expressions.Field e g)) same own = go (typing.is_this b e) (is_class_of x.class (method_at p b.method)) own
      where
        number : nat_eq g.0 f.0 ≡ true
        number = eq-eqb g.0 f.0 (ap (λ (h : FieldId). h.0) same)

        go : (this c : Bool) → (nat_eq g.0 f.0 && not (this && c)) ≡ false → c ≡ true
        go this true own' = refl
        go true false own' = absurd (true≢false (sym (and_from (nat_eq g.0 f.0) true number refl) ∙ own'))
        go false false own' = absurd (true≢false (sym (and_from (nat_eq g.0 f.0) true number refl) ∙ own'))
    in_class k is own = absurd is

    -- it is of type `String`, since the operator's result may be cast to its type
    of_text : (k : Option ExpressionKind) (t : VType) (r : Option VType) (a : OperatorAssignment) → IsOfField f k → IsOwnPlace p b k t → IsSomeAnd r (IsStored b a t) → field_type p f ≡ Some types.Str
    of_text (Some (expressions.Field e g)) t (Some r) a same place stored = ap type_of_field at ∙ ap Some (type ∙ stored_text r t stored.1 (ap is_class_type (sym type) ∙ class_type p ac f x at owning))
      where
        type : x.vtype ≡ t
        type = go (field_at p g) (ap (field_at p) same ∙ at) place.1
          where
            go : (o : Option Field) → o ≡ Some x → IsSomeAnd o (λ y. (y.is_static ≡ false) × (y.vtype ≡ t) × IsSomeAnd (type_at b e) (IsTypeUnder p y.class)) → x.vtype ≡ t
            go None is has = absurd has
            go (Some y) is has = ap (λ (z : Field). z.vtype) (let one : y ≡ x = cc in sym one) ∙ has.1
    of_text (Some (expressions.Field e g)) t None a same place stored = absurd stored
    of_text k t r a is place stored = absurd is

    -- an operator other than `=` assigns the field through `this`, in its class, and the field is of type `String`
    updated : (a : OperatorAssignment) (t : VType) (through_this : Bool) → IsOfField f (kind_at b a.target) → through_this ≡ true → is_foreign_place p b f x (kind_at b a.target) ≡ false → IsOperatorAssignment p b a t → IsTextUpdate p b f through_this
    updated a t through_this of this own typed = (this, declared_here (in_class (kind_at b a.target) of own), of_text (kind_at b a.target) t (binary_result a.operator a.operands) a of typed.0 typed.1)

    -- no expression assigns it from outside
    not_outside : (e : ExprId) (y : TExpr) → expression_at b e ≡ Some y → assigns_from_outside p b f x y.kind ≡ false
    not_outside e y there = not_true (assigns_from_outside p b f x y.kind) (λ outside.
        not_assigned_outside p ac f x at owning (any_at (is_assigned_in p f x) p.bodies.items n.0 b at_b (any_at (λ (z : TExpr). assigns_from_outside p b f x z.kind) b.expressions.items e.0 y there outside)))

    by_kind : (k : ExpressionKind) (through_this : Bool) (t : Option VType) → AssignsField p b f through_this k → assigns_from_outside p b f x k ≡ false → IsOfOptionalType p b k t → IsTextUpdate p b f through_this
    by_kind (expressions.Assignment to value) through_this t assigns own typed = absurd (true≢false (sym (by_target to assigns) ∙ own))
    by_kind (expressions.OperatorAssignment a) through_this None assigns own typed = absurd typed
    by_kind (expressions.OperatorAssignment a) through_this (Some t) assigns own typed = updated a t through_this assigns.0 assigns.1 own typed
    by_kind (expressions.PostfixStep a) through_this None assigns own typed = absurd typed
    by_kind (expressions.PostfixStep a) through_this (Some t) assigns own typed = updated a t through_this assigns.0 assigns.1 own typed.2
    by_kind k through_this t assigns own typed = absurd assigns

    text_update : (through_this : Bool) → IsFieldAssigned p b f through_this → IsTextUpdate p b f through_this
    text_update through_this (e, assigned) = by_expression (expression_at b e) refl assigned
      where
        by_expression : (o : Option TExpr) → expression_at b e ≡ o → IsSomeAnd o (λ y. AssignsField p b f through_this y.kind) → IsTextUpdate p b f through_this
        by_expression None there has = absurd has
        by_expression (Some y) there has = by_kind y.kind through_this y.vtype has (not_outside e y there) ((ac.well_formed.valid.typed.bodies n b at_b).expressions e y there).typed

  -- An owning field that an expression of the body assigns, other than by `=` as one of `this` in its class, is assigned by another operator: as a field of
  -- `this`, in its class, and it is of type `String`.
  pub assigned_is_text : (f : FieldId) (through_this : Bool) → IsFieldAssigned p b f through_this → is_owning p f ≡ true → IsTextUpdate p b f through_this
  assigned_is_text f through_this assigned owning = by_field (field_at p f) refl owning
    where
      by_field : (o : Option Field) → field_at p f ≡ o → is_owning_field o ≡ true → IsTextUpdate p b f through_this
      by_field None at owning' = absurd (true≢false (sym owning'))
      by_field (Some x) at owning' = text_update f x at owning' through_this assigned
