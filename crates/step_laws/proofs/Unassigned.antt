-- No expression of the body assigns a parameter that the signature speaks of, and each assigns variables of the body alone.
use Rattle.std.proofs.Common.{◌≡◌, ℕ, Bool, true, false, true≢false, ◌&&◌, ◌||◌, nat_eq, nat_lt, ◌<◌, ◌+◌, zero, suc, Option, Some, None, List, [], ◌∷◌, length, slice_get, refl, sym, ap, ◌∙◌, subst}
use Rattle.std.specs.List.{list_any}
use Rattle.std.proofs.lemmas.Bool.{eqb-true, ltb-true}
use Rattle.std.proofs.lemmas.Option.{slice_get_within}
use Rattle.program_model.specs.declared.kinds.ExprId.{ExprId}
use Rattle.program_model.specs.declared.kinds.VType.{VType}
use Rattle.program_model.specs.declared.program.Method.{Method}
use Rattle.program_model.specs.declared.program.Program.{Program}
use Rattle.program_model.specs.declared.tree.AssignmentTarget.{AssignmentTarget}
use Rattle.program_model.specs.declared.tree.AssignmentTarget.TheVariants as targets
use Rattle.program_model.specs.declared.tree.Body.{Body}
use Rattle.program_model.specs.declared.tree.ExpressionKind.{ExpressionKind}
use Rattle.program_model.specs.declared.tree.ExpressionKind.TheVariants as expressions
use Rattle.program_model.specs.declared.tree.TExpr.{TExpr}
use Rattle.program_model.specs.declared.tree.Var.{Var}
use Rattle.program_model.specs.Lookups.{expression_at, method_at, type_of_variable, variable_at, variable_type}
use Rattle.program_model.specs.Typing.{IsOfOptionalType, IsOwnPlace, IsTarget, kind_in}
use Rattle.accepted_programs.specs.Assigned.{assigned_variable, assigns_spoken, assigns_spoken_of, is_spoken, is_spoken_of, is_spoken_variable, variable_in, variable_of, variable_to}
use Rattle.step_laws.proofs.Declared.{less_differs}

-- the variable, where there is one, is another one
abbrev pub IsOther : ℕ → Option ℕ → Type 0
IsOther v None = Unit {0}
IsOther v (Some x) = nat_eq x v ≡ false

pub first_false : (x y : Bool) → (x || y) ≡ false → x ≡ false
first_false true y is = is
first_false false y is = refl

pub second_false : (x y : Bool) → (x || y) ≡ false → y ≡ false
second_false true y is = absurd (true≢false is)
second_false false y is = is

no_element : {X : Type 0} (i : ℕ) (x : X) → slice_get [] i ≡ Some x → ⊥
no_element zero x is = let never : None ≡ Some x = is in cc
no_element (suc i) x is = let never : None ≡ Some x = is in cc

none_passes : {X : Type 0} (test : X → Bool) (xs : List X) (i : ℕ) (x : X) → list_any test xs ≡ false → slice_get xs i ≡ Some x → test x ≡ false
none_passes test [] i x none at = absurd (no_element i x at)
none_passes test (y ∷ ys) zero x none at =
    let same : Some y ≡ Some x = at in
    let one : y ≡ x = cc in
    subst (λ z. test z ≡ false) one (first_false (test y) (list_any test ys) none)
none_passes test (y ∷ ys) (suc i) x none at = none_passes test ys i x (second_false (test y) (list_any test ys) none) at

other_assigned : (m : Method) (v : ℕ) → is_spoken_variable m v ≡ true → (o : Option ℕ) → is_spoken m o ≡ false → IsOther v o
other_assigned m v spoken None free = tt
other_assigned m v spoken (Some x) free = by (nat_eq x v) refl
  where
    by : (b : Bool) → nat_eq x v ≡ b → b ≡ false
    by true same = absurd (true≢false (sym spoken ∙ ap (is_spoken_variable m) (sym (eqb-true x v same)) ∙ free))
    by false other = refl

pub unassigned : (p : Program) (b : Body) (m : Method) (v : ℕ) → method_at p b.method ≡ Some m → assigns_spoken p b ≡ false → is_spoken_variable m v ≡ true
    → (e : ExprId) (x : TExpr) → expression_at b e ≡ Some x → IsOther v (assigned_variable b x.kind)
unassigned p b m v of free spoken e x at =
    let none : assigns_spoken_of (Some m) b ≡ false = subst (λ (o : Option Method). assigns_spoken_of o b ≡ false) of free in
    other_assigned m v spoken (assigned_variable b x.kind) (none_passes (λ (y : TExpr). is_spoken m (assigned_variable b y.kind)) b.expressions.items e.0 x none at)

first_true : (x y : Bool) → (x && y) ≡ true → x ≡ true
first_true true y is = refl
first_true false y is = is

-- what a signature speaks of is a parameter
pub is_parameter : (m : Method) (v : ℕ) → is_spoken_variable m v ≡ true → v < length m.sig.params.items
is_parameter m v spoken = ltb-true v (length m.sig.params.items) (first_true (nat_lt v (length m.sig.params.items)) (is_spoken_of m.sig (v + 1)) spoken)

-- ---- what is assigned is a variable of the body

module _ (p : Program) (b : Body) where
  in_body : (x : ℕ) (t : VType) → variable_type b x ≡ Some t → nat_eq x (length b.vars.items) ≡ false
  in_body x t is = go (variable_at b x) refl is
    where
      go : (y : Option Var) → variable_at b x ≡ y → type_of_variable y ≡ Some t → nat_eq x (length b.vars.items) ≡ false
      go None at typed = absurd (let never : None ≡ Some t = typed in cc)
      go (Some y) at typed = less_differs x (length b.vars.items) (slice_get_within b.vars.items x y at)

  target_in_body : (x : AssignmentTarget) (t : VType) → IsTarget p b x t → IsOther (length b.vars.items) (variable_to x)
  target_in_body (targets.Local x) t is = in_body x t is
  target_in_body (targets.Field e f) t is = tt
  target_in_body (targets.StaticField f) t is = tt
  target_in_body (targets.Element a i) t is = tt

  kind_in_body : (k : ExpressionKind) (t : VType) → IsOwnPlace p b (Some k) t → IsOther (length b.vars.items) (variable_of k)
  kind_in_body (expressions.Literal l) t own = tt
  kind_in_body (expressions.Local x) t own = in_body x t own
  kind_in_body k t own = tt

  own_in_body : (o : Option TExpr) (t : VType) → IsOwnPlace p b (kind_in o) t → IsOther (length b.vars.items) (variable_in o)
  own_in_body None t own = tt
  own_in_body (Some x) t own = kind_in_body x.kind t own

  pub assigned_in_body : (k : ExpressionKind) (t : Option VType) → IsOfOptionalType p b k t → IsOther (length b.vars.items) (assigned_variable b k)
  assigned_in_body (expressions.Literal l) t is = tt
  assigned_in_body (expressions.Assignment x e) None is = absurd is
  assigned_in_body (expressions.Assignment x e) (Some t) is = target_in_body x t is.0
  assigned_in_body (expressions.OperatorAssignment a) None is = absurd is
  assigned_in_body (expressions.OperatorAssignment a) (Some t) is = own_in_body (expression_at b a.target) t is.0
  assigned_in_body (expressions.PostfixStep a) None is = absurd is
  assigned_in_body (expressions.PostfixStep a) (Some t) is = own_in_body (expression_at b a.target) t is.2.0
  assigned_in_body k t is = tt
