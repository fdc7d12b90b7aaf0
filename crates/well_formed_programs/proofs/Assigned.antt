-- Where no annotation is refused, no body assigns a parameter that its method's signature speaks of.
use Rattle.std.proofs.Common.{◌≡◌, ◌∙◌, ap, sym, refl, arith, ℕ, zero, suc, ◌+◌, ◌<◌, ◌≤◌, Bool, true, false, ◌&&◌, ◌||◌, nat_lt, Option, Some, None, IsSomeAnd, List, [], ◌∷◌, ◌++◌, flat_map, length, slice_get}
use Rattle.std.specs.List.{list_any}
use Rattle.std.proofs.lemmas.Bool.Decides.{Decides-ltb}
use Rattle.std.proofs.lemmas.Option.{same_Some}
use Rattle.rlc_base.specs.declared.code.Code.TheVariants as refused
use Rattle.rlc_base.specs.declared.place.Pos.{Pos}
use Rattle.refusal_order.specs.Refusals.{where_true}
use Rattle.program_model.specs.declared.kinds.BodyId.{BodyId}
use Rattle.program_model.specs.declared.program.Method.{Method}
use Rattle.program_model.specs.declared.program.ParamSig.{ParamSig}
use Rattle.program_model.specs.declared.program.Program.{Program}
use Rattle.program_model.specs.declared.tree.Body.{Body}
use Rattle.program_model.specs.declared.tree.TExpr.{TExpr}
use Rattle.program_model.specs.declared.tree.Var.{Var}
use Rattle.program_model.specs.Lookups.{body_at, method_at, variable_at}
use Rattle.program_model.specs.Validity.{HasParameters, IsBodyOf}
use Rattle.must_call_types.specs.Assigned.{assigned_variable, assigns_spoken, assigns_spoken_of, is_spoken, is_spoken_of, is_spoken_variable}
use Rattle.must_call_types.specs.AnnotationCases.{annotation_cases, assigned_at, assigned_cases, assignment_cases, body_cases, class_cases, field_cases, method_cases, variable_cases}

-- ---- lists that are empty

nil_left : {X : Type 0} (xs ys : List X) → xs ++ ys ≡ [] → xs ≡ []
nil_left [] ys is = refl
nil_left (x ∷ xs) ys is = absurd (let no = is in cc)

nil_right : {X : Type 0} (xs ys : List X) → xs ++ ys ≡ [] → ys ≡ []
nil_right [] ys is = is
nil_right (x ∷ xs) ys is = absurd (let no = is in cc)

none_at : {X Y : Type 0} (f : X → List Y) (xs : List X) (k : ℕ) (x : X) → flat_map f xs ≡ [] → slice_get xs k ≡ Some x → f x ≡ []
none_at f [] k x none at = absurd (let no = at in cc)
none_at f (y ∷ xs) zero x none at = ap f (sym (same_Some y x at)) ∙ nil_left (f y) (flat_map f xs) none
none_at f (y ∷ xs) (suc k) x none at = none_at f xs k x (nil_right (f y) (flat_map f xs) none) at

-- ---- one variable

long_parameters : (vars : List Var) (params : List ParamSig) → HasParameters vars params → length params ≤ length vars
long_parameters vars [] has = omega arith
long_parameters [] (x ∷ params) has = absurd has
long_parameters (v ∷ vars) (x ∷ params) has = let rest = long_parameters vars params has.1 in omega (arith, rest)

there : {X : Type 0} (xs : List X) (k : ℕ) → k < length xs → (x : X) × (slice_get xs k ≡ Some x)
there [] k within = absurd (omega arith)
there (x ∷ xs) zero within = (x, refl)
there (x ∷ xs) (suc k) within = there xs k (omega arith)

not_true : (holds : Bool) (pos : Pos) → where_true holds refused.BadAnno pos ≡ [] → holds ≡ false
not_true true pos none = absurd (let no = none in cc)
not_true false pos none = refl

unspoken : (m : Method) (b : Body) (x : ℕ) (within : Bool) → nat_lt x (length m.sig.params.items) ≡ within → HasParameters b.vars.items m.sig.params.items
    → assigned_at (is_spoken_variable m x) (variable_at b x) ≡ [] → is_spoken_variable m x ≡ false
unspoken m b x true is has none =
    let below : x < length m.sig.params.items = (Decides-ltb x (length m.sig.params.items)).0 is in
    let long = long_parameters b.vars.items m.sig.params.items has in
    let v = there b.vars.items x (omega (arith, below, long)) in
    not_true (is_spoken_variable m x) v.0.pos (sym (ap (assigned_at (is_spoken_variable m x)) v.1) ∙ none)
unspoken m b x false is has none = ap (λ c. c && is_spoken_of m.sig (x + 1)) is

unspoken_in : (m : Method) (b : Body) (o : Option ℕ) → HasParameters b.vars.items m.sig.params.items → assigned_cases (Some m) b o ≡ [] → is_spoken m o ≡ false
unspoken_in m b None has none = refl
unspoken_in m b (Some x) has none = unspoken m b x (nat_lt x (length m.sig.params.items)) refl has none

-- ---- a body

neither : (a b : Bool) → a ≡ false → b ≡ false → (a || b) ≡ false
neither true b first second = absurd (let no = first in cc)
neither false b first second = second

none_spoken : (m : Method) (b : Body) (es : List TExpr) → HasParameters b.vars.items m.sig.params.items → flat_map (λ (e : TExpr). assigned_cases (Some m) b (assigned_variable b e.kind)) es ≡ []
    → list_any (λ (e : TExpr). is_spoken m (assigned_variable b e.kind)) es ≡ false
none_spoken m b [] has none = refl
none_spoken m b (e ∷ es) has none =
    let rest = flat_map (λ (x : TExpr). assigned_cases (Some m) b (assigned_variable b x.kind)) es in
    let first = assigned_cases (Some m) b (assigned_variable b e.kind) in
    neither (is_spoken m (assigned_variable b e.kind)) (list_any (λ (x : TExpr). is_spoken m (assigned_variable b x.kind)) es) (unspoken_in m b (assigned_variable b e.kind) has (nil_left first rest none)) (none_spoken m b es has (nil_right first rest none))

unassigned_by : (o : Option Method) (n : BodyId) (b : Body) → IsSomeAnd o (IsBodyOf n b) → assignment_cases o b ≡ [] → assigns_spoken_of o b ≡ false
unassigned_by None n b has none = refl
unassigned_by (Some m) n b has none = none_spoken m b b.expressions.items has.1 none

pub unassigned : (p : Program) (n : BodyId) (b : Body) → annotation_cases p ≡ [] → body_at p n ≡ Some b → IsSomeAnd (method_at p b.method) (IsBodyOf n b) → assigns_spoken p b ≡ false
unassigned p n b none found has =
    let before = flat_map (class_cases p) p.classes.items ++ flat_map field_cases p.fields.items ++ flat_map (method_cases p) p.methods.items in
    let of_bodies = nil_right before (flat_map (body_cases p) p.bodies.items) none in
    let here : body_cases p b ≡ [] = none_at (body_cases p) p.bodies.items n.0 b of_bodies found in
    unassigned_by (method_at p b.method) n b has (nil_right (variable_cases (method_at p b.method) b) (assignment_cases (method_at p b.method) b) here)
