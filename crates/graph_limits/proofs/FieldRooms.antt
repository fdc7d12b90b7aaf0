-- The fields of a body's class, and the numbers of those that are owning.
use Rattle.std.proofs.Common.{◌≡◌, ◌∙◌, sym, ap, refl, subst, arith, ℕ, ◌+◌, ◌<◌, ◌≤◌, zero, suc, Bool, true, false, not, cond, Option, Some, None, List, [], ◌∷◌, length, filter, take, nat_eq, one-add}
use Rattle.std.specs.Prelude.{slice_get}
use Rattle.std.specs.List.{Contains, prefix_len}
use Rattle.std.specs.Option.{IsSomeAnd}
use Rattle.std.proofs.lemmas.Bool.{and_parts, eq-eqb, eqb-true}
use Rattle.program_model.specs.declared.kinds.BodyId.{BodyId}
use Rattle.program_model.specs.declared.kinds.FieldId.{FieldId}
use Rattle.program_model.specs.declared.program.Class.{Class}
use Rattle.program_model.specs.declared.program.Field.{Field}
use Rattle.program_model.specs.declared.program.Method.{Method}
use Rattle.program_model.specs.declared.program.Program.{Program}
use Rattle.program_model.specs.declared.tree.Body.{Body}
use Rattle.program_model.specs.Lookups.{body_at, class_at, field_at}
use Rattle.java_control.specs.Owned.{field_number, fields_beside, fields_in, is_owning, is_owning_field, owning_before}
use Rattle.must_call_types.specs.Bodies as bodies
use Rattle.graph_relation.specs.Room as rooms
use Rattle.graph_relation.specs.Room.{HasRoom}
use Rattle.java_cfg.specs.Limits.{HasTooManyPlaces, class_in, fields, method_in, method_of, owning_count, variable_count, variables, variables_in}
use Rattle.java_cfg.proofs.ListLemmas.{stands}
use Rattle.graph_limits.specs.ListedFields.{HasListedFields}
use Rattle.graph_limits.proofs.Counting.{at_most}

-- ---- the fields before a field

both_first : (r : Bool) (g : FieldId) (xs ys : List FieldId) → length xs < length ys → length (cond r (g ∷ xs) xs) < length (cond r (g ∷ ys) ys)
both_first true g xs ys h = omega (arith, h)
both_first false g xs ys h = h

-- `same` tells whether the first field is the one that is looked for, and `n` fields stand before it among the others
first_field : (test : FieldId → Bool) (same : Bool) (g : FieldId) (rest : List FieldId) (n : ℕ) → (same ≡ true → test g ≡ true)
    → (same ≡ false → length (filter test (take n rest)) < length (filter test rest))
    → length (filter test (take (cond (not same) (1 + n) 0) (g ∷ rest))) < length (filter test (g ∷ rest))
first_field test true g rest n here behind =
    subst (λ (r : Bool). 0 < length (cond r (g ∷ filter test rest) (filter test rest))) (sym (here refl)) (omega arith)
first_field test false g rest n here behind =
    subst (λ (m : ℕ). length (filter test (take m (g ∷ rest))) < length (filter test (g ∷ rest))) (sym (one-add n))
    (both_first (test g) g (filter test (take n rest)) (filter test rest) (behind refl))

before_listed : (p : Program) (f : FieldId) (listed : List FieldId) (k : ℕ) → slice_get listed k ≡ Some f → is_owning p f ≡ true
    → length (owning_before p f listed) < length (filter (is_owning p) listed)
before_listed p f [] k at own = absurd (let never : None ≡ Some f = at in cc)
before_listed p f (g ∷ rest) zero at own =
    let here : g ≡ f = cc in
    let test : nat_eq g.0 f.0 ≡ true = eq-eqb g.0 f.0 (ap (λ (h : FieldId). h.0) here) in
    first_field (is_owning p) (nat_eq g.0 f.0) g rest (prefix_len (λ (h : FieldId). not (nat_eq h.0 f.0)) rest)
    (λ same. ap (is_owning p) here ∙ own) (λ other. absurd (let never : true ≡ false = sym test ∙ other in cc))
before_listed p f (g ∷ rest) (suc k) at own =
    first_field (is_owning p) (nat_eq g.0 f.0) g rest (prefix_len (λ (h : FieldId). not (nat_eq h.0 f.0)) rest)
    (λ same. ap (λ (n : ℕ). is_owning_field (slice_get p.fields.items n)) (eqb-true g.0 f.0 same) ∙ own)
    (λ other. before_listed p f rest k at own)

-- ---- the body's class

same_method : (p : Program) (o : Option Body) → bodies.method_in p o ≡ method_in p o
same_method p None = refl
same_method p (Some x) = refl

same_listed : (o : Option Class) → bodies.fields_in o ≡ fields_in o
same_listed None = refl
same_listed (Some k) = refl

listed_of_method : (p : Program) (o : Option Method) → bodies.fields_of_method p o ≡ fields_in (class_in p o)
listed_of_method p None = refl
listed_of_method p (Some m) = same_listed (class_at p m.class)

-- the fields of the class of the body's method
pub class_fields : (p : Program) (b : BodyId) → bodies.fields_of p b ≡ fields_in (class_in p (method_of p b))
class_fields p b = listed_of_method p (bodies.method_of p b) ∙ ap (λ (o : Option Method). fields_in (class_in p o)) (same_method p (body_at p b))

class_listed : (o : Option Class) (f : FieldId) → IsSomeAnd o (λ k. Contains k.fields.items f) → Contains (fields_in o) f
class_listed None f h = absurd h
class_listed (Some k) f h = h

-- ---- owning fields of the body's class

is_class_of_method : (p : Program) (x : Field) (o : Option Method) → bodies.is_class_of x.class o ≡ true → class_in p o ≡ class_at p x.class
is_class_of_method p x None h = absurd (let never : false ≡ true = h in cc)
is_class_of_method p x (Some m) h = sym (ap (λ (n : ℕ). slice_get p.classes.items n) (eqb-true x.class.0 m.class.0 h))

-- a field that has a place of its own is owning
pub has_owned : (p : Program) (b : BodyId) (o : Option Field) → bodies.is_field_in p b o ≡ true → is_owning_field o ≡ true
has_owned p b None h = h
has_owned p b (Some x) h = (and_parts _ _ h).0

field_small : (p : Program) (b : BodyId) (f : FieldId) (o : Option Field) → field_at p f ≡ o → bodies.is_field_in p b o ≡ true → HasListedFields p → owning_count p b ≤ 16 → field_number p f < 16
field_small p b f None at h listed few = absurd (let never : false ≡ true = h in cc)
field_small p b f (Some x) at h listed few =
    let parts = and_parts _ _ h in
    let same_class : class_in p (method_of p b) ≡ class_at p x.class =
    ap (class_in p) (sym (same_method p (body_at p b))) ∙ is_class_of_method p x (bodies.method_of p b) parts.1 in
    let place = stands (fields_in (class_at p x.class)) f (class_listed (class_at p x.class) f (listed f x at)) in
    let own : is_owning p f ≡ true = ap is_owning_field at ∙ parts.0 in
    let fewer = before_listed p f (fields_in (class_at p x.class)) place.0 place.1 own in
    let count : owning_count p b ≡ length (filter (is_owning p) (fields_in (class_at p x.class))) =
    ap (λ (k : Option Class). length (filter (is_owning p) (fields_in k))) same_class in
    let beside : length (owning_before p f (fields_beside p (field_at p f))) ≡ length (owning_before p f (fields_in (class_at p x.class))) =
    ap (λ (y : Option Field). length (owning_before p f (fields_beside p y))) at in
    omega (arith, fewer, few, count, beside)

-- ---- room

same_variables : (o : Option Body) → rooms.variables_in o ≡ variables_in o
same_variables None = refl
same_variables (Some x) = refl

pub few_variables : (p : Program) (b : BodyId) → (HasTooManyPlaces p b → ⊥) → variable_count p b ≤ 160
few_variables p b fit = at_most 160 (variable_count p b) (λ many. fit (variables many))

pub few_fields : (p : Program) (b : BodyId) → (HasTooManyPlaces p b → ⊥) → owning_count p b ≤ 16
few_fields p b fit = at_most 16 (owning_count p b) (λ many. fit (fields many))

-- sets of places have room for the variables and the owning fields of a body that has not too many places
pub has_room : (p : Program) (b : BodyId) → HasListedFields p → (HasTooManyPlaces p b → ⊥) → HasRoom p b
has_room p b listed fit = record {
  variables = subst (λ (n : ℕ). n ≤ 160) (sym (same_variables (body_at p b))) (few_variables p b fit);
  fields = λ f has. field_small p b f (field_at p f) refl has listed (few_fields p b fit);
}
