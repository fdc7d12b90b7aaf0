-- The owning field that stands at a number among those of its class.
use Rattle.std.proofs.Common.{◌≡◌, ◌∙◌, sym, ap, refl, subst, arith, ℕ, ◌+◌, ◌<◌, zero, suc, Bool, true, false, not, ◌&&◌, cond, Option, Some, None, List, [], ◌∷◌, length, filter, take, nat_eq, one-add, min, eqb-true}
use Rattle.std.specs.Prelude.{slice_get}
use Rattle.std.specs.List.{Contains, prefix_len}
use Rattle.std.specs.Option.{IsSomeAnd}
use Rattle.std.proofs.lemmas.Bool.{eq-eqb}
use Rattle.std.proofs.lemmas.Option.{slice_get-get_or}
use Rattle.program_model.specs.declared.kinds.BodyId.{BodyId}
use Rattle.program_model.specs.declared.kinds.FieldId.{FieldId}
use Rattle.program_model.specs.declared.program.Class.{Class}
use Rattle.program_model.specs.declared.program.Field.{Field}
use Rattle.program_model.specs.declared.program.Method.{Method}
use Rattle.program_model.specs.declared.program.Program.{Program}
use Rattle.program_model.specs.declared.tree.Body.{Body}
use Rattle.program_model.specs.Lookups.{body_at, class_at, field_at, method_at}
use Rattle.program_model.specs.SuperTests.{is_class}
use Rattle.program_model.specs.Validity.{IsTypedProgram}
use Rattle.java_control.specs.PlaceNumbers.{IsSmall}
use Rattle.java_control.specs.Owned.{fields_beside, fields_in, field_number, is_beside_method, is_owning, is_owning_field, owning_before, place_of_field}
use Rattle.control_actions.specs.declared.place.Place.{Place}
use Rattle.control_actions.specs.declared.place.Place.TheVariants as places
use Rattle.ledger_steps.specs.Bodies.{has_field_place, is_class_of, is_field_in, method_in}
use Rattle.frame_laws.specs.Room.{HasRoom}
use Rattle.ledger_state.specs.declared.locals.Locals.{Locals}
use Rattle.ledger_state.specs.Contents.{HeapContents}
use Rattle.frame_laws.specs.Places.{class_by, class_of_method, field_place_value, owning_field, owning_field_beside}
use Rattle.dispatch_laws.specs.Values.{IsNoObjectBut}
use Rattle.dispatch_laws.specs.FrameValues.{FieldsHoldNone}
use Rattle.value_laws.specs.Types.{StoredHoldNone}
use Rattle.value_laws.proofs.ValueTypeFields.{field_of_none}

-- ---- the fields before a field

both_first : (f : FieldId) (r : Bool) (g : FieldId) (xs ys : List FieldId) → slice_get ys (length xs) ≡ Some f → slice_get (cond r (g ∷ ys) ys) (length (cond r (g ∷ xs) xs)) ≡ Some f
both_first f true g xs ys at = at
both_first f false g xs ys at = at

-- `same` tells whether the first field is the one that is looked for, and `n` fields stand before it among the others
first_field : (test : FieldId → Bool) (f : FieldId) (same : Bool) (g : FieldId) (rest : List FieldId) (n : ℕ) → (same ≡ true → (test g ≡ true) × (g ≡ f))
    → (same ≡ false → slice_get (filter test rest) (length (filter test (take n rest))) ≡ Some f)
    → slice_get (filter test (g ∷ rest)) (length (filter test (take (cond (not same) (1 + n) 0) (g ∷ rest)))) ≡ Some f
first_field test f true g rest n here behind =
    let first = here refl in
    subst (λ (r : Bool). slice_get (cond r (g ∷ filter test rest) (filter test rest)) 0 ≡ Some f) (sym first.0) (ap Some first.1)
first_field test f false g rest n here behind =
    subst (λ (m : ℕ). slice_get (filter test (g ∷ rest)) (length (filter test (take m (g ∷ rest)))) ≡ Some f) (sym (one-add n))
    (both_first f (test g) g (filter test (take n rest)) (filter test rest) (behind refl))

before_listed : (p : Program) (f : FieldId) (listed : List FieldId) (k : ℕ) → slice_get listed k ≡ Some f → is_owning p f ≡ true
    → slice_get (filter (is_owning p) listed) (length (owning_before p f listed)) ≡ Some f
before_listed p f [] k at own = absurd (let never : None ≡ Some f = at in cc)
before_listed p f (g ∷ rest) zero at own =
    let here : g ≡ f = (let both : Some g ≡ Some f = at in cc) in
    let test : nat_eq g.0 f.0 ≡ true = eq-eqb g.0 f.0 (ap (λ (h : FieldId). h.0) here) in
    first_field (is_owning p) f (nat_eq g.0 f.0) g rest (prefix_len (λ (h : FieldId). not (nat_eq h.0 f.0)) rest)
    (λ same. (ap (is_owning p) here ∙ own, here)) (λ other. absurd (let never : true ≡ false = sym test ∙ other in cc))
before_listed p f (g ∷ rest) (suc k) at own =
    first_field (is_owning p) f (nat_eq g.0 f.0) g rest (prefix_len (λ (h : FieldId). not (nat_eq h.0 f.0)) rest)
    (λ same. (let here : g ≡ f = ap (λ (n : ℕ). (let z : FieldId = record { 0 = n } in z)) (eqb-true g.0 f.0 same) in (ap (is_owning p) here ∙ own, here)))
    (λ other. before_listed p f rest k at own)

-- ---- the class of the body

below_bound : (n k : ℕ) → min n 4294967295 ≡ k → k < 16 → n ≡ k
below_bound n k is small = omega (arith, is, small)

is_listed : (o : Option Class) (f : FieldId) → IsSomeAnd o (λ k. Contains k.fields.items f) → (i : ℕ) × (slice_get (fields_in o) i ≡ Some f)
is_listed None f has = absurd has
is_listed (Some k) f has = (has.0, slice_get-get_or k.fields.items has.0 f has.1 ∙ ap Some has.2)

module _ (p : Program) (typed : IsTypedProgram p) (n : BodyId) (b : Body) (at : body_at p n ≡ Some b) (room : HasRoom p n) where
  -- the field of this number is the owning field that the class of the method declares
  module _ (f : FieldId) (k : ℕ) (place : place_of_field p f ≡ places.Field k) (own : is_owning p f ≡ true) where
    number : field_number p f ≡ k
    number = let same : places.Field (field_number p f) ≡ places.Field k = place in cc

    by_parts : (x : Field) (m : Method) → field_at p f ≡ Some x → method_at p b.method ≡ Some m → is_class m.class x.class ≡ true → owning_field_beside p b.method k ≡ Some f
    by_parts x m there method same =
        ap (λ (o : Option Method). owning_field p (class_by p (class_of_method o)) k) method
        ∙ (ap (λ (i : ℕ). slice_get (filter (is_owning p) (fields_in (slice_get p.classes.items i))) k) same_class ∙ (ap (slice_get (filter (is_owning p) (fields_in (class_at p x.class)))) (sym before) ∙ stands))
      where
        same_class : m.class.0 ≡ x.class.0
        same_class = eqb-true m.class.0 x.class.0 same

        stands : slice_get (filter (is_owning p) (fields_in (class_at p x.class))) (length (owning_before p f (fields_in (class_at p x.class)))) ≡ Some f
        stands = let listed = is_listed (class_at p x.class) f (typed.fields f x there).listed in before_listed p f (fields_in (class_at p x.class)) listed.0 listed.1 own

        beside : length (owning_before p f (fields_beside p (field_at p f))) ≡ length (owning_before p f (fields_in (class_at p x.class)))
        beside = ap (λ (y : Option Field). length (owning_before p f (fields_beside p y))) there

        has_place : has_field_place p n f ≡ true
        has_place =
            ap (is_field_in p n) there
            ∙ (ap (λ (t : Bool). t && is_class_of x.class (method_in p (body_at p n))) (sym (ap is_owning_field there) ∙ own)
            ∙ (ap (λ (o : Option Body). is_class_of x.class (method_in p o)) at ∙ (ap (is_class_of x.class) method ∙ eq-eqb x.class.0 m.class.0 (sym same_class))))

        before : length (owning_before p f (fields_in (class_at p x.class))) ≡ k
        before =
            sym beside
            ∙ below_bound (length (owning_before p f (fields_beside p (field_at p f)))) k number
            (subst (λ (z : Place). IsSmall z) place (room.fields f has_place))

    by_field : (x : Option Field) (m : Option Method) → field_at p f ≡ x → method_at p b.method ≡ m → is_beside_method x m ≡ true → owning_field_beside p b.method k ≡ Some f
    by_field x None there method declared = absurd (let never : false ≡ true = declared in cc)
    by_field None (Some m) there method declared = absurd (let never : false ≡ true = declared in cc)
    by_field (Some x) (Some m) there method declared = by_parts x m there method declared

  pub fields_hold_none : (texts : ℕ → Bool) (h : HeapContents) (l : Locals) → StoredHoldNone texts p h → FieldsHoldNone texts p h b.method b l
  fields_hold_none texts h l all k has =
      subst (λ (o : Option FieldId). IsNoObjectBut texts (field_place_value p h l.this o))
      (sym (by_field has.field k has.place has.owning (field_at p has.field) (method_at p b.method) refl refl has.declared))
      (field_of_none texts p h l.this has.field all has.kind)
