-- The place of an owning field of `this` as a method begins that runs on an object: it is in the fact that is born of the field at the entry. Where the method creates the obligation of `this` anew, this claims
-- what the field owns.
use Rattle.java_control.specs.Control.{start_of}
use Rattle.std.specs.Prelude.{◌-◌, ◌<◌, ◌||◌, not, if◌then◌else◌}
use Rattle.std.specs.FinSet as set
use Rattle.std.proofs.Common.{◌≡◌, ◌⊎◌, inl, inr, ℕ, Bool, true, false, not, Option, Some, None, List, slice_get, refl, sym, ap, ◌∙◌, subst, true≢false, eq-eqb}
use Rattle.std.proofs.lemmas.Bool.{and_from, and_parts}
use Rattle.std.proofs.lemmas.Option.{slice_get-get_or}
use Rattle.rlc_base.proofs.SetLaws.{within_self}
use Rattle.program_model.specs.declared.kinds.ClassId.{ClassId}
use Rattle.program_model.specs.declared.kinds.FieldId.{FieldId}
use Rattle.program_model.specs.declared.kinds.MethodKind.TheVariants as methods
use Rattle.program_model.specs.declared.kinds.VType.{VType}
use Rattle.program_model.specs.declared.kinds.VType.TheVariants as types
use Rattle.program_model.specs.declared.program.Class.{Class}
use Rattle.program_model.specs.declared.program.Field.{Field}
use Rattle.program_model.specs.declared.program.Method.{Method}
use Rattle.program_model.specs.declared.program.Program.{Program}
use Rattle.program_model.specs.Lookups.{field_at, method_at}
use Rattle.program_model.specs.SuperTests.{is_class}
use Rattle.ledger_obligations.specs.Bodies.{alias_in, constructs, fields_in, fields_of, fields_of_method, has_field_place, is_class_of, is_constructor_kind, is_field_in, method_in, method_of}
use Rattle.ledger_obligations.specs.MustCallSets.{is_empty, is_heavy_class, must_of, must_of_optional, must_of_type, no_names}
use Rattle.ownership_rules.specs.Signatures.{is_present, type_of_field}
use Rattle.java_control.specs.Owned.{field_number}
use Rattle.control_actions.specs.declared.fact.Fact.{Fact}
use Rattle.control_actions.specs.declared.fact.Mode.TheVariants as modes
use Rattle.control_actions.specs.declared.fact.Origin.{Origin}
use Rattle.control_actions.specs.declared.place.Place.{Place}
use Rattle.control_actions.specs.declared.place.Place.TheVariants as places
use Rattle.ownership_rules.specs.Facts.{has, is_held, is_own, without}
use Rattle.ownership_rules.specs.Births.{births_at_entry, fact_at, field_birth, owning_field_birth}
use Rattle.value_laws.specs.Accept.{Accept}
use Rattle.ledger_state.specs.Contents.{HeapContents}
use Rattle.ledger_state.specs.Fields.{field_of}
use Rattle.ledger_state.specs.Heaps.{root_of, root}
use Rattle.ledger_state.specs.declared.entry.Owner.TheVariants as owners
use Rattle.ledger_state.specs.declared.object.Object.{Object}
use Rattle.ledger_state.specs.declared.value.Value.TheVariants as values
use Rattle.value_laws.specs.Places.{field_place_value, owning_field_beside}
use Rattle.value_laws.specs.Configuration.{Frame}
use Rattle.value_laws.proofs.FieldPlaces.{IsBeside}
use Rattle.value_laws.specs.Agreement.{Stands}
use Rattle.value_laws.specs.PlaceFacts.{Covers, IsTrueOf, IsUnowned, claims, fits_field, fits_in, is_heavy_in, IsInField}
use Rattle.covering_laws.proofs.HeavyFields.{claims_owned, claims_by}
use Rattle.covering_laws.proofs.BegunFrames.{entered_covers}
use Rattle.covering_laws.proofs.EntryBirths.{of_field}
use Rattle.covering_laws.proofs.CallResults.{born_unowned}
use Rattle.covering_laws.proofs.BornTruths.{field_unlent}
use Rattle.value_laws.specs.Renewing.{makes_alone, answers_for_fields, is_declared_beside, reopens}
use Rattle.covering_laws.proofs.FieldBirths.{field_fact, field_origin}
use Rattle.covering_laws.proofs.BirthsAnew.{alone_in_this}
use Rattle.covering_laws.proofs.Births.{at_itself}
use Rattle.value_laws.specs.FactGoing.{is_in_this}

-- the place is that of an owning field, which owns the object, and the fact does not say that the frame owns it
abbrev pub IsInFieldAt : Program → Place → Object → Fact → Type 0
IsInFieldAt p q y f = (n : ℕ) × (q ≡ places.Field n) × (g : FieldId) × (field_number p g ≡ n) × (w : ℕ) × (y.owner ≡ owners.Field w g) × (is_own f.mode ≡ false)

module _ (p : Program) (ac : Accept p) (k : HeapContents) (fr : Frame) (st : Stands p fr) (starts : fr.control ≡ start_of p st.number) (old : ℕ → Bool) (frs : List Frame) (run : Method) (runs : method_at p fr.method ≡ Some run)
    (own_method : method_at p st.body.method ≡ Some run) (instance : run.kind ≡ methods.Instance) (n o : ℕ) (y : Object) (room : n < 16) (f : FieldId) (field : IsBeside p run n f) (beside : owning_field_beside p fr.method n ≡ Some f)
    (root : root_of k (field_of p k fr.locals.this f) ≡ Some o) (w : ℕ) (this : fr.locals.this ≡ values.Object w) (c : ClassId) (type : field.field.vtype ≡ types.Obj c)
    (answered : reopens (Some run) ≡ true → is_heavy_class p c ≡ true → is_heavy_in p (Some f) ≡ true → (y.owner ≡ owners.Field w f) × IsTrueOf p y (field_origin p f field.field.pos c) (field_fact p f)) where
  own_body : method_of p st.number ≡ Some run
  own_body = ap (method_in p) st.at ∙ own_method

  has_place : has_field_place p st.number f ≡ true
  has_place = ap (is_field_in p st.number) field.at ∙ rw (field.owning, own_body) (ap (is_class field.field.class) (sym field.class) ∙ eq-eqb field.field.class.0 field.field.class.0 refl)

  listed : slice_get (fields_of p st.number) field.among'.0 ≡ Some f
  listed =
      ap (λ (m : Option Method). slice_get (fields_of_method p m) field.among'.0) own_body ∙ ap (λ (d : Option Class). slice_get (fields_in d) field.among'.0) field.there
      ∙ slice_get-get_or field.holder.fields.items field.among'.0 f field.among'.1 ∙ ap Some field.among'.2

  abbrev g : Origin
  g = field_origin p f field.field.pos c

  abbrev its : Fact
  its = fact_at (places.Field n) modes.Held no_names true

  born : field_birth p st.number None f ≡ Some (g, its)
  born = ap (λ (b : Bool). if b then owning_field_birth p f None (field_at p f) else None) has_place ∙ ap (owning_field_birth p f None) field.at
      ∙ rw type (ap (λ (d : ℕ). Some (g, fact_at (places.Field d) modes.Held no_names true)) field.number)

  birth : (d : ℕ) × (slice_get (births_at_entry p st.number) d ≡ Some (g, its))
  birth = of_field p st.number st.body run st.at own_method field.among'.0 f (g, its) instance listed born

  typed : is_heavy_in p (Some f) ≡ is_heavy_class p c
  typed = ap (λ (x : Option Field). not (is_empty (must_of_optional p (type_of_field x)))) field.at ∙ ap (λ (t : VType). not (is_empty (must_of_type p t))) type

  fits_here : fits_field p fr.method n c ≡ true
  fits_here =
      ap (fits_in p c) beside ∙ ap (λ (x : Option Field). set.is_subset (must_of p c) (must_of_optional p (type_of_field x))) field.at
      ∙ ap (λ (t : VType). set.is_subset (must_of p c) (must_of_type p t)) type ∙ within_self (must_of p c)

  -- it is no constructor
  opens : answers_for_fields (method_at p fr.method) ≡ true → reopens (Some run) ≡ true
  opens answers = go (makes_alone (Some run)) refl (ap answers_for_fields (sym runs) ∙ answers)
    where
      go : (b : Bool) → makes_alone (Some run) ≡ b → (b || reopens (Some run)) ≡ true → reopens (Some run) ≡ true
      go true alone one = absurd (true≢false (sym (and_parts (constructs (Some run)) (not (is_present (alias_in (Some run)))) alone).0 ∙ ap is_constructor_kind instance))
      go false alone one = one

  -- the field owns the object, and the birth is true of it
  owned_here : answers_for_fields (method_at p fr.method) ≡ true → is_heavy_class p c ≡ true → (y.owner ≡ owners.Field w f) × IsTrueOf p y g its
  owned_here answers heavy =
      let both = answered (opens answers) heavy (typed ∙ heavy) in
      (both.0, subst (λ (d : ℕ). IsTrueOf p y g (fact_at (places.Field d) modes.Held no_names true)) field.number both.1)

  in_field : answers_for_fields (method_at p fr.method) ≡ true → is_heavy_class p c ≡ true → IsInField p fr its.places y.owner
  in_field answers heavy = (
    record {
      field = f;
      declared = ap (is_declared_beside p fr.method) field.at
          ∙ and_from field.field.owning (is_class_of field.field.class (method_at p fr.method)) field.owning (ap (is_class_of field.field.class) runs ∙ ap (λ (d : ClassId). is_class d run.class) field.class ∙ eq-eqb run.class.0 run.class.0 refl);
      holder = w;
      runs = this;
      owns = (owned_here answers heavy).0;
    },
    ap (λ (d : ℕ). has its.places (places.Field d)) field.number ∙ at_itself (places.Field n) room modes.Held no_names true,
    ap (λ (d : ℕ). is_in_this (without its.places (places.Field d))) field.number ∙ alone_in_this n room,
  )

  answers_by : (is_own its.mode ≡ true) ⊎ ((is_held its.mode ≡ true) × (answers_for_fields (method_at p fr.method) ≡ true)) → answers_for_fields (method_at p fr.method) ≡ true
  answers_by (inl never) = absurd (true≢false (sym never))
  answers_by (inr (held, answers)) = answers

  covers : (z : Covers p k false false old frs fr o y) × (has z.fact.places (places.Field n) ≡ true) × (z.origin ≡ g) × (z.fact ≡ its)
  covers = entered_covers p k fr st starts old frs (places.Field n) o y g modes.Held no_names true birth.0 room birth.1
      (ap (λ (x : Option FieldId). root_of k (field_place_value p k fr.locals.this x)) beside ∙ root)
      (λ claimed said. (owned_here (answers_by (claims_by p (method_at p fr.method) g its claimed)) (claims_owned p (method_at p fr.method) g its claimed).0).1)
      (λ lent. absurd (true≢false (sym lent ∙ field_unlent p f (method_at p fr.method)))) (λ held. within_self no_names)
      (λ done held answers keeps wide. in_field answers wide) (λ lent done. absurd (let never : modes.Held ≡ modes.Lent = lent in cc)) (λ constructor this'. absurd (true≢false (sym this')))
      (λ lent other fields open'. absurd (let never : modes.Held ≡ modes.Lent = lent in cc))
      (λ d same wide. subst (λ (i : ℕ). fits_field p fr.method i c ≡ true) (let is : places.Field n ≡ places.Field d = same in (let one : n ≡ d = cc in one)) fits_here)
      (λ d same heavy. (refl, sym (ap (is_heavy_in p) beside ∙ typed) ∙ heavy)) (λ other d same. refl)

  its_mode : (z : Fact) → z ≡ its → is_own z.mode ≡ false
  its_mode z same = ap (λ (u : Fact). is_own u.mode) same

  -- the place is in a fact that claims what the field owns, or in one that claims nothing
  pub field_born : ((z : Covers p k false false old frs fr o y) × (has z.fact.places (places.Field n) ≡ true) × (claims p (method_at p fr.method) z.origin z.fact ≡ true) × IsInFieldAt p (places.Field n) y z.fact)
      ⊎ IsUnowned p k false false old frs fr (places.Field n) o y
  field_born = by (answers_for_fields (method_at p fr.method)) (is_heavy_class p c) refl refl
    where
      free : (b : Bool) → claims p (method_at p fr.method) g its ≡ b → (claims p (method_at p fr.method) g its ≡ true → ⊥) → b ≡ false
      free true is never = absurd (never is)
      free false is never = refl

      none : (claims p (method_at p fr.method) g its ≡ true → ⊥) → IsUnowned p k false false old frs fr (places.Field n) o y
      none never = born_unowned p k false old frs fr (places.Field n) o y g its covers (free (claims p (method_at p fr.method) g its) refl never)

      by : (a b : Bool) → answers_for_fields (method_at p fr.method) ≡ a → is_heavy_class p c ≡ b
          → ((z : Covers p k false false old frs fr o y) × (has z.fact.places (places.Field n) ≡ true) × (claims p (method_at p fr.method) z.origin z.fact ≡ true) × IsInFieldAt p (places.Field n) y z.fact) ⊎ IsUnowned p k false false old frs fr (places.Field n) o y
      by true true answers heavy = inl (
        covers.0,
        covers.1,
        ap (λ (u : Origin). claims p (method_at p fr.method) u (covers.0).fact) covers.2 ∙ ap (claims p (method_at p fr.method) g) covers.3 ∙ and_from (is_heavy_class p c) (answers_for_fields (method_at p fr.method)) heavy answers,
        (n, refl, f, field.number, w, (owned_here answers heavy).0, its_mode (covers.0).fact covers.3),
      )
      by true false answers light = inr (none (λ is. true≢false (sym (claims_owned p (method_at p fr.method) g its is).0 ∙ light)))
      by false b silent heavy = inr (none (λ is. true≢false (sym (answers_by (claims_by p (method_at p fr.method) g its is)) ∙ silent)))
