-- Behind a call that creates the obligation of `this` anew, what an owning field of `this` holds is covered by the fact that the call bears for it.
use Rattle.std.proofs.Common.{◌≡◌, ℕ, ◌<◌, Bool, true, false, true≢false, ◌&&◌, not, Option, Some, List, slice_get, eqb, eq-eqb, refl, sym, ap, ◌∙◌, subst}
use Rattle.std.specs.FinSet as set
use Rattle.std.proofs.lemmas.Bool.{and_from}
use Rattle.std.proofs.lemmas.Option.{slice_get-get_or}
use Rattle.rlc_base.proofs.SetLaws.{empty_within, within_self, within_trans}
use Rattle.program_model.specs.declared.kinds.ClassId.{ClassId}
use Rattle.program_model.specs.declared.kinds.FieldId.{FieldId}
use Rattle.program_model.specs.declared.kinds.VType.{VType}
use Rattle.program_model.specs.declared.kinds.VType.TheVariants as types
use Rattle.program_model.specs.declared.program.Class.{Class}
use Rattle.program_model.specs.declared.program.Field.{Field}
use Rattle.program_model.specs.declared.program.Method.{Method}
use Rattle.program_model.specs.declared.program.Program.{Program}
use Rattle.program_model.specs.Lookups.{field_at, method_at}
use Rattle.program_model.specs.SuperTests.{is_class}
use Rattle.ledger_obligations.specs.Bodies.{fields_in, fields_of, fields_of_method, has_field_place, is_class_of, is_field_in, method_of}
use Rattle.ledger_obligations.specs.MustCallSets.{Names, fits, is_empty, is_heavy_class, must_of, must_of_optional, must_of_type, no_names}
use Rattle.ownership_rules.specs.Signatures.{type_of_field}
use Rattle.java_control.specs.Calls.{is_reset_of_this}
use Rattle.java_control.specs.Control.{Step}
use Rattle.java_control.specs.Owned.{place_of_field}
use Rattle.java_control.specs.PlaceNumbers.{IsSmall, number_of}
use Rattle.java_control.specs.Remaining.{Todo}
use Rattle.control_actions.specs.declared.fact.Fact.{Fact}
use Rattle.control_actions.specs.declared.fact.Mode.TheVariants as modes
use Rattle.control_actions.specs.declared.fact.Origin.{Origin}
use Rattle.control_actions.specs.declared.place.Place.{Place}
use Rattle.control_actions.specs.declared.place.Place.TheVariants as places
use Rattle.ownership_rules.specs.Births.{births_of_step, fact_at}
use Rattle.ownership_rules.specs.Facts.{has, is_own, without}
use Rattle.value_laws.specs.Accept.{Accept}
use Rattle.value_laws.specs.Paths.{Reach, born, move_of, relation_of}
use Rattle.ledger_state.specs.Contents.{HeapContents}
use Rattle.ledger_state.specs.declared.entry.Owner.TheVariants as owners
use Rattle.ledger_state.specs.Heaps.{root_of}
use Rattle.ledger_state.specs.declared.object.Object.{Object}
use Rattle.ledger_state.specs.declared.value.Value.TheVariants as values
use Rattle.value_laws.specs.Agreement.{Stands}
use Rattle.value_laws.specs.Choosing.{body_id, frame_steps}
use Rattle.value_laws.specs.Configuration.{Frame}
use Rattle.value_laws.specs.FactGoing.{is_in_this}
use Rattle.value_laws.specs.PlaceFacts.{Covers, IsTrueOf, claims, fits_field, fits_in, is_heavy_field, is_heavy_in}
use Rattle.value_laws.specs.Places.{owning_field_beside, place_value}
use Rattle.value_laws.specs.Renewing.{IsOwnedByThis, answers_for_fields, fact_as, is_declared_beside}
use Rattle.value_laws.proofs.FieldPlaces.{IsBeside, place_of_beside}
use Rattle.value_laws.proofs.PlaceLaws.{single_place-alone}
use Rattle.value_laws.specs.Heaps.{GoesOn}
use Rattle.covering_laws.proofs.HeavyFields.{claims_answered, claims_owned, tells_apart}
use Rattle.covering_laws.proofs.Births.{at_itself, at_one}
use Rattle.covering_laws.proofs.Bodies.{running_method}
use Rattle.covering_laws.proofs.BornTruths.{field_unlent}
use Rattle.covering_laws.proofs.FieldBirths.{field_origin, reset_bears}
use Rattle.covering_laws.proofs.Following.{method_here, step_there}
use Rattle.covering_laws.proofs.InFields.{gone_without, kept_without, place_in}

-- a fact that is at the place of one field is at no other place of `this`
pub alone_in_this : (n : ℕ) → n < 16 → is_in_this (without (fact_at (places.Field n) modes.Held no_names true).places (places.Field n)) ≡ false
alone_in_this n room = go (is_in_this (without (fact_at (places.Field n) modes.Held no_names true).places (places.Field n))) refl
  where
    other : (q : Place) → IsSmall q → has (without (fact_at (places.Field n) modes.Held no_names true).places (places.Field n)) q ≡ true → (b : Bool) → eqb (number_of q) (number_of (places.Field n)) ≡ b → ⊥
    other q small is true same = true≢false (sym is ∙ gone_without (fact_at (places.Field n) modes.Held no_names true).places (places.Field n) q same)
    other q small is false apart =
        let one : places.Field n ≡ q = at_one (places.Field n) room modes.Held no_names true q small (kept_without (fact_at (places.Field n) modes.Held no_names true).places (places.Field n) q apart ∙ is) in
        true≢false (sym (eq-eqb (number_of q) (number_of (places.Field n)) (ap number_of (sym one))) ∙ apart)

    go : (b : Bool) → is_in_this (without (fact_at (places.Field n) modes.Held no_names true).places (places.Field n)) ≡ b → is_in_this (without (fact_at (places.Field n) modes.Held no_names true).places (places.Field n)) ≡ false
    go false out = out
    go true inside = absurd (let it = place_in (without (fact_at (places.Field n) modes.Held no_names true).places (places.Field n)) inside in other it.0 it.1 it.3 _ refl)

module _ (p : Program) (ac : Accept p) (k : HeapContents) (fr : Frame) (st : Stands p fr) (i : ℕ) (s : Step) (here : slice_get (frame_steps p fr) i ≡ Some s) (resets : is_reset_of_this p s.action ≡ true)
    (after : Frame) (old : ℕ → Bool) (frs : List Frame) (method : after.method ≡ fr.method) (control : after.control ≡ s.to) (n : ℕ) (room : n < 16) (f : FieldId) (beside : owning_field_beside p fr.method n ≡ Some f) where
  -- the method that runs
  abbrev pub ran : Method
  ran = (running_method p ac fr st).0

  ran_at : method_at p fr.method ≡ Some ran
  ran_at = (running_method p ac fr st).1

  pub field : IsBeside p ran n f
  field = place_of_beside p ac.well_formed.valid.typed fr.method ran n f ran_at room beside

  own_body : method_of p st.number ≡ Some ran
  own_body = method_here p fr st ∙ ran_at

  has_place : has_field_place p st.number f ≡ true
  has_place = ap (is_field_in p st.number) field.at ∙ rw (field.owning, own_body) (ap (is_class field.field.class) (sym field.class) ∙ eq-eqb field.field.class.0 field.field.class.0 refl)

  listed : slice_get (fields_of p st.number) field.among'.0 ≡ Some f
  listed =
      ap (λ (m : Option Method). slice_get (fields_of_method p m) field.among'.0) own_body ∙ ap (λ (k' : Option Class). slice_get (fields_in k') field.among'.0) field.there
      ∙ slice_get-get_or field.holder.fields.items field.among'.0 f field.among'.1 ∙ ap Some field.among'.2

  -- the field is of this class
  module _ (c : ClassId) (type : field.field.vtype ≡ types.Obj c) where
    abbrev pub origin : Origin
    origin = field_origin p f s.pos c

    abbrev pub fact : Fact
    fact = fact_at (places.Field n) modes.Held no_names true

    birth : (j : ℕ) × (slice_get (births_of_step p st.number s.action s.edge s.pos) j ≡ Some (origin, fact))
    birth =
        let bears = reset_bears p st.number s.action s.edge s.pos field.among'.0 f field.field c resets listed has_place field.at type in
        (bears.0, bears.1 ∙ ap (λ (j : ℕ). Some (origin, fact_at (places.Field j) modes.Held no_names true)) field.number)

    heavy_here : is_heavy_field p after.method (places.Field n) ≡ is_heavy_class p c
    heavy_here =
        ap (λ m. is_heavy_field p m (places.Field n)) method ∙ ap (is_heavy_in p) beside ∙ ap (λ (x : Option Field). not (is_empty (must_of_optional p (type_of_field x)))) field.at
        ∙ ap (λ (t : VType). not (is_empty (must_of_type p t))) type

    fits_here : fits_field p after.method n c ≡ true
    fits_here =
        ap (λ m. fits_field p m n c) method ∙ ap (fits_in p c) beside ∙ ap (λ (x : Option Field). set.is_subset (must_of p c) (must_of_optional p (type_of_field x))) field.at
        ∙ ap (λ (t : VType). set.is_subset (must_of p c) (must_of_type p t)) type ∙ within_self (must_of p c)

    -- The field holds the object. Where the frame answers for the fields of `this` the fact claims it, if its class has an obligation: what it says is true, and that field owns it. Elsewhere
    -- the object's obligation is not read as created anew.
    module _ (anew : Bool) (o : ℕ) (y : Object) (root : root_of k (place_value p k after.method after.locals (places.Field n)) ≡ Some o)
        (truth : claims p (method_at p after.method) origin fact ≡ true → IsTrueOf p y origin fact)
        (mine : y.finished ≡ true → answers_for_fields (method_at p after.method) ≡ true → is_heavy_class p c ≡ true → (d : IsOwnedByThis p after y.owner) × (d.field ≡ f))
        (sure : answers_for_fields (method_at p after.method) ≡ false → anew ≡ false) where
      field_is : (q : Place) → IsSmall q → has fact.places q ≡ true → places.Field n ≡ q
      field_is q small is = at_one (places.Field n) room modes.Held no_names true q small is

      number_is : (j : ℕ) → j < 16 → has fact.places (places.Field j) ≡ true → n ≡ j
      number_is j inside is = let same : places.Field n ≡ places.Field j = field_is (places.Field j) inside is in (let one : n ≡ j = cc in one)

      -- it is so however it is read
      as_read : (b : Bool) → IsTrueOf p y origin fact → IsTrueOf p y origin (fact_as b fact)
      as_read true it = it
      as_read false it = it

      pub covers : Covers p k false anew old frs after o y
      covers = record {
        body = st.number;
        id = ap (body_id p) method ∙ st.id;
        origin = origin;
        fact = fact;
        reached = subst (λ (t : List Todo). Reach p st.number (relation_of p st.number) origin t fact) (sym control) (born i birth.0 (move_of s) st.control (step_there p fr st i s here) birth.1);
        alone = single_place-alone (places.Field n) room;
        places = λ kept z small lent is. subst (λ (u : Place). root_of k (place_value p k after.method after.locals u) ≡ Some o) (field_is z small is) root;
        true' = λ claimed spared keeps. as_read anew (truth claimed);
        lent = λ lent. absurd (true≢false (sym lent ∙ field_unlent p f (method_at p after.method)));
        free = λ done held answers keeps heavy.
            let own = mine done answers heavy in (
              refl,
              (
                own.0,
                ap (λ g. has fact.places (place_of_field p g)) own.1 ∙ ap (λ (j : ℕ). has fact.places (places.Field j)) field.number ∙ at_itself (places.Field n) room modes.Held no_names true,
                ap (λ g. is_in_this (without fact.places (place_of_field p g))) own.1 ∙ ap (λ (j : ℕ). is_in_this (without fact.places (places.Field j))) field.number ∙ alone_in_this n room,
              ),
            );
        lends = λ lent done. absurd (let never : modes.Held ≡ modes.Lent = lent in cc);
        makes = λ constructor this. absurd (true≢false (sym this));
        begun = λ lent. absurd (let never : modes.Held ≡ modes.Lent = lent in cc);
        unrenewed = λ done tells apart. sure (tells_apart p after.method origin fact tells);
        known = λ done tells apart stays. empty_within _;
        fields = λ j inside wide is. subst (λ (l : ℕ). fits_field p after.method l c ≡ true) (number_is j inside is) fits_here;
        held = λ j inside is heavy. (refl, sym heavy_here ∙ ap (λ (l : ℕ). is_heavy_field p after.method (places.Field l)) (number_is j inside is) ∙ heavy);
        outside = λ plain other j inside is. refl;
      }

      pub here_now : has fact.places (places.Field n) ≡ true
      here_now = at_itself (places.Field n) room modes.Held no_names true

    -- behind a step of the frame's own: where the frame answers for the fields of `this`, the field owned the object before it, and still does
    module _ (this : after.locals.this ≡ fr.locals.this) (anew : Bool) (o : ℕ) (x y : Object) (goes : x.finished ≡ true → GoesOn x y) (root : root_of k (place_value p k after.method after.locals (places.Field n)) ≡ Some o)
        (held : answers_for_fields (method_at p fr.method) ≡ true → is_heavy_class p c ≡ true → (w : ℕ) × (fr.locals.this ≡ values.Object w) × (y.owner ≡ owners.Field w f) × IsTrueOf p x origin fact)
        (sure : answers_for_fields (method_at p fr.method) ≡ false → anew ≡ false) where
      answers_then : answers_for_fields (method_at p after.method) ≡ true → answers_for_fields (method_at p fr.method) ≡ true
      answers_then answers = ap (λ m. answers_for_fields (method_at p m)) (sym method) ∙ answers

      declared : is_declared_beside p after.method (field_at p f) ≡ true
      declared =
          ap (is_declared_beside p after.method) field.at ∙ ap (λ m. field.field.owning && is_class_of field.field.class (method_at p m)) method
          ∙ and_from field.field.owning (is_class_of field.field.class (method_at p fr.method)) field.owning
          (ap (is_class_of field.field.class) ran_at ∙ ap (λ (d : ClassId). is_class d ran.class) field.class ∙ eq-eqb ran.class.0 ran.class.0 refl)

      mine_then : y.finished ≡ true → answers_for_fields (method_at p after.method) ≡ true → is_heavy_class p c ≡ true → (d : IsOwnedByThis p after y.owner) × (d.field ≡ f)
      mine_then done answers wide =
          let it = held (answers_then answers) wide in
          (record { field = f; declared = declared; holder = it.0; runs = this ∙ it.1; owns = it.2 }, refl)

      truth_then : claims p (method_at p after.method) origin fact ≡ true → IsTrueOf p y origin fact
      truth_then claimed =
          let truth = (held (answers_then (claims_answered p (method_at p after.method) origin fact refl claimed)) (claims_owned p (method_at p after.method) origin fact claimed).0).3 in
          let on = goes truth.finished in
          let class : fits p y.class c ≡ true = ap (λ (z : ClassId). fits p z c) on.class ∙ truth.class in
          let bounded : set.is_subset y.must (must_of p y.class) ≡ true = ap (λ (s' : Names). set.is_subset s' (must_of p y.class)) on.must ∙ ap (λ (z : ClassId). set.is_subset x.must (must_of p z)) on.class ∙ truth.bounded in
          record { finished = on.finished ∙ truth.finished; class = class; bounded = bounded; need = within_trans y.must (must_of p y.class) (must_of p c) bounded class; called = empty_within _ }

      sure_then : answers_for_fields (method_at p after.method) ≡ false → anew ≡ false
      sure_then none = sure (ap (λ m. answers_for_fields (method_at p m)) (sym method) ∙ none)

      -- what is born there
      pub born_anew : (d : Covers p k false anew old frs after o y) × (has d.fact.places (places.Field n) ≡ true)
          × (claims p (method_at p after.method) d.origin d.fact ≡ true
          → (is_own d.fact.mode ≡ false) × ((d.fact.called ≡ no_names) × (d.fact.full ≡ true)) × ((g : FieldId) × (w : ℕ) × (y.owner ≡ owners.Field w g) × (place_of_field p g ≡ places.Field n)))
      unfolding covers
      born_anew = (
        covers anew o y root truth_then mine_then sure_then,
        here_now anew o y root truth_then mine_then sure_then,
        λ claimed.
            let it = held (answers_then (claims_answered p (method_at p after.method) origin fact refl claimed)) (claims_owned p (method_at p after.method) origin fact claimed).0 in (
              refl,
              (refl, refl),
              (f, it.0, it.2, ap (λ (j : ℕ). places.Field j) field.number),
            ),
      )
