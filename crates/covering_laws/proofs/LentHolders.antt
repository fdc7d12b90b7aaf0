-- What a frame creates the obligation of anew, and a fact in mode Held claims: a field of what its constructor makes owns it, or one of `this`, which is lent; or it is `this`, which the frame lends.
use Rattle.std.proofs.Common.{◌≡◌, inl, inr, ap, refl, sym, subst, ◌∙◌, ℕ, ◌<◌, Bool, true, false, not, true≢false, eq-eqb, Option, Some, None, List, ◌∷◌}
use Rattle.std.proofs.lemmas.Bool.{and_from, and_parts, not-true, or_right}
use Rattle.program_model.specs.declared.kinds.BodyId.{BodyId}
use Rattle.program_model.specs.declared.kinds.ClassId.{ClassId}
use Rattle.program_model.specs.declared.kinds.FieldId.{FieldId}
use Rattle.program_model.specs.declared.program.Method.{Method}
use Rattle.program_model.specs.declared.program.Program.{Program}
use Rattle.program_model.specs.Lookups.{field_at, method_at}
use Rattle.program_model.specs.SuperTests.{is_class}
use Rattle.ledger_obligations.specs.Bodies.{alias_in, constructs, is_class_of, reset_in}
use Rattle.ledger_obligations.specs.MustCallSets.{is_heavy_class}
use Rattle.java_control.specs.Owned.{field_number, is_owning_field, place_of_field}
use Rattle.java_control.specs.PlaceNumbers.{IsSmall}
use Rattle.control_actions.specs.declared.fact.Mode.TheVariants as modes
use Rattle.control_actions.specs.declared.place.Place.{Place}
use Rattle.control_actions.specs.declared.place.Place.TheVariants as places
use Rattle.ownership_rules.specs.Facts.{has, is_held}
use Rattle.ownership_rules.specs.Signatures.{is_position, is_present}
use Rattle.ledger_state.specs.Contents.{HeapContents}
use Rattle.ledger_state.specs.Fields.{field_value}
use Rattle.ledger_state.specs.Heaps.{object_at, root_of, unfinished as no_object}
use Rattle.ledger_state.specs.Values.{number_of}
use Rattle.ledger_state.specs.declared.entry.Owner.{Owner}
use Rattle.ledger_state.specs.declared.object.Link.{Link}
use Rattle.ledger_state.specs.declared.object.Object.{Object}
use Rattle.ledger_state.specs.declared.value.Value.{Value}
use Rattle.ledger_state.specs.declared.value.Value.TheVariants as values
use Rattle.value_laws.specs.Accept.{Accept}
use Rattle.value_laws.specs.Agreement.{Stands}
use Rattle.value_laws.specs.Choosing.{body_id}
use Rattle.value_laws.specs.Configuration.{Frame}
use Rattle.value_laws.specs.Chains.{HaveEnds}
use Rattle.value_laws.specs.FieldContents.{AreUnfinished, FieldsOwn, IsFieldOfClass}
use Rattle.value_laws.specs.Frames.{KeepsTargets}
use Rattle.value_laws.specs.Heaps.{HasEarlierLinks}
use Rattle.value_laws.specs.Holders.{HoldersAreUnlinked}
use Rattle.value_laws.specs.Paths.{Reach, relation_of}
use Rattle.value_laws.specs.PlaceFacts.{Covers, IsCovered, IsInField, OwesOrHolds, claims, fits_in, is_heavy_in}
use Rattle.value_laws.specs.PlacePlaces.{is_local}
use Rattle.value_laws.specs.Places.{owning_field_beside}
use Rattle.value_laws.specs.PlainForms.{HasPlainForms}
use Rattle.value_laws.specs.Ranges.{LocalsInRange}
use Rattle.value_laws.specs.Renewing.{IsWhole, is_declared_beside, HasOwningField, IsHeldByLent, IsLentFrom, answers_for_fields, lends_this, makes_alone, reopens}
use Rattle.value_laws.proofs.FieldPlaces.{place_of_beside}
use Rattle.value_laws.proofs.HeldPlaces.{held_in_this}
use Rattle.value_laws.proofs.Chains.{object_there}
use Rattle.value_laws.proofs.RootLaws.{root_itself}
use Rattle.value_laws.proofs.Spared.{declares}
use Rattle.covering_laws.proofs.Bodies.{running_method}
use Rattle.covering_laws.proofs.Following.{same_body}
use Rattle.covering_laws.proofs.HeavyFields.{HasPlace, answering_not_idle, answers_by, heavy_by_place, held_claims, held_mode, value_here}
use Rattle.covering_laws.proofs.InFields.{held_finished, held_in_field, owning_place, place_in}
use Rattle.covering_laws.proofs.Owners.{held_at}
use Rattle.covering_laws.proofs.RenewedOperands.{HoldsLent, IsHeldOrLent, IsMadeHere}
use Rattle.covering_laws.proofs.ThisLent.{lent_this, this_lent}
use Rattle.covering_laws.proofs.ThisOperands.{lends_target}

module _ (p : Program) (ac : Accept p) (forms : HasPlainForms p) (h : HeapContents) (links : HasEarlierLinks h) (own : FieldsOwn p h) (fr : Frame) (mine : LocalsInRange h fr.locals) (st : Stands p fr) (old : ℕ → Bool) (frs : List Frame)
    (targets : KeepsTargets p fr) (have : HaveEnds h) (unfinished : AreUnfinished p h (fr ∷ frs)) where
  running : (m : Method) × (method_at p st.body.method ≡ Some m) × (method_at p fr.method ≡ Some m)
  running = let run = running_method p ac fr st in (run.0, ap (method_at p) st.method ∙ run.1, run.1)

  reached_here : (away anew : Bool) (o : ℕ) (x : Object) (c : Covers p h away anew old frs fr o x) → Reach p st.number (relation_of p st.number) c.origin fr.control c.fact
  reached_here away anew o x c = subst (λ (b : BodyId). Reach p b (relation_of p b) c.origin fr.control c.fact) (same_body c.body st.number (body_id p fr.method) c.id st.id) c.reached

  -- ---- in a constructor, and in a method that creates the obligation of `this` anew

  module _ (answers : answers_for_fields (method_at p fr.method) ≡ true) where
    -- a fact in mode Held of a class with an obligation, which the frame does not read as a fact of `this`, has the place of an owning field that the class of the frame's method declares
    has_declared : (away anew : Bool) (o : ℕ) (x : Object) (c : Covers p h away anew old frs fr o x) → c.fact.mode ≡ modes.Held → is_heavy_class p c.origin.class ≡ true → (f : FieldId) × (is_declared_beside p fr.method (field_at p f) ≡ true)
    has_declared away anew o x c held wide =
        let inside = held_in_this p ac st.number st.body running.0 st.at running.1 (λ k i t g d comes here is. (forms.stores st.number i t g d comes here is)) c.origin fr.control c.fact (reached_here away anew o x c) (ap is_held held) in
        let z = place_in c.fact.places inside in
        by z.0 z.1 z.2 z.3
      where
        placed : (n : ℕ) → n < 16 → (f : Option FieldId) → owning_field_beside p fr.method n ≡ f → fits_in p c.origin.class f ≡ true → (g : FieldId) × (is_declared_beside p fr.method (field_at p g) ≡ true)
        placed n small None none fits = absurd (true≢false (sym fits))
        placed n small (Some f) beside fits =
            let b = place_of_beside p ac.well_formed.valid.typed fr.method running.0 n f running.2 small beside in (
              f,
              ap (is_declared_beside p fr.method) b.at ∙ and_from b.field.owning (is_class_of b.field.class (method_at p fr.method)) b.owning
                  (ap (is_class_of b.field.class) running.2 ∙ ap (λ (k : ClassId). is_class k running.0.class) b.class ∙ eq-eqb running.0.class.0 running.0.class.0 refl),
            )

        by : (q : Place) → IsSmall q → is_local q ≡ false → has c.fact.places q ≡ true → (g : FieldId) × (is_declared_beside p fr.method (field_at p g) ≡ true)
        by (places.Var i) small out is = absurd (true≢false out)
        by (places.Temp d) small out is = absurd (true≢false out)
        by places.This small out is = absurd (let never : modes.Held ≡ modes.Lent = sym held ∙ this_lent p ac h fr st old frs answers away anew o x c is in cc)
        by places.Super small out is = absurd (let never : None ≡ Some o = c.places (answering_not_idle p frs fr c.fact answers) places.Super small refl is in cc)
        by (places.Field n) small out is = placed n small (owning_field_beside p fr.method n) refl (c.fields n small wide is)

    module _ (gives : ℕ → ClassId → Bool) (renewed : ℕ → Owner → Bool) (covered : IsCovered p h gives renewed old frs fr) where
      no_constructor : reopens (method_at p fr.method) ≡ true → constructs (method_at p fr.method) ≡ false
      no_constructor opens = not-true (constructs (method_at p fr.method)) (and_parts (not (constructs (method_at p fr.method))) (is_position (reset_in (method_at p fr.method)) 0) opens).0

      -- ---- what a fact in mode Held claims, where the frame does not lend `this`

      module _ (o : ℕ) (x : Object) (at : object_at h o ≡ Some x) (heavy : is_heavy_class p x.class ≡ true) (done : x.finished ≡ true) (away anew : Bool) (c : Covers p h away anew old frs fr o x)
          (held : is_held c.fact.mode ≡ true) (wide : is_heavy_class p c.origin.class ≡ true) (keeps : lends_this p fr ≡ false) where
        in_field : IsInField p fr c.fact.places x.owner
        in_field = held_in_field p h away anew old frs fr o x c done held answers keeps wide

        abbrev w : ℕ
        w = in_field.0.holder

        abbrev f : FieldId
        f = in_field.0.field

        place : HasPlace p fr f
        place = owning_place p fr st ac x.owner in_field.0

        value : root_of h (field_value p h w f) ≡ Some o
        value = ap (root_of h) (sym (value_here p h fr f place w in_field.0.runs)) ∙ c.places (answering_not_idle p frs fr c.fact answers) (place_of_field p f) place.small keeps in_field.1

        heavy_field : is_heavy_in p (Some f) ≡ true
        heavy_field = ap (is_heavy_in p) (sym place.beside) ∙ heavy_by_place p fr.method (field_number p f) c.origin.class wide (c.fields (field_number p f) place.small wide in_field.1)

        -- `this` is lent, and it is finished
        module _ (opens : reopens (method_at p fr.method) ≡ true) (unlinked : HoldersAreUnlinked (is_heavy_class p) h) where
          y : (y : Object) × (object_at h w ≡ Some y) × (y.link ≡ None) × (is_heavy_class p y.class ≡ true)
          y = unlinked o x w f at heavy in_field.0.owns

          owns : IsFieldOfClass p f y.0.class
          owns = (own w y.0 f o x y.1 (ap is_owning_field place.at ∙ place.owning) heavy_field value at heavy).0

          fields : HasOwningField p y.0.class
          fields = (f, owns.0, owns.1, sym (ap is_owning_field owns.1) ∙ ap is_owning_field place.at ∙ place.owning, owns.2)

          root_here : root_of h fr.locals.this ≡ Some w
          root_here = ap (root_of h) in_field.0.runs ∙ ap Some (root_itself h w y.0 y.1 y.2)

          bears : OwesOrHolds p h w y.0
          bears = inr (inl (o, x, at, done, heavy, held_at x.owner w f in_field.0.owns))

          by_lent : IsHeldByLent p h (IsLentFrom p h frs) fr x.owner
          by_lent = record {
            holder = w;
            field = f;
            owns = in_field.0.owns;
            runs = in_field.0.runs;
            method = no_constructor opens;
            object = y.0;
            at = y.1;
            whole = inr fields;
            unlinked = λ done. y.2;
            heavy = y.3;
            lends = lent_this p ac h fr st old frs answers gives renewed covered (no_constructor opens) w y.0 root_here y.1 y.3 bears (inr fields);
          }

        held_or_lent : HoldersAreUnlinked (is_heavy_class p) h → IsHeldOrLent p h frs fr o x.owner
        held_or_lent unlinked = elim (answers_by (method_at p fr.method) answers) [
          | inl alone ↦ inr (inl (alone, in_field.0))
          | inr opens ↦ inr (inr (inl (by_lent opens unlinked)))
        ]

  -- ---- facts in mode Held of what the frame creates the obligation of anew

  module _ (gives : ℕ → ClassId → Bool) (renewed : ℕ → Owner → Bool) (covered : IsCovered p h gives renewed old frs fr) where
    -- where the frame lends `this`, it is `this`
    pub holds_lent : HoldersAreUnlinked (is_heavy_class p) h → HoldsLent p h old frs fr st
    holds_lent unlinked o x at heavy owes whole anew' away anew c held answers wide = go (lends_this p fr) refl
      where
        claimed : claims p (method_at p fr.method) c.origin c.fact ≡ true
        claimed = held_claims p (method_at p fr.method) c.origin c.fact answers (held_mode c.fact.mode held) wide

        -- what a constructor makes
        made : makes_alone (method_at p fr.method) ≡ true → root_of h fr.locals.this ≡ Some o → IsMadeHere p fr o x.owner
        made alone root' = by fr.locals.this refl
          where
            declared : (f : FieldId) × (is_declared_beside p fr.method (field_at p f) ≡ true)
            declared = has_declared answers away anew o x c (held_mode c.fact.mode held) wide

            makes : constructs (method_at p fr.method) ≡ true
            makes = (and_parts (constructs (method_at p fr.method)) (not (is_present (alias_in (method_at p fr.method)))) alone).0

            by : (v : Value) → fr.locals.this ≡ v → IsMadeHere p fr o x.owner
            by (values.Object k) this = (record { alone = alone; field = declared.0; declared = declared.1; runs = this ∙ ap values.Object same }, have.unfinished o x at (ap (λ (u : Object). u.finished) here ∙ open'))
              where
                there : (y : Object) × (object_at h k ≡ Some y)
                there = let number = mine.this k (ap number_of this) in let class : ClassId = record { 0 = 0 } in object_there h k (no_object class) number.0 number.1

                open' : there.0.finished ≡ false
                open' = unfinished.0 k there.0 (declares p fr.method declared.0 declared.1) makes this there.1

                none : (l : Option Link) → there.0.link ≡ l → there.0.link ≡ None
                none None is = is
                none (Some l) some = absurd (true≢false (sym (links k there.0 l there.1 some).finished ∙ open'))

                same : k ≡ o
                same = let both : Some k ≡ Some o = ap Some (sym (root_itself h k there.0 there.1 (none there.0.link refl))) ∙ sym (ap (root_of h) this) ∙ root' in cc

                here : x ≡ there.0
                here = let both : Some x ≡ Some there.0 = sym at ∙ sym (ap (object_at h) same) ∙ there.1 in cc
            by values.Nothing this = absurd (let never : None ≡ Some o = sym (ap (root_of h) this) ∙ root' in cc)
            by v this = absurd (let never : None ≡ Some o = sym (ap (root_of h) this) ∙ root' in cc)

        go : (b : Bool) → lends_this p fr ≡ b → IsHeldOrLent p h frs fr o x.owner
        go false keeps = held_or_lent answers gives renewed covered o x at heavy (held_finished p h away anew old frs fr o x c claimed held keeps) away anew c held wide keeps unlinked
        go true lends = let root' = lends_target p ac fr st targets h o lends anew' in elim (answers_by (method_at p fr.method) answers) [
          | inl alone ↦ inr (inr (inr (made alone root')))
          | inr opens ↦ inl (lent_this p ac h fr st old frs answers gives renewed covered (no_constructor answers gives renewed covered opens) o x root' at heavy owes whole)
        ]

    -- the `this` of a method that creates its obligation anew is lent
    pub opened_this : reopens (method_at p fr.method) ≡ true → (w : ℕ) (y : Object) → fr.locals.this ≡ values.Object w → object_at h w ≡ Some y → is_heavy_class p y.class ≡ true → OwesOrHolds p h w y → y.link ≡ None
        → IsWhole p y → IsLentFrom p h frs w y.owner
    opened_this opens w y this at heavy owes single whole =
        let answers = or_right (makes_alone (method_at p fr.method)) (reopens (method_at p fr.method)) opens in
        lent_this p ac h fr st old frs answers gives renewed covered (no_constructor answers gives renewed covered opens) w y (ap (root_of h) this ∙ ap Some (root_itself h w y at single)) at heavy owes whole
