-- The top frame, a constructor or a method that creates the obligation of `this` anew, stores into an owning field of `this`: what the places of the frames hold stays covered.
use Rattle.std.proofs.Common.{◌≡◌, ◌⊎◌, inl, inr, ℕ, ◌+◌, ◌<◌, arith, Bool, true, false, not, ◌&&◌, cond, Option, Some, None, List, [], ◌∷◌, length, slice_get, nat_eq, eqb, eq-eqb, eqb-true, refl, sym, ap, ◌∙◌, subst, true≢false, if◌then◌else◌}
use Rattle.std.specs.FinSet as set
use Rattle.std.proofs.lemmas.Bool.{and_from, and_parts, or_left, or_right, not-true}
use Rattle.rlc_base.proofs.SetLaws.{within_trans}
use Rattle.program_model.specs.declared.kinds.FieldId.{FieldId}
use Rattle.program_model.specs.declared.program.Method.{Method}
use Rattle.program_model.specs.declared.program.Program.{Program}
use Rattle.ledger_obligations.specs.Bodies.{alias_in, alias_position, constructs, is_alias_constructor, is_constructor, reset_in}
use Rattle.ledger_obligations.specs.MustCallSets.{Names, fits_type, is_heavy_class, must_of, must_of_optional}
use Rattle.ownership_rules.specs.Signatures.{field_type, is_position, is_present}
use Rattle.java_control.specs.Control.{Step}
use Rattle.java_control.specs.Owned.{field_number, place_of_field}
use Rattle.java_control.specs.PlaceNumbers.{IsSmall, number_of}
use Rattle.java_control.specs.Sources.{is_place, source}
use Rattle.control_actions.specs.declared.action.Action.{Action}
use Rattle.control_actions.specs.declared.action.Action.TheVariants as actions
use Rattle.control_actions.specs.declared.fact.Fact.{Fact}
use Rattle.control_actions.specs.declared.fact.Mode.TheVariants as modes
use Rattle.control_actions.specs.declared.fact.Origin.{Origin}
use Rattle.control_actions.specs.declared.fact.OriginKind.{OriginKind}
use Rattle.control_actions.specs.declared.place.Place.{Place}
use Rattle.control_actions.specs.declared.place.Place.TheVariants as places
use Rattle.ownership_rules.specs.Facts.{PlaceSet, has, is_held, is_origin_at, is_own, without}
use Rattle.ownership_rules.specs.SmallActions.{IsSmallAction}
use Rattle.value_laws.specs.OwningFieldsStores.{is_heavy_store}
use Rattle.value_laws.specs.Paths.{Reach, move_of, relation_of}
use Rattle.value_laws.specs.Accept.{Accept}
use Rattle.ledger_state.specs.Contents.{HeapContents}
use Rattle.ledger_state.specs.Fields.{field_of, field_value}
use Rattle.ledger_state.specs.Heaps.{object_at, root_of}
use Rattle.ledger_state.specs.declared.entry.Owner.TheVariants as owners
use Rattle.ledger_state.specs.Locals.{temp_value}
use Rattle.ledger_state.specs.declared.object.Object.{Object}
use Rattle.ledger_state.specs.declared.value.Value.{Value}
use Rattle.ledger_state.specs.declared.value.Value.TheVariants as values
use Rattle.value_laws.specs.Places.{field_place_value, owning_field_beside, place_value}
use Rattle.value_laws.specs.Configuration.{Frame}
use Rattle.value_laws.specs.Choosing.{body_by, frame_steps, method_body}
use Rattle.value_laws.specs.Frames.{frame_after}
use Rattle.value_laws.specs.Heaps.{HasEarlierLinks}
use Rattle.value_laws.specs.PlacePlaces.{HasTarget, is_local}
use Rattle.value_laws.proofs.PlaceLaws.{places_stay_in_range, single_place-same, value_comes_from_source}
use Rattle.value_laws.proofs.SetLaws.{has_copied}
use Rattle.value_laws.specs.PlaceRows.{copied}
use Rattle.value_laws.specs.Agreement.{Stands}
use Rattle.value_laws.specs.PlainForms.{HasPlainForms, StoresPlainly}
use Rattle.value_laws.specs.FactGoing.{ArePlaces, IsLeft, IsTaken, StoresAs, left, taken}
use Rattle.value_laws.specs.FieldContents.{RunOnOthers}
use Rattle.value_laws.specs.PlaceFacts.{Covers, IsApart, IsCovered, IsInField, IsKeyed, IsOld, IsOwned, IsTrueOf, IsUnowned, asked_of, claims, fits_field, fits_in, gives_none, is_frame_from, is_heavy_field, is_heavy_in, is_idle, is_lent, is_lent_place, is_owning_fact, OwesOrHolds, owned, tells_calls, unowned, renews_none}
use Rattle.value_laws.proofs.FieldPlaces.{place_of_beside}
use Rattle.value_laws.proofs.ValuesAfter.{IsFrom, value_is_from}
use Rattle.covering_laws.proofs.HeavyFields.{HasPlace, alone_answers, answers_by, claims_answered, claims_as, claims_owned, heavy_here, held_claims, held_mode, held_tells, known_on, lent_not_alone, lent_tells, own_claims, owning_in_no_field, tells_apart, tells_by, unclaimed_not_owning}
use Rattle.covering_laws.proofs.Following.{method_here, step_there}
use Rattle.covering_laws.proofs.Storing.{Goes, answers_here, goes, held_here, keeps, none_lent, now, said, small, storing, there}
use Rattle.covering_laws.proofs.Owners.{StaysApart, apart_before, from_frame}
use Rattle.covering_laws.proofs.InFields.{declared_by_place, gone_without, held_in_field, in_field_on, in_this, kept_without, one_field, out_of_this, owned_at, owning_out_of_this, owning_place, place_by_number}
use Rattle.covering_laws.proofs.TopSteps.{other_alone}
use Rattle.covering_laws.proofs.Waiting.{AllKeep, Carries, Continues, HoldsThere, IsCarried, KeepsReady, KeepsRoots, numbered, bore_before, still_true, value_root, stays_unowned, still_unfinished, was_open}
use Rattle.program_model.specs.Lookups.{method_at}
use Rattle.value_laws.specs.Renewing.{HasOwningField, answers_for_fields, lends_this, makes_alone}

not_and : (a b : Bool) → b ≡ false → (a && b) ≡ false
not_and true b is = is
not_and false b is = refl

-- where the store is one of what has an obligation, the class or the field's type has one
light_class : (p : Program) (o : Origin) (f : FieldId) → is_heavy_store p o f ≡ false → is_heavy_class p o.class ≡ true → ⊥
light_class p o f light heavy = true≢false (sym (or_left (is_heavy_class p o.class) (is_heavy_in p (Some f)) heavy) ∙ light)

light_type : (p : Program) (o : Origin) (f : FieldId) → is_heavy_store p o f ≡ false → is_heavy_in p (Some f) ≡ true → ⊥
light_type p o f light heavy = true≢false (sym (or_right (is_heavy_class p o.class) (is_heavy_in p (Some f)) heavy) ∙ light)

-- the aliased argument of a constructor is lent to it
abbrev pub ArgumentIsLent : (p : Program) → (fr : Frame) → Stands p fr → Type 0
ArgumentIsLent p fr st = is_alias_constructor p st.number ≡ true → (kind : OriginKind) → is_origin_at kind (alias_position p st.number) ≡ true → is_lent p (method_at p fr.method) kind ≡ true

-- where the frame, at this position, owns the object in t(d), and the field's type bounds it, the field of object `w` owns it after the store, unless the constructor has an aliased
-- argument
abbrev pub FieldTakes : (p : Program) → HeapContents → HeapContents → ℕ → (fr : Frame) → Stands p fr → ℕ → FieldId → ℕ → Type 0
FieldTakes p h k j fr st w f d =
    (o : ℕ) (x y : Object) → object_at h o ≡ Some x → object_at k o ≡ Some y → is_heavy_class p x.class ≡ true → root_of h (temp_value fr.locals d) ≡ Some o → x.finished ≡ true → fits_type p x.class (field_type p f) ≡ true
    → is_alias_constructor p st.number ≡ false → x.owner ≡ owners.Frame j → y.owner ≡ owners.Field w f

-- what the frame owns it goes on owning, or t(d) holds it, the field's type has an obligation, and this is no constructor with an aliased argument
abbrev pub OwnerStays : (p : Program) → HeapContents → HeapContents → ℕ → (fr : Frame) → Stands p fr → FieldId → ℕ → Type 0
OwnerStays p h k j fr st f d =
    (o : ℕ) (x y : Object) → object_at h o ≡ Some x → object_at k o ≡ Some y → is_heavy_class p x.class ≡ true → OwesOrHolds p h o x → x.owner ≡ owners.Frame j
    → (y.owner ≡ owners.Frame j) ⊎ ((root_of h (temp_value fr.locals d) ≡ Some o) × (is_alias_constructor p st.number ≡ false) × (is_heavy_in p (Some f) ≡ true))

-- What another field of `this` owns it goes on owning; and what the field owns and t(d) holds.
pub record FieldsStay (p : Program) (h k : HeapContents) (fr : Frame) (w : ℕ) (f : FieldId) (d : ℕ) : Type 0 where
  pub other : (o : ℕ) (x y : Object) (g : FieldId) → object_at h o ≡ Some x → object_at k o ≡ Some y → is_heavy_class p x.class ≡ true → x.owner ≡ owners.Field w g → (g ≡ f → ⊥) → y.owner ≡ x.owner
  pub same : (o : ℕ) (x y : Object) → object_at h o ≡ Some x → object_at k o ≡ Some y → root_of h (temp_value fr.locals d) ≡ Some o → x.owner ≡ owners.Field w f → y.owner ≡ x.owner

-- what a fact with t(d) stands for the frame owns, and the field's type bounds it, or the field owns it, where the field's type has an obligation and this is no constructor with an aliased argument
pub temp_fits : (p : Program) (ac : Accept p) (forms : HasPlainForms p) (h : HeapContents) (old : ℕ → Bool) (frs : List Frame) (fr : Frame) (st : Stands p fr) (covered : IsCovered p h gives_none renews_none old frs fr) (i d : ℕ) (s : Step) (f : FieldId)
    (here : slice_get (frame_steps p fr) i ≡ Some s) (is : s.action ≡ actions.PutOwn f d) (plainly : StoresPlainly p (method_at p fr.method) f) (o : ℕ) (x : Object) (w : ℕ) → fr.locals.this ≡ values.Object w → (c : Covers p h false false old frs fr o x) → has c.fact.places (places.Temp d) ≡ true → is_heavy_in p (Some f) ≡ true
    → is_alias_constructor p st.number ≡ false → ((is_owning_fact p c.origin c.fact ≡ true) × (fits_type p c.origin.class (field_type p f) ≡ true)) ⊎ (x.owner ≡ owners.Field w f)
temp_fits p ac forms h old frs fr st covered i d s f here is plainly o x w this c in' heavy plain =
    by (goes p ac forms h old frs fr st covered i d s f here is plainly o x c (place_of_field p f)
    (has_copied c.fact.places (place_of_field p f) (places.Temp d) (place_of_field p f) room.1 room.1 ∙ rw (eq-eqb (field_number p f) (field_number p f) refl) in'))
  where
    mine : HasPlace p fr f
    mine = there p ac forms h old frs fr st covered i d s f here is plainly

    room : IsSmallAction p (actions.PutOwn f d)
    room = small p ac forms h old frs fr st covered i d s f here is plainly

    in_field : (b : Bool) → has c.fact.places (place_of_field p f) ≡ b → (has c.fact.places (place_of_field p f) ≡ false → is_heavy_store p c.origin f ≡ false) → x.owner ≡ owners.Field w f
    in_field false out light = absurd (light_type p c.origin f (light out) heavy)
    in_field true there' light =
        let was = c.held (field_number p f) mine.small there' (heavy_here p h fr f mine heavy) in
        let answers = answers_here p ac forms h old frs fr st covered i d s f here is plainly plain in
        let keeps' = keeps p ac forms h old frs fr st covered i d s f here is plainly in
        let field =
        held_in_field p h false false old frs fr o x c (c.true' (held_claims p (method_at p fr.method) c.origin c.fact answers was.0 was.1) refl (held_here p ac forms h old frs fr st covered i d s f here is plainly c.fact)).finished (ap is_held was.0) answers keeps'
        was.1 in
        owned_at p fr x.owner w f this field.0 (one_field p fr st ac c.fact.places x.owner field f mine there')

    by : (g : Fact) × Reach p st.number (relation_of p st.number) c.origin s.to g × Goes p ac forms h old frs fr st covered i d s f here is plainly o x c g
        → ((is_owning_fact p c.origin c.fact ≡ true) × (fits_type p c.origin.class (field_type p f) ≡ true)) ⊎ (x.owner ≡ owners.Field w f)
    by (g, reach, (same, taken reset called full t)) = elim t.may [ inl own ↦ inl (and_from (is_heavy_class p c.origin.class) (is_own c.fact.mode) t.heavy (ap is_own own), t.fits) | inr alias ↦ absurd (true≢false (sym alias.0 ∙ plain)) ]
    by (g, reach, (same, left reset called full l)) = inr (in_field (has c.fact.places (place_of_field p f)) refl (l.light in'))

pub temp_is_taken : (p : Program) (ac : Accept p) (forms : HasPlainForms p) (h : HeapContents) (old : ℕ → Bool) (frs : List Frame) (fr : Frame) (st : Stands p fr) (covered : IsCovered p h gives_none renews_none old frs fr) (i d : ℕ) (s : Step) (f : FieldId)
    (here : slice_get (frame_steps p fr) i ≡ Some s) (is : s.action ≡ actions.PutOwn f d) (plainly : StoresPlainly p (method_at p fr.method) f) (o : ℕ) (x : Object) (w : ℕ) → fr.locals.this ≡ values.Object w → (c : Covers p h false false old frs fr o x) → has c.fact.places (places.Temp d) ≡ true → is_heavy_in p (Some f) ≡ true
    → is_alias_constructor p st.number ≡ false → (is_owning_fact p c.origin c.fact ≡ true) ⊎ (x.owner ≡ owners.Field w f)
temp_is_taken p ac forms h old frs fr st covered i d s f here is plainly o x w this c in' heavy plain =
    elim (temp_fits p ac forms h old frs fr st covered i d s f here is plainly o x w this c in' heavy plain) [ inl own ↦ inl own.0 | inr field ↦ inr field ]

module _ (p : Program) (ac : Accept p) (forms : HasPlainForms p) (h k : HeapContents) (links : HasEarlierLinks h) (roots : KeepsRoots h k) (carries : Carries h k)
    (old : ℕ → Bool) (frs : List Frame) (fr : Frame) (st : Stands p fr) (covered : IsCovered p h gives_none renews_none old frs fr) (aged : IsOld p h frs fr old) (lent' : ArgumentIsLent p fr st)
    (i d : ℕ) (s : Step) (f : FieldId) (here : slice_get (frame_steps p fr) i ≡ Some s) (is : s.action ≡ actions.PutOwn f d) (plainly : StoresPlainly p (method_at p fr.method) f) (w : ℕ) (this : fr.locals.this ≡ values.Object w)
    (holds_here : field_value p k w f ≡ temp_value fr.locals d)
    (holds_other : (u : ℕ) (g : FieldId) → ((u ≡ w) × (g ≡ f) → ⊥) → field_value p k u g ≡ field_value p h u g)
    (inside : HoldsThere p h fr) (ready : KeepsReady p h k fr) (v : Value) (others : StaysApart p h k frs fr) (takes : FieldTakes p h k (length frs + 1) fr st w f d)
    (stays : OwnerStays p h k (length frs + 1) fr st f d) (lasting : FieldsStay p h k fr w f d) where
  abbrev after : Frame
  after = frame_after p h fr s v

  mine : HasPlace p fr f
  mine = there p ac forms h old frs fr st covered i d s f here is plainly

  room : IsSmallAction p (actions.PutOwn f d)
  room = small p ac forms h old frs fr st covered i d s f here is plainly

  body_here : method_body p fr.method ≡ Some st.body
  body_here = ap (body_by p) st.id ∙ st.at

  -- the place of the field takes the value of t(d), and all others keep theirs
  at_field : place_value p k fr.method after.locals (place_of_field p f) ≡ temp_value fr.locals d
  at_field = ap (field_place_value p k fr.locals.this) mine.beside ∙ ap (λ (u : Value). field_of p k u f) this ∙ holds_here

  other_of : (u : Value) (g : FieldId) → (g ≡ f → ⊥) → field_of p k u g ≡ field_of p h u g
  other_of (values.Object n) g apart = holds_other n g (λ same. apart same.1)
  other_of u g apart = refl

  at_other : (n : ℕ) → n < 16 → nat_eq (field_number p f) n ≡ false → field_place_value p k fr.locals.this (owning_field_beside p fr.method n) ≡ field_place_value p h fr.locals.this (owning_field_beside p fr.method n)
  at_other n less apart = go (owning_field_beside p fr.method n) refl
    where
      go : (x : Option FieldId) → owning_field_beside p fr.method n ≡ x → field_place_value p k fr.locals.this x ≡ field_place_value p h fr.locals.this x
      go None e = refl
      go (Some g) e = other_of fr.locals.this g (λ same. true≢false (sym (eq-eqb (field_number p f) n
          (ap (field_number p) (sym same) ∙ (place_of_beside p ac.well_formed.valid.typed fr.method mine.method n g mine.named less e).number)) ∙ apart))

  source_itself : (q : Place) → is_local q ≡ true → source p st.body s.action s.edge q ≡ Some q
  source_itself q local = ap (λ (a : Action). source p st.body a s.edge q) is ∙ go q local
    where
      go : (z : Place) → is_local z ≡ true → source p st.body (actions.PutOwn f d) s.edge z ≡ Some z
      go (places.Var j) one = refl
      go (places.Temp j) one = refl
      go places.This one = absurd (true≢false (sym one))
      go (places.Field j) one = absurd (true≢false (sym one))
      go places.Super one = absurd (true≢false (sym one))

  -- a place other than the field's that held the object holds it
  keeps_root : (q : Place) (o : ℕ) → IsSmall q → is_place (place_of_field p f) q ≡ false → root_of h (place_value p h fr.method fr.locals q) ≡ Some o → root_of k (place_value p k fr.method after.locals q) ≡ Some o
  keeps_root q o less apart root = go q less apart root
    where
      same : (z : Place) → IsSmall z → place_value p k fr.method after.locals z ≡ place_value p h fr.method fr.locals z → root_of h (place_value p h fr.method fr.locals z) ≡ Some o → root_of k (place_value p k fr.method after.locals z) ≡ Some o
      same z less' e was = ap (root_of k) e ∙ value_root h k roots (place_value p h fr.method fr.locals z) (inside z less') ∙ was

      local : (z : Place) → IsSmall z → is_local z ≡ true → root_of h (place_value p h fr.method fr.locals z) ≡ Some o → root_of k (place_value p k fr.method after.locals z) ≡ Some o
      local z less' one was =
          same z less' (value_comes_from_source p h k fr.method st.body fr.locals s.action s.edge v z z o body_here less' one (subst (HasTarget fr.locals) (sym is) tt) (source_itself z one) was) was

      go : (z : Place) → IsSmall z → is_place (place_of_field p f) z ≡ false → root_of h (place_value p h fr.method fr.locals z) ≡ Some o → root_of k (place_value p k fr.method after.locals z) ≡ Some o
      go (places.Var j) less' apart' was = local (places.Var j) less' refl was
      go (places.Temp j) less' apart' was = local (places.Temp j) less' refl was
      go places.This less' apart' was = same places.This less' refl was
      go (places.Field n) less' apart' was = same (places.Field n) less' (at_other n less' apart') was
      go places.Super less' apart' was = same places.Super less' refl was

  -- and it held the object that it holds
  had_root : (q : Place) (o : ℕ) → IsSmall q → is_place (place_of_field p f) q ≡ false → root_of k (place_value p k fr.method after.locals q) ≡ Some o → root_of h (place_value p h fr.method fr.locals q) ≡ Some o
  had_root q o less apart root = go q less apart root
    where
      back : (z : Place) → IsSmall z → place_value p k fr.method after.locals z ≡ place_value p h fr.method fr.locals z → root_of k (place_value p k fr.method after.locals z) ≡ Some o → root_of h (place_value p h fr.method fr.locals z) ≡ Some o
      back z less' e now' = sym (value_root h k roots (place_value p h fr.method fr.locals z) (inside z less')) ∙ ap (root_of k) (sym e) ∙ now'

      local : (z : Place) → IsSmall z → is_local z ≡ true → root_of k (place_value p k fr.method after.locals z) ≡ Some o → root_of h (place_value p h fr.method fr.locals z) ≡ Some o
      local z less' one now' =
          back z less' (subst (IsFrom p h k fr.method st.body fr.locals s.action s.edge v body_here z) (source_itself z one) (value_is_from p h k fr.method st.body fr.locals s.action s.edge v body_here z o less' one now')) now'

      go : (z : Place) → IsSmall z → is_place (place_of_field p f) z ≡ false → root_of k (place_value p k fr.method after.locals z) ≡ Some o → root_of h (place_value p h fr.method fr.locals z) ≡ Some o
      go (places.Var j) less' apart' now' = local (places.Var j) less' refl now'
      go (places.Temp j) less' apart' now' = local (places.Temp j) less' refl now'
      go places.This less' apart' now' = back places.This less' refl now'
      go (places.Field n) less' apart' now' = back (places.Field n) less' (at_other n less' apart') now'
      go places.Super less' apart' now' = back places.Super less' refl now'

  -- a constructor with an aliased argument does not answer for the fields of `this`
  makes : is_alias_constructor p st.number ≡ true → constructs (method_at p fr.method) ≡ true
  makes aliased = ap constructs (sym (method_here p fr st)) ∙ (and_parts (is_constructor p st.number) (is_present (alias_position p st.number)) aliased).0

  not_alone : is_alias_constructor p st.number ≡ true → answers_for_fields (method_at p fr.method) ≡ true → ⊥
  not_alone aliased answers = elim (answers_by (method_at p fr.method) answers) [
    | inl alone ↦
        (let here' = (and_parts (is_constructor p st.number) (is_present (alias_position p st.number)) aliased).1 in
        let none = (and_parts (constructs (method_at p fr.method)) (not (is_present (alias_in (method_at p fr.method)))) alone).1 in
        true≢false (sym here' ∙ ap (λ (m : Option Method). is_present (alias_in m)) (method_here p fr st) ∙ not-true (is_present (alias_in (method_at p fr.method))) none))
    | inr opens ↦ true≢false (sym (makes aliased) ∙ not-true (constructs (method_at p fr.method)) (and_parts (not (constructs (method_at p fr.method))) (is_position (reset_in (method_at p fr.method)) 0) opens).0)
  ]

  keeps' : lends_this p fr ≡ false
  keeps' = keeps p ac forms h old frs fr st covered i d s f here is plainly

  -- in no place that is lent, something is said of each fact
  said' : (g : Fact) → is_idle p frs fr g ≡ false
  said' = said p ac forms h old frs fr st covered i d s f here is plainly

  none_lent' : (q : Place) → is_lent_place p fr q ≡ false
  none_lent' = none_lent p ac forms h old frs fr st covered i d s f here is plainly

  -- a constructor with an aliased argument, or a frame that answers for the fields of `this`
  alone_or_aliased : (answers_for_fields (method_at p fr.method) ≡ true) ⊎ (is_alias_constructor p st.number ≡ true)
  alone_or_aliased = by (is_alias_constructor p st.number) refl
    where
      by : (a : Bool) → is_alias_constructor p st.number ≡ a → (answers_for_fields (method_at p fr.method) ≡ true) ⊎ (is_alias_constructor p st.number ≡ true)
      by false plain = inl (answers_here p ac forms h old frs fr st covered i d s f here is plainly plain)
      by true aliased = inr aliased

  -- what is held apart after the store was so before it
  apart_then : (o : ℕ) (x y : Object) (f' g : Fact) → object_at h o ≡ Some x → object_at k o ≡ Some y → x.finished ≡ true → is_heavy_class p x.class ≡ true → IsApart p k old frs after o g → IsApart p h old frs fr o f'
  apart_then o x y f' g before now' done heavy = apart_before p h k old frs fr after o x y f' g others aged before now' done heavy (said' f')

  -- ---- a fact over the store

  -- the frame owns what the field takes
  abbrev IsTakenFrom : (o : ℕ) (x : Object) → Covers p h false false old frs fr o x → Type 0
  IsTakenFrom o x c = is_owning_fact p c.origin c.fact ≡ true → x.owner ≡ owners.Frame (length frs + 1)

  module _ (o : ℕ) (x y : Object) (before : object_at h o ≡ Some x) (at : object_at k o ≡ Some y) (class : y.class ≡ x.class) (broad : is_heavy_class p x.class ≡ true)
      (goes_on : x.finished ≡ true → Continues x y) (done : y.finished ≡ true → x.finished ≡ true) (c : Covers p h false false old frs fr o x) (owned_by : IsTakenFrom o x c) where
    abbrev later : PlaceSet
    later = now p ac forms h old frs fr st covered i d s f here is plainly o x c

    has_later : (q : Place) → IsSmall q → has later q ≡ (if is_place (place_of_field p f) q then has c.fact.places (places.Temp d) else has c.fact.places q)
    has_later q less = has_copied c.fact.places (place_of_field p f) (places.Temp d) q room.1 less

    -- what is a place of the fact after the store was one before, or is that of the field
    was_in : (q : Place) → IsSmall q → has later q ≡ true → ((is_place (place_of_field p f) q ≡ true) × (has c.fact.places (places.Temp d) ≡ true)) ⊎ ((is_place (place_of_field p f) q ≡ false) × (has c.fact.places q ≡ true))
    was_in q less in' = go (is_place (place_of_field p f) q) refl (sym (has_later q less) ∙ in')
      where
        go : (b : Bool) → is_place (place_of_field p f) q ≡ b → (if b then has c.fact.places (places.Temp d) else has c.fact.places q) ≡ true
            → ((is_place (place_of_field p f) q ≡ true) × (has c.fact.places (places.Temp d) ≡ true)) ⊎ ((is_place (place_of_field p f) q ≡ false) × (has c.fact.places q ≡ true))
        go true e one = inl (e, one)
        go false e one = inr (e, one)

    holds_later : (q : Place) → IsSmall q → has later q ≡ true → root_of k (place_value p k fr.method after.locals q) ≡ Some o
    holds_later q less in' = elim (was_in q less in') [
      | inl field ↦ subst (λ (u : Place). root_of k (place_value p k fr.method after.locals u) ≡ Some o) (single_place-same (place_of_field p f) q field.0)
          (ap (root_of k) at_field ∙ value_root h k roots (temp_value fr.locals d) (inside (places.Temp d) room.0) ∙ c.places (said' c.fact) (places.Temp d) room.0 refl field.1)
      | inr other ↦ keeps_root q o less other.0 (c.places (said' c.fact) q less (none_lent' q) other.1)
    ]

    truth : (g : Fact) → g.called ≡ c.fact.called → g.full ≡ c.fact.full → claims p (method_at p fr.method) c.origin c.fact ≡ true → IsTrueOf p y c.origin g
    truth g called full claimed =
        let was = c.true' claimed refl (held_here p ac forms h old frs fr st covered i d s f here is plainly c.fact) in
        let still = still_true p x y c.origin c.fact (goes_on was.finished).0 was in
        record {
          finished = still.finished;
          class = still.class;
          bounded = still.bounded;
          need = subst (λ (b : Bool). set.is_subset y.must (cond b c.origin.full c.origin.first) ≡ true) (sym full) still.need;
          called = ap (λ (t : Names). set.is_subset t y.called) called ∙ still.called;
        }

    -- what its origin asks for
    abbrev asked : Names
    asked = asked_of p (method_at p fr.method) c.origin.kind

    names : (g : Fact) → g.called ≡ c.fact.called → y.finished ≡ true → (x.finished ≡ true → set.is_subset c.fact.called (set.union asked x.called) ≡ true) → set.is_subset g.called (set.union asked y.called) ≡ true
    names g called finished' known =
        ap (λ (t : Names). set.is_subset t (set.union asked y.called)) called ∙ known_on c.fact.called asked x.called y.called (known (done finished')) (goes_on (done finished')).0.called

    same_number : (n : ℕ) → is_place (place_of_field p f) (places.Field n) ≡ true → is_heavy_field p fr.method (places.Field n) ≡ is_heavy_in p (Some f)
    same_number n e = ap (λ (j : ℕ). is_heavy_in p (owning_field_beside p fr.method j)) (sym (eqb-true (field_number p f) n e)) ∙ ap (is_heavy_in p) mine.beside

    same_fit : (n : ℕ) → is_place (place_of_field p f) (places.Field n) ≡ true → fits_field p fr.method n c.origin.class ≡ fits_type p c.origin.class (field_type p f)
    same_fit n e = ap (λ (j : ℕ). fits_in p c.origin.class (owning_field_beside p fr.method j)) (sym (eqb-true (field_number p f) n e)) ∙ ap (fits_in p c.origin.class) mine.beside

    module _ (g : Fact) (reach : Reach p st.number (relation_of p st.number) c.origin s.to g) (same : ArePlaces g.places later) where
      in_later : (n : ℕ) → has g.places (places.Field n) ≡ true → has later (places.Field n) ≡ true
      in_later n in' = sym (same (161 + n)) ∙ in'

      abbrev Result : Type 0
      Result = (e : Covers p k false false old frs after o y) × (e.origin ≡ c.origin) × (e.fact ≡ g)

      by_taken : g.called ≡ c.fact.called → g.full ≡ c.fact.full → IsTaken p st.number c.origin f d c.fact g → Covers p k false false old frs after o y
      by_taken called full t = record {
        body = st.number;
        id = st.id;
        origin = c.origin;
        fact = g;
        reached = reach;
        alone = λ n one. places_stay_in_range p st.number (actions.PutOwn f d) s.edge c.fact.places room c.alone n (sym (same n) ∙ one);
        places = λ said'' u less kept one. holds_later u less (sym (same (number_of u)) ∙ one);
        true' = λ claimed mine' kept. taken_truth t.may claimed;
        lent = λ lent. (not_and (is_heavy_class p c.origin.class) (is_own g.mode) (ap is_own t.mode), (λ held. taken_aliased t.may lent));
        lends = λ lent done'. absurd (let never : modes.Held ≡ modes.Lent = sym t.mode ∙ lent in cc);
        makes = λ constructor this. still_unfinished x y done (c.makes constructor this);
        begun = λ lent. absurd (let never : modes.Held ≡ modes.Lent = sym t.mode ∙ lent in cc);
        unrenewed = λ done' tells was. refl;
        free = λ done' held answers kept heavy. (let is = taken_free t.may answers in (is.0, is.2));
        known = λ finished' tells apart stays. taken_known t.may finished' tells apart;
        fields = λ n less wide one. elim (was_in (places.Field n) less (in_later n one)) [
          | inl field ↦ same_fit n field.0 ∙ t.fits
          | inr other ↦ c.fields n less t.heavy other.1
        ];
        held = λ n less one heavy. (t.mode, t.heavy);
        outside = λ plain closed n less one. t.mode;
      }
        where
          taken_truth : (c.fact.mode ≡ modes.Own) ⊎ ((is_alias_constructor p st.number ≡ true) × (c.fact.mode ≡ modes.Alias)) → claims p (method_at p fr.method) c.origin g ≡ true → IsTrueOf p y c.origin g
          taken_truth (inl own) claimed = truth g called full (own_claims p (method_at p fr.method) c.origin c.fact own t.heavy)
          taken_truth (inr alias) claimed = absurd (not_alone alias.0 (claims_answered p (method_at p fr.method) c.origin g t.mode claimed))

          -- the field takes it from the frame
          released : c.fact.mode ≡ modes.Own → y.owner ≡ owners.Field w f
          released own =
              let truth = c.true' (own_claims p (method_at p fr.method) c.origin c.fact own t.heavy) refl (held_here p ac forms h old frs fr st covered i d s f here is plainly c.fact) in
              takes o x y before at broad (c.places (said' c.fact) (places.Temp d) room.0 refl t.there) truth.finished
              (within_trans (must_of p x.class) (must_of p c.origin.class) (must_of_optional p (field_type p f)) truth.class t.fits)
              plain (owned_by (and_from (is_heavy_class p c.origin.class) (is_own c.fact.mode) t.heavy (ap is_own own)))
            where
              plain : is_alias_constructor p st.number ≡ false
              plain = by (is_alias_constructor p st.number) refl
                where
                  by : (b : Bool) → is_alias_constructor p st.number ≡ b → is_alias_constructor p st.number ≡ false
                  by false none = none
                  by true aliased = absurd (true≢false (sym (and_from (is_heavy_class p c.origin.class) (is_own c.fact.mode) t.heavy (ap is_own own)) ∙ (c.lent (lent' aliased c.origin.kind (t.alias aliased))).0))

          taken_aliased : (c.fact.mode ≡ modes.Own) ⊎ ((is_alias_constructor p st.number ≡ true) × (c.fact.mode ≡ modes.Alias)) → is_lent p (method_at p fr.method) c.origin.kind ≡ true
              → (constructs (method_at p fr.method) ≡ true) × (makes_alone (method_at p fr.method) ≡ false)
          taken_aliased (inl own) lent = absurd (true≢false (sym (and_from (is_heavy_class p c.origin.class) (is_own c.fact.mode) t.heavy (ap is_own own)) ∙ (c.lent lent).0))
          taken_aliased (inr alias) lent = (makes alias.0, go (makes_alone (method_at p fr.method)) refl)
            where
              go : (b : Bool) → makes_alone (method_at p fr.method) ≡ b → makes_alone (method_at p fr.method) ≡ false
              go false other = other
              go true alone = absurd (not_alone alias.0 (alone_answers (method_at p fr.method) alone))

          -- the field's place is in the fact, and no other place of `this`
          taken_field : c.fact.mode ≡ modes.Own → IsInField p after g.places y.owner
          taken_field own = (
            record { field = f; declared = declared_by_place p fr st f (forms.stores st.number i (move_of s) f d st.control (step_there p fr st i s here) is); holder = w; runs = this; owns = released own },
            same (number_of (place_of_field p f)) ∙ has_later (place_of_field p f) mine.small ∙ rw (eq-eqb (field_number p f) (field_number p f) refl) t.there,
            out_of_this c.fact.places (without g.places (place_of_field p f)) from
                (owning_out_of_this p ac h false false old frs fr st o x c (and_from (is_heavy_class p c.origin.class) (is_own c.fact.mode) t.heavy (ap is_own own))),
          )
            where
              from : (q : Place) → IsSmall q → is_local q ≡ false → has (without g.places (place_of_field p f)) q ≡ true → has c.fact.places q ≡ true
              from q less out in' = go (eqb (number_of q) (number_of (place_of_field p f))) refl
                where
                  go : (b : Bool) → eqb (number_of q) (number_of (place_of_field p f)) ≡ b → has c.fact.places q ≡ true
                  go true at' = absurd (true≢false (sym in' ∙ gone_without g.places (place_of_field p f) q at'))
                  go false apart = elim (was_in q less (sym (same (number_of q)) ∙ (kept_without g.places (place_of_field p f) q apart ∙ in'))) [
                    | inl field ↦ absurd (true≢false (sym (eq-eqb (number_of q) (number_of (place_of_field p f)) (ap number_of (sym (single_place-same (place_of_field p f) q field.0)))) ∙ apart))
                    | inr other ↦ other.1
                  ]

          taken_free : (c.fact.mode ≡ modes.Own) ⊎ ((is_alias_constructor p st.number ≡ true) × (c.fact.mode ≡ modes.Alias)) → answers_for_fields (method_at p fr.method) ≡ true
              → (false ≡ false) × (is_heavy_class p c.origin.class ≡ true) × IsInField p after g.places y.owner
          taken_free (inl own) alone = (refl, t.heavy, taken_field own)
          taken_free (inr alias) alone = absurd (not_alone alias.0 alone)

          taken_known : (c.fact.mode ≡ modes.Own) ⊎ ((is_alias_constructor p st.number ≡ true) × (c.fact.mode ≡ modes.Alias)) → y.finished ≡ true → tells_calls p fr.method c.origin g ≡ true → IsApart p k old frs after o g
              → set.is_subset g.called (set.union asked y.called) ≡ true
          taken_known (inl own) finished' tells apart = absurd (elim alone_or_aliased [
            | inl alone ↦ true≢false (sym alone ∙ other_alone (is_held g.mode) (answers_for_fields (method_at p fr.method)) (ap is_held t.mode) (tells_apart p fr.method c.origin g tells))
            | inr aliased ↦ true≢false (sym (and_from (is_heavy_class p c.origin.class) (is_own c.fact.mode) t.heavy (ap is_own own)) ∙ (c.lent (lent' aliased c.origin.kind (t.alias aliased))).0)
          ])
          taken_known (inr alias) finished' tells apart =
              let is_lent' : is_lent p (method_at p fr.method) c.origin.kind ≡ true = lent' alias.0 c.origin.kind (t.alias alias.0) in
              names g called finished' (λ was_done. c.known was_done (lent_tells p fr.method c.origin c.fact (lent_not_alone p h false false old frs fr o x c is_lent') is_lent')
              (apart_then o x y c.fact g before at was_done broad apart) refl)

      by_left : g.called ≡ c.fact.called → g.full ≡ c.fact.full → IsLeft p c.origin f d c.fact g → Covers p k false false old frs after o y
      by_left called full l = record {
        body = st.number;
        id = st.id;
        origin = c.origin;
        fact = g;
        reached = reach;
        alone = λ n one. places_stay_in_range p st.number (actions.PutOwn f d) s.edge c.fact.places room c.alone n (sym (same n) ∙ one);
        places = λ said'' u less kept one. holds_later u less (sym (same (number_of u)) ∙ one);
        true' = λ claimed mine' kept. truth g called full (claims_as p (method_at p fr.method) c.origin c.fact g (l.mode (claims_owned p (method_at p fr.method) c.origin g claimed).1) claimed);
        lent = λ lent. (stays_unowned p c.origin c.fact g l.mode (c.lent lent).0, (λ held. (c.lent lent).1 (held_before held)));
        lends = λ lent done'. (refl, (others.keeps o x y before at (inl (done done'), broad) (c.lends (l.lent lent) (done done')).1).1);
        makes = λ constructor this. still_unfinished x y done (c.makes constructor this);
        begun = λ lent other fields open'.
            let declares = subst (HasOwningField p) class fields in
            let was = c.begun (l.lent lent) other declares (was_open x y goes_on open') in
            (refl, (others.keeps o x y before at (inr declares, broad) was.1).1, was.2);
        unrenewed = λ done' tells was. refl;
        free = λ done' held' answers kept heavy. (refl, left_field (held_mode g.mode held') (held_in_field p h false false old frs fr o x c (done done') (held_before held') answers keeps' heavy) heavy);
        known = λ finished' tells apart stays. names g called finished' (λ was_done. c.known was_done (told tells) (apart_then o x y c.fact g before at was_done broad apart) refl);
        fields = λ n less wide one. elim (was_in (places.Field n) less (in_later n one)) [
          | inl field ↦ field_claimed n less wide field.0 field.1 (has c.fact.places (place_of_field p f)) refl
          | inr other ↦ c.fields n less wide other.1
        ];
        held = λ n less one heavy. elim (was_in (places.Field n) less (in_later n one)) [
          | inl field ↦ field_held n less one heavy field.0 field.1 (has c.fact.places (place_of_field p f)) refl
          | inr other ↦ (let was = c.held n less other.1 heavy in (l.held was.0 (in_this g.places n less one), was.1))
        ];
        outside = λ plain closed n less one. absurd (elim (storing p ac forms h old frs fr st covered i d s f here is plainly) [ inl makes' ↦ true≢false (sym makes' ∙ plain) | inr opens ↦ true≢false (sym opens ∙ closed) ]);
      }
        where
          held_before : is_held g.mode ≡ true → is_held c.fact.mode ≡ true
          held_before held' = ap is_held (sym (l.mode (or_right (is_own g.mode) (is_held g.mode) held'))) ∙ held'

          told : tells_calls p fr.method c.origin g ≡ true → tells_calls p fr.method c.origin c.fact ≡ true
          told tells = elim (tells_by p fr.method c.origin g tells) [
            | inl lent ↦ lent_tells p fr.method c.origin c.fact (lent_not_alone p h false false old frs fr o x c lent) lent
            | inr held ↦ held_tells p fr.method c.origin c.fact (other_alone (is_held g.mode) (answers_for_fields (method_at p fr.method)) held (tells_apart p fr.method c.origin g tells)) (held_mode c.fact.mode (held_before held))
          ]

          -- a field that owns it goes on so, and its place stays
          left_field : g.mode ≡ modes.Held → IsInField p fr c.fact.places x.owner → is_heavy_class p c.origin.class ≡ true → IsInField p after g.places y.owner
          left_field held' field heavy = by (eqb (number_of (place_of_field p f)) (number_of (place_of_field p field.0.field))) refl
            where
              its : HasPlace p fr field.0.field
              its = owning_place p fr st ac x.owner field.0

              -- it is an object of this frame's `this`
              at_this : x.owner ≡ owners.Field w field.0.field
              at_this = owned_at p fr x.owner w field.0.field this field.0 refl

              -- another field's place is not in the fact
              stay_apart : (field.0.field ≡ f → ⊥) → has c.fact.places (place_of_field p f) ≡ false
              stay_apart other = go (has c.fact.places (place_of_field p f)) refl
                where
                  go : (b : Bool) → has c.fact.places (place_of_field p f) ≡ b → has c.fact.places (place_of_field p f) ≡ false
                  go false out = out
                  go true in' = absurd (other (one_field p fr st ac c.fact.places x.owner field f mine in'))

              -- so t(d) is not
              no_temp : (field.0.field ≡ f → ⊥) → has c.fact.places (places.Temp d) ≡ false
              no_temp other = go (has c.fact.places (places.Temp d)) refl
                where
                  go : (b : Bool) → has c.fact.places (places.Temp d) ≡ b → has c.fact.places (places.Temp d) ≡ false
                  go false out = out
                  go true in' = absurd (light_class p c.origin f (l.light in' (stay_apart other)) heavy)

              -- where the places of `this` stay
              kept : y.owner ≡ x.owner → ((q : Place) → IsSmall q → is_local q ≡ false → has c.fact.places q ≡ has g.places q) → IsInField p after g.places y.owner
              kept same' stay = in_field_on p fr st ac after refl refl c.fact.places g.places x.owner y.owner same' (λ q less out in'. sym (stay q less out) ∙ in') (λ q less out in'. stay q less out ∙ in') field

              by : (b : Bool) → eqb (number_of (place_of_field p f)) (number_of (place_of_field p field.0.field)) ≡ b → IsInField p after g.places y.owner
              by false apart = kept (lasting.other o x y field.0.field before at broad at_this other) stay
                where
                  other : field.0.field ≡ f → ⊥
                  other same' = true≢false (sym (eq-eqb (number_of (place_of_field p f)) (number_of (place_of_field p field.0.field)) (ap (λ (e : FieldId). number_of (place_of_field p e)) (sym same'))) ∙ apart)

                  stay : (q : Place) → IsSmall q → is_local q ≡ false → has c.fact.places q ≡ has g.places q
                  stay q less out = sym (same (number_of q) ∙ has_later q less ∙ go (is_place (place_of_field p f) q) refl)
                    where
                      go : (b : Bool) → is_place (place_of_field p f) q ≡ b → (if b then has c.fact.places (places.Temp d) else has c.fact.places q) ≡ has c.fact.places q
                      go true e = no_temp other ∙ sym (stay_apart other) ∙ ap (has c.fact.places) (single_place-same (place_of_field p f) q e)
                      go false e = refl
              by true e = split (has c.fact.places (places.Temp d)) refl
                where
                  same_field : field.0.field ≡ f
                  same_field = number_field (eqb-true (number_of (place_of_field p f)) (number_of (place_of_field p field.0.field)) e)
                    where
                      number_field : 161 + field_number p f ≡ 161 + field_number p field.0.field → field.0.field ≡ f
                      number_field all =
                          let number : field_number p f ≡ field_number p field.0.field = omega (arith, all) in
                          let both : Some field.0.field ≡ Some f = sym its.beside ∙ ap (owning_field_beside p fr.method) (sym number) ∙ mine.beside in (let one : field.0.field ≡ f = cc in one)

                  has_field : has c.fact.places (place_of_field p f) ≡ true
                  has_field = ap (λ (e : FieldId). has c.fact.places (place_of_field p e)) (sym same_field) ∙ field.1

                  split : (b : Bool) → has c.fact.places (places.Temp d) ≡ b → IsInField p after g.places y.owner
                  split true in' = kept (lasting.same o x y before at (c.places (said' c.fact) (places.Temp d) room.0 refl in') (at_this ∙ ap (owners.Field w) same_field)) stay
                    where
                      stay : (q : Place) → IsSmall q → is_local q ≡ false → has c.fact.places q ≡ has g.places q
                      stay q less out = sym (same (number_of q) ∙ has_later q less ∙ go (is_place (place_of_field p f) q) refl)
                        where
                          go : (b : Bool) → is_place (place_of_field p f) q ≡ b → (if b then has c.fact.places (places.Temp d) else has c.fact.places q) ≡ has c.fact.places q
                          go true e' = in' ∙ sym has_field ∙ ap (has c.fact.places) (single_place-same (place_of_field p f) q e')
                          go false e' = refl
                  split false out = absurd (true≢false (sym (l.within out has_field held') ∙ out_of_this (without c.fact.places (place_of_field p field.0.field)) g.places from field.2))
                    where
                      from : (q : Place) → IsSmall q → is_local q ≡ false → has g.places q ≡ true → has (without c.fact.places (place_of_field p field.0.field)) q ≡ true
                      from q less apart in' = elim (was_in q less (sym (same (number_of q)) ∙ in')) [
                        | inl at' ↦ absurd (true≢false (sym at'.1 ∙ out))
                        | inr other ↦ go (eqb (number_of q) (number_of (place_of_field p field.0.field))) refl other.0 other.1
                      ]
                        where
                          field_place : (u : Place) → IsSmall u → is_local u ≡ false → eqb (number_of u) (number_of (place_of_field p field.0.field)) ≡ true → is_place (place_of_field p f) u ≡ false → ⊥
                          field_place u less' out' at' no' = true≢false (sym (place_by_number (field_number p f) u mine.small less' out' (eqb-true (number_of u) (number_of (place_of_field p field.0.field)) at'
                              ∙ ap (λ (e' : FieldId). number_of (place_of_field p e')) same_field)) ∙ no')

                          go : (b : Bool) → eqb (number_of q) (number_of (place_of_field p field.0.field)) ≡ b → is_place (place_of_field p f) q ≡ false → has c.fact.places q ≡ true
                              → has (without c.fact.places (place_of_field p field.0.field)) q ≡ true
                          go false apart' no' there' = sym (kept_without c.fact.places (place_of_field p field.0.field) q apart') ∙ there'
                          go true at' no' there' = absurd (field_place q less apart at' no')

          field_claimed : (n : ℕ) → n < 16 → is_heavy_class p c.origin.class ≡ true → is_place (place_of_field p f) (places.Field n) ≡ true → has c.fact.places (places.Temp d) ≡ true
              → (b : Bool) → has c.fact.places (place_of_field p f) ≡ b → fits_field p fr.method n c.origin.class ≡ true
          field_claimed n less wide e temp true one = same_fit n e ∙ (sym (ap (fits_in p c.origin.class) mine.beside) ∙ c.fields (field_number p f) mine.small wide one)
          field_claimed n less wide e temp false out = absurd (light_class p c.origin f (l.light temp out) wide)

          field_held : (n : ℕ) → n < 16 → has g.places (places.Field n) ≡ true → is_heavy_field p fr.method (places.Field n) ≡ true → is_place (place_of_field p f) (places.Field n) ≡ true
              → has c.fact.places (places.Temp d) ≡ true → (b : Bool) → has c.fact.places (place_of_field p f) ≡ b → (g.mode ≡ modes.Held) × (is_heavy_class p c.origin.class ≡ true)
          field_held n less one heavy e temp true in'' =
              let was = c.held (field_number p f) mine.small in'' (ap (is_heavy_in p) mine.beside ∙ sym (same_number n e) ∙ heavy) in
              (l.held was.0 (in_this g.places n less one), was.1)
          field_held n less one heavy e temp false out = absurd (light_type p c.origin f (l.light temp out) (sym (same_number n e) ∙ heavy))

      by_row : StoresAs p st.number c.origin f d c.fact g → Result
      unfolding by_taken by_left
      by_row (taken reset called full t) = (by_taken called full t, refl, refl)
      by_row (left reset called full l) = (by_left called full l, refl, refl)

    -- where the fact goes on owning the object, it did, and it is left
    left_owned : (g : Fact) → StoresAs p st.number c.origin f d c.fact g → is_owning_fact p c.origin g ≡ true → (is_owning_fact p c.origin c.fact ≡ true) × (has c.fact.places (places.Temp d) ≡ true → ⊥)
    left_owned g (taken reset called full t) owning = absurd (true≢false (sym (and_parts (is_heavy_class p c.origin.class) (is_own g.mode) owning).1 ∙ ap is_own t.mode))
    left_owned g (left reset called full l) owning =
        let parts = and_parts (is_heavy_class p c.origin.class) (is_own g.mode) owning in
        let was : is_owning_fact p c.origin c.fact ≡ true = and_from (is_heavy_class p c.origin.class) (is_own c.fact.mode) parts.0 (ap is_own (sym (l.mode (or_left (is_own g.mode) (is_held g.mode) parts.1))) ∙ parts.1) in
        (was, (λ in'. in_field was parts.0 in' (has c.fact.places (place_of_field p f)) refl))
      where
        in_field : is_owning_fact p c.origin c.fact ≡ true → is_heavy_class p c.origin.class ≡ true → has c.fact.places (places.Temp d) ≡ true → (b : Bool) → has c.fact.places (place_of_field p f) ≡ b → ⊥
        in_field was heavy in' true there' = owning_in_no_field p h false false old frs fr o x c was (field_number p f) mine.small there'
        in_field was heavy in' false out = light_class p c.origin f (l.light in' out) heavy

    -- where the fact claims the object after the store, it did before
    claimed_before : (g : Fact) → StoresAs p st.number c.origin f d c.fact g → claims p (method_at p fr.method) c.origin g ≡ true → claims p (method_at p fr.method) c.origin c.fact ≡ true
    claimed_before g (taken reset called full t) claimed = elim t.may [
      | inl own ↦ own_claims p (method_at p fr.method) c.origin c.fact own t.heavy
      | inr alias ↦ absurd (not_alone alias.0 (claims_answered p (method_at p fr.method) c.origin g t.mode claimed))
    ]
    claimed_before g (left reset called full l) claimed = claims_as p (method_at p fr.method) c.origin c.fact g (l.mode (claims_owned p (method_at p fr.method) c.origin g claimed).1) claimed

    -- the fact at the places after the store
    abbrev After : Type 0
    After = (g : Fact) × (e : Covers p k false false old frs after o y) × (e.origin ≡ c.origin) × (e.fact ≡ g) × (ArePlaces g.places later) × (StoresAs p st.number c.origin f d c.fact g)

    store_covers : (q : Place) → has later q ≡ true → After
    store_covers q in' = by (goes p ac forms h old frs fr st covered i d s f here is plainly o x c q in')
      where
        by : (g : Fact) × Reach p st.number (relation_of p st.number) c.origin s.to g × Goes p ac forms h old frs fr st covered i d s f here is plainly o x c g → After
        by (g, reach, (same, row)) = let e = by_row g reach same row in (g, e.0, e.1, e.2, same, row)

  -- ---- the top frame

  -- a place held the object before the store, whose facts have the other place after it
  abbrev ComesFrom : Place → ℕ → Type 0
  ComesFrom q o = (z : Place) × IsSmall z × (root_of h (place_value p h fr.method fr.locals z) ≡ Some o) × ((held : PlaceSet) → has held z ≡ true → has (copied held (place_of_field p f) (places.Temp d)) q ≡ true)

  origin_of_place : (q : Place) (o : ℕ) → IsSmall q → root_of k (place_value p k fr.method after.locals q) ≡ Some o → ComesFrom q o
  origin_of_place q o less root = go (is_place (place_of_field p f) q) refl
    where
      joins : (held : PlaceSet) (b : Bool) → is_place (place_of_field p f) q ≡ b → (if b then has held (places.Temp d) else has held q) ≡ true → has (copied held (place_of_field p f) (places.Temp d)) q ≡ true
      joins held b e one = has_copied held (place_of_field p f) (places.Temp d) q room.1 less ∙ ap (λ (u : Bool). if u then has held (places.Temp d) else has held q) e ∙ one

      go : (b : Bool) → is_place (place_of_field p f) q ≡ b → ComesFrom q o
      go true e = (
        places.Temp d,
        room.0,
        sym (value_root h k roots (temp_value fr.locals d) (inside (places.Temp d) room.0)) ∙ ap (root_of k) (sym at_field)
            ∙ subst (λ (u : Place). root_of k (place_value p k fr.method after.locals u) ≡ Some o) (sym (single_place-same (place_of_field p f) q e)) root,
        (λ held one. joins held true e one),
      )
      go false e = (q, less, had_root q o less e root, (λ held one. joins held false e one))

  module _ (o : ℕ) (x y : Object) (before : object_at h o ≡ Some x) (at : object_at k o ≡ Some y) (class : y.class ≡ x.class) (broad : is_heavy_class p x.class ≡ true) (owes : OwesOrHolds p h o x)
      (goes_on : x.finished ≡ true → Continues x y) (done : y.finished ≡ true → x.finished ≡ true) where
    here_after : (c : Covers p h false false old frs fr o x) (owned_by : IsTakenFrom o x c) (q : Place) → has (copied c.fact.places (place_of_field p f) (places.Temp d)) q ≡ true → (n : After o x y before at class broad goes_on done c owned_by) → has n.1.fact.places q ≡ true
    here_after c owned_by q in' n = ap (λ (u : Fact). has u.places q) n.3 ∙ n.4 (number_of q) ∙ in'

    owning_after : (c : Covers p h false false old frs fr o x) (owned_by : IsTakenFrom o x c) (n : After o x y before at class broad goes_on done c owned_by)
        → claims p (method_at p fr.method) n.1.origin n.1.fact ≡ claims p (method_at p fr.method) c.origin n.0
    owning_after c owned_by n = ap (λ (u : Origin). claims p (method_at p fr.method) u n.1.fact) n.2 ∙ ap (claims p (method_at p fr.method) c.origin) n.3

    -- a fact that does not own it
    unowned_on : (z q : Place) → IsUnowned p h false false old frs fr z o x → ((held : PlaceSet) → has held z ≡ true → has (copied held (place_of_field p f) (places.Temp d)) q ≡ true) → IsUnowned p k false false old frs after q o y
    unowned_on z q u goes_to = by (store_covers o x y before at class broad goes_on done u.covers never q (goes_to u.covers.fact.places u.here))
      where
        never : IsTakenFrom o x u.covers
        never owning = absurd (true≢false (sym owning ∙ unclaimed_not_owning p (method_at p fr.method) u.covers.origin u.covers.fact u.unowned))

        by : After o x y before at class broad goes_on done u.covers never → IsUnowned p k false false old frs after q o y
        by n = record {
          covers = n.1;
          here = here_after u.covers never q (goes_to u.covers.fact.places u.here) n;
          unowned = not_owning (claims p (method_at p fr.method) u.covers.origin n.0) refl;
        }
          where
            not_owning : (b : Bool) → claims p (method_at p fr.method) u.covers.origin n.0 ≡ b → claims p (method_at p fr.method) n.1.origin n.1.fact ≡ false
            not_owning false none = owning_after u.covers never n ∙ none
            not_owning true owning = absurd (true≢false (sym (claimed_before o x y before at class broad goes_on done u.covers never n.0 n.5 owning) ∙ u.unowned))

    -- the fact that owns it
    module _ (c : Covers p h false false old frs fr o x) (key : IsOwned p h false false old frs fr o x c) where
      owned_by : IsTakenFrom o x c
      owned_by owning = key.owner refl (and_parts (is_heavy_class p c.origin.class) (is_own c.fact.mode) owning).1

      abbrev Now : Type 0
      Now = After o x y before at class broad goes_on done c owned_by

      -- the store takes it from a fact that has t(d), or not at all
      still_owner : (n : Now) → is_owning_fact p c.origin n.0 ≡ true → y.owner ≡ owners.Frame (length frs + 1)
      still_owner n owning = elim (stays o x y before at broad owes mine') [
        | inl same ↦ same
        | inr moved ↦ absurd (elim (key.others (places.Temp d) room.0 refl moved.0) [
          | inl in' ↦ was.1 in'
          | inr u ↦ elim (temp_is_taken p ac forms h old frs fr st covered i d s f here is plainly o x w this u.covers u.here moved.2 moved.1) [
            | inl own ↦ true≢false (sym own ∙ unclaimed_not_owning p (method_at p fr.method) u.covers.origin u.covers.fact u.unowned)
            | inr field ↦ true≢false (sym (ap (is_frame_from 0) mine' ∙ from_frame 0 (length frs + 1) (omega arith)) ∙ ap (is_frame_from 0) field)
          ]
        ])
      ]
        where
          was : (is_owning_fact p c.origin c.fact ≡ true) × (has c.fact.places (places.Temp d) ≡ true → ⊥)
          was = left_owned o x y before at class broad goes_on done c owned_by n.0 n.5 owning

          mine' : x.owner ≡ owners.Frame (length frs + 1)
          mine' = owned_by was.0

      keyed_by : (n : Now) (q : Place) → has (copied c.fact.places (place_of_field p f) (places.Temp d)) q ≡ true → IsKeyed p k false false old frs after q o y
      keyed_by n q in' = go (claims p (method_at p fr.method) c.origin n.0) refl
        where
          each : (u : Place) → IsSmall u → is_lent_place p after u ≡ false → root_of k (place_value p k after.method after.locals u) ≡ Some o → (has n.1.fact.places u ≡ true) ⊎ IsUnowned p k false false old frs after u o y
          each u less kept is' =
              let from = origin_of_place u o less is' in
              elim (key.others from.0 from.1 (none_lent' from.0) from.2) [ inl in'' ↦ inl (here_after c owned_by u (from.3 c.fact.places in'') n) | inr free ↦ inr (unowned_on from.0 u free from.3) ]

          heavy_now : claims p (method_at p fr.method) c.origin n.0 ≡ true → is_own n.1.fact.mode ≡ true → is_owning_fact p c.origin n.0 ≡ true
          heavy_now claimed own = and_from (is_heavy_class p c.origin.class) (is_own n.0.mode) (claims_owned p (method_at p fr.method) c.origin n.0 claimed).0 (ap (λ (u : Fact). is_own u.mode) (sym n.3) ∙ own)

          go : (b : Bool) → claims p (method_at p fr.method) c.origin n.0 ≡ b → IsKeyed p k false false old frs after q o y
          go true owning = owned n.1 (here_after c owned_by q in' n) (record { owning = owning_after c owned_by n ∙ owning; owner = λ mine' own. still_owner n (heavy_now owning own); others = each })
          go false none = unowned (record { covers = n.1; here = here_after c owned_by q in' n; unowned = owning_after c owned_by n ∙ none })

      keyed_on : (q : Place) → has (copied c.fact.places (place_of_field p f) (places.Temp d)) q ≡ true → IsKeyed p k false false old frs after q o y
      keyed_on q in' = keyed_by (store_covers o x y before at class broad goes_on done c owned_by q in') q in'

    keyed_from : (q : Place) → ComesFrom q o → IsKeyed p k false false old frs after q o y
    keyed_from q (z, small', held, goes_to) = by (covered z o x small' (none_lent' z) held before broad owes)
      where
        by : IsKeyed p h false false old frs fr z o x → IsKeyed p k false false old frs after q o y
        by (owned c in' key) = keyed_on c key q (goes_to c.fact.places in')
        by (unowned u) = unowned (unowned_on z q u goes_to)

  pub store_covered : IsCovered p k gives_none renews_none old frs after
  store_covered q o y less kept root at heavy owes = came (origin_of_place q o less root)
    where
      came : ComesFrom q o → IsKeyed p k false false old frs after q o y
      came from = by (carries o y at (numbered h links (place_value p h fr.method fr.locals from.0) o from.2 (inside from.0 from.1)).1)
        where
          by : IsCarried h o y → IsKeyed p k false false old frs after q o y
          by (x, before, class, goes_on) =
              keyed_from o x y before at class (ap (is_heavy_class p) (sym class) ∙ heavy) (bore_before p h k others.holders o x y before goes_on owes) goes_on (ready from.0 o x y from.1 from.2 before at (ap (is_heavy_class p) (sym class) ∙ heavy)) q from

-- ---- the frames that wait

module _ (p : Program) (h k : HeapContents) (w : ℕ) (f : FieldId) (holds_other : (u : ℕ) (g : FieldId) → ((u ≡ w) × (g ≡ f) → ⊥) → field_value p k u g ≡ field_value p h u g) where
  stays_put : (fr' : Frame) → (fr'.locals.this ≡ values.Object w → ⊥) → (q : Place) → place_value p k fr'.method fr'.locals q ≡ place_value p h fr'.method fr'.locals q
  stays_put fr' apart (places.Var j) = refl
  stays_put fr' apart (places.Temp j) = refl
  stays_put fr' apart places.This = refl
  stays_put fr' apart places.Super = refl
  stays_put fr' apart (places.Field n) = at (owning_field_beside p fr'.method n)
    where
      of : (u : Value) (g : FieldId) → (u ≡ values.Object w → ⊥) → field_of p k u g ≡ field_of p h u g
      of (values.Object n') g other = holds_other n' g (λ same. other (ap values.Object same.0))
      of u g other = refl

      at : (g : Option FieldId) → field_place_value p k fr'.locals.this g ≡ field_place_value p h fr'.locals.this g
      at None = refl
      at (Some g) = of fr'.locals.this g apart

  pub others_stay : (frs : List Frame) → RunOnOthers w frs → AllKeep p h k frs
  others_stay [] others = tt
  others_stay (fr' ∷ frs) others = ((λ q less. inl (stays_put fr' others.0 q)), others_stay frs others.1)
