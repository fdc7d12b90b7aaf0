-- The place of the owning field of `this` that owns an object: the one place of `this` among a fact's places.
use Rattle.std.proofs.Common.{◌≡◌, ◌⊎◌, inl, inr, ℕ, zero, suc, ◌+◌, ◌<◌, ◌≤◌, Bool, true, false, true≢false, ◌&&◌, ◌||◌, Option, Some, None, List, nat_eq, eqb, eq-eqb, eqb-true, refl, sym, ap, subst, ◌∙◌, arith}
use Rattle.std.specs.FinSet as set
use Rattle.std.proofs.lemmas.Bool.{and_parts, or_left, or_right}
use Rattle.std.proofs.lemmas.Bool.Decides.{nat_tests}
use Rattle.std.proofs.lemmas.Cmp.{nat_cmp_total}
use Rattle.std.proofs.lemmas.Grind.{common_steps}
use Rattle.program_model.specs.declared.kinds.BodyId.{BodyId}
use Rattle.program_model.specs.declared.kinds.FieldId.{FieldId}
use Rattle.program_model.specs.declared.program.Field.{Field}
use Rattle.program_model.specs.declared.program.Method.{Method}
use Rattle.program_model.specs.declared.program.Program.{Program}
use Rattle.program_model.specs.Lookups.{field_at, method_at}
use Rattle.ledger_obligations.specs.Bodies.{has_field_place, is_class_of, is_field_in}
use Rattle.java_control.specs.Owned.{field_number, place_of_field}
use Rattle.java_control.specs.PlaceNumbers.{IsSmall, number_of}
use Rattle.java_control.specs.Sources.{is_place}
use Rattle.control_actions.specs.declared.fact.Mode.{Mode}
use Rattle.control_actions.specs.declared.fact.Mode.TheVariants as modes
use Rattle.control_actions.specs.declared.fact.OriginKind.{OriginKind}
use Rattle.control_actions.specs.declared.fact.OriginKind.TheVariants as kinds
use Rattle.control_actions.specs.declared.place.Place.{Place}
use Rattle.control_actions.specs.declared.place.Place.TheVariants as places
use Rattle.ownership_rules.specs.Facts.{PlaceSet, has, has_field, has_field_from, has_part, is_held, is_origin_at, without, is_own}
use Rattle.ledger_obligations.specs.MustCallSets.{is_heavy_class}
use Rattle.ledger_state.specs.Contents.{HeapContents}
use Rattle.ledger_state.specs.declared.entry.Owner.{Owner}
use Rattle.ledger_state.specs.declared.entry.Owner.TheVariants as owners
use Rattle.ledger_state.specs.declared.object.Object.{Object}
use Rattle.ledger_state.specs.declared.value.Value.TheVariants as values
use Rattle.value_laws.specs.Accept.{Accept}
use Rattle.value_laws.specs.Agreement.{Stands}
use Rattle.value_laws.specs.Choosing.{body_id}
use Rattle.value_laws.specs.Configuration.{Frame}
use Rattle.value_laws.specs.FactGoing.{is_in_this}
use Rattle.value_laws.specs.PlaceFacts.{Covers, IsInField, is_frame_from, is_lent, is_owning_fact, claims}
use Rattle.value_laws.specs.Paths.{Reach, relation_of}
use Rattle.value_laws.specs.PlacePlaces.{is_local}
use Rattle.value_laws.specs.Places.{owning_field_beside}
use Rattle.value_laws.specs.Renewing.{IsOwnedByThis, answers_for_fields, is_declared_beside, lends_this}
use Rattle.value_laws.proofs.FactOrigins.{this_own}
use Rattle.covering_laws.proofs.Bodies.{running_method}
use Rattle.covering_laws.proofs.Following.{method_here, same_body}
use Rattle.covering_laws.proofs.HeavyFields.{HasPlace, has_place_here, not_held_not_idle, owning_in_no_field}
use Rattle.covering_laws.proofs.Owners.{held_at, held_no_frame}

-- ---- the places of `this`

either : (a b : Bool) → (a || b) ≡ true → (a ≡ true) ⊎ (b ≡ true)
either true b is = inl refl
either false b is = inr is

-- the place of a field is one of `this`
among_fields : (held : PlaceSet) (k from n : ℕ) → from ≤ k → k < from + n → has held (places.Field k) ≡ true → has_field_from held from n ≡ true
unfolding has_field_from
among_fields held k from zero low high is = absurd (omega (arith, low, high))
among_fields held k from (suc n) low high is = go (nat_eq from k) refl (among_fields held k (from + 1) n)
  where
    go : (b : Bool) → nat_eq from k ≡ b → (from + 1 ≤ k → k < from + 1 + n → has held (places.Field k) ≡ true → has_field_from held (from + 1) n ≡ true)
        → (has held (places.Field from) || has_field_from held (from + 1) n) ≡ true
    go true e further = or_left (has held (places.Field from)) (has_field_from held (from + 1) n) (ap (λ (j : ℕ). has held (places.Field j)) (eqb-true from k e) ∙ is)
    go false e further = or_right (has held (places.Field from)) (has_field_from held (from + 1) n) (further (below e) (omega (arith, high)) is)
      where
        below : nat_eq from k ≡ false → from + 1 ≤ k
        below apart = first_of (omega (arith, low), grind (arith, nat_tests, low, apart))

-- a field is a part
pub field_part : (held : PlaceSet) (k : ℕ) → k < 16 → has held (places.Field k) ≡ true → has_part held ≡ true
field_part held k small is = or_left (has_field held) (has held places.Super) (among_fields held k 0 16 (omega arith) small is)

pub in_this : (held : PlaceSet) (k : ℕ) → k < 16 → has held (places.Field k) ≡ true → is_in_this held ≡ true
in_this held k small is = or_right (has held places.This) (has_part held) (or_left (has_field held) (has held places.Super) (among_fields held k 0 16 (omega arith) small is))

-- so is each place that is no variable and no temp
pub at_place : (held : PlaceSet) (q : Place) → IsSmall q → is_local q ≡ false → has held q ≡ true → is_in_this held ≡ true
at_place held (places.Var i) small out is = absurd (true≢false out)
at_place held (places.Temp d) small out is = absurd (true≢false out)
at_place held places.This small out is = or_left (has held places.This) (has_part held) is
at_place held (places.Field k) small out is = in_this held k small is
at_place held places.Super small out is = or_right (has held places.This) (has_part held) (or_right (has_field held) (has held places.Super) is)

field_from : (held : PlaceSet) (from n : ℕ) → has_field_from held from n ≡ true → (k : ℕ) × (k < from + n) × (has held (places.Field k) ≡ true)
unfolding has_field_from
field_from held from zero is = absurd (true≢false (sym is))
field_from held from (suc n) is = elim (either (has held (places.Field from)) (has_field_from held (from + 1) n) is) [
  | inl here ↦ (from, omega arith, here)
  | inr on ↦ (let it = field_from held (from + 1) n on in let low = it.1 in (it.0, omega (arith, low), it.2))
]

-- and there are no others
pub place_in : (held : PlaceSet) → is_in_this held ≡ true → (q : Place) × IsSmall q × (is_local q ≡ false) × (has held q ≡ true)
place_in held is = elim (either (has held places.This) (has_part held) is) [
  | inl this ↦ (places.This, tt, refl, this)
  | inr part ↦ elim (either (has_field held) (has held places.Super) part) [
    | inl field ↦ (let it = field_from held 0 16 field in let low = it.1 in (places.Field it.0, omega (arith, low), refl, it.2))
    | inr super ↦ (places.Super, tt, refl, super)
  ]
]

-- where the places of `this` among these are among the others, so it is
pub out_of_this : (s t : PlaceSet) → ((q : Place) → IsSmall q → is_local q ≡ false → has t q ≡ true → has s q ≡ true) → is_in_this s ≡ false → is_in_this t ≡ false
out_of_this s t among none = go (is_in_this t) refl
  where
    go : (b : Bool) → is_in_this t ≡ b → is_in_this t ≡ false
    go false out = out
    go true inside = absurd (let it = place_in t inside in true≢false (sym (at_place s it.0 it.1 it.2 (among it.0 it.1 it.2 it.3)) ∙ none))

-- ---- a place less

pub kept_without : (s : PlaceSet) (z q : Place) → eqb (number_of q) (number_of z) ≡ false → has s q ≡ has (without s z) q
kept_without s z q apart = grind (arith, common_steps, set.contains-remove nat_cmp_total s (number_of z) (number_of q), apart)

pub gone_without : (s : PlaceSet) (z q : Place) → eqb (number_of q) (number_of z) ≡ true → has (without s z) q ≡ false
gone_without s z q same = grind (arith, common_steps, set.contains-remove nat_cmp_total s (number_of z) (number_of q), same)

-- where the places of `this` among these are among the others, it is so without a place
pub without_among : (s t : PlaceSet) (z : Place) → ((q : Place) → IsSmall q → is_local q ≡ false → has t q ≡ true → has s q ≡ true)
    → (q : Place) → IsSmall q → is_local q ≡ false → has (without t z) q ≡ true → has (without s z) q ≡ true
without_among s t z among q small out is = go (eqb (number_of q) (number_of z)) refl
  where
    go : (b : Bool) → eqb (number_of q) (number_of z) ≡ b → has (without s z) q ≡ true
    go true same = absurd (true≢false (sym is ∙ gone_without t z q same))
    go false apart = sym (kept_without s z q apart) ∙ among q small out (kept_without t z q apart ∙ is)

-- ---- the field that owns the object

module _ (p : Program) (fr : Frame) (st : Stands p fr) where
  declared_so : (x : Option Field) → is_field_in p st.number x ≡ is_declared_beside p fr.method x
  declared_so None = refl
  declared_so (Some x) = ap (λ (m : Option Method). x.owning && is_class_of x.class m) (method_here p fr st)

  -- it is declared beside the method where it has a place
  pub declared_by_place : (f : FieldId) → has_field_place p st.number f ≡ true → is_declared_beside p fr.method (field_at p f) ≡ true
  declared_by_place f is = sym (declared_so (field_at p f)) ∙ is

  pub owning_place : Accept p → (a : Owner) → (own : IsOwnedByThis p fr a) → HasPlace p fr own.field
  owning_place ac a own = has_place_here p ac fr st own.field (declared_so (field_at p own.field) ∙ own.declared)

  -- the fact has the place of no other owning field
  pub one_field : Accept p → (s : PlaceSet) (a : Owner) → (c : IsInField p fr s a) → (f : FieldId) → HasPlace p fr f → has s (place_of_field p f) ≡ true → c.0.field ≡ f
  one_field ac s a c f place is = go (eqb (number_of (place_of_field p f)) (number_of (place_of_field p c.0.field))) refl
    where
      mine : HasPlace p fr c.0.field
      mine = owning_place ac a c.0

      go : (b : Bool) → eqb (number_of (place_of_field p f)) (number_of (place_of_field p c.0.field)) ≡ b → c.0.field ≡ f
      go false apart = absurd (true≢false (sym (at_place (without s (place_of_field p c.0.field)) (place_of_field p f) place.small refl (sym (kept_without s (place_of_field p c.0.field) (place_of_field p f) apart) ∙ is)) ∙ c.2))
      go true same =
          let number : field_number p f ≡ field_number p c.0.field = (let all : 161 + field_number p f ≡ 161 + field_number p c.0.field = eqb-true (161 + field_number p f) (161 + field_number p c.0.field) same in omega (arith, all)) in
          let both : Some c.0.field ≡ Some f = sym mine.beside ∙ ap (owning_field_beside p fr.method) (sym number) ∙ place.beside in (let one : c.0.field ≡ f = cc in one)

  -- it is so of other places where those of `this` are the same
  pub in_field_on : Accept p → (later : Frame) → later.method ≡ fr.method → later.locals.this ≡ fr.locals.this → (s t : PlaceSet) (a b : Owner) → b ≡ a
      → ((q : Place) → IsSmall q → is_local q ≡ false → has s q ≡ true → has t q ≡ true) → ((q : Place) → IsSmall q → is_local q ≡ false → has t q ≡ true → has s q ≡ true) → IsInField p fr s a → IsInField p later t b
  in_field_on ac later method this s t a b same stay come c = (
    record {
      field = c.0.field;
      declared = ap (λ m. is_declared_beside p m (field_at p c.0.field)) method ∙ c.0.declared;
      holder = c.0.holder;
      runs = this ∙ c.0.runs;
      owns = same ∙ c.0.owns;
    },
    stay (place_of_field p c.0.field) (owning_place ac a c.0).small refl c.1,
    out_of_this (without s (place_of_field p c.0.field)) (without t (place_of_field p c.0.field)) (without_among s t (place_of_field p c.0.field) come) c.2,
  )

-- where a field of `this` owns the object
pub owned_at : (p : Program) (fr : Frame) (a : Owner) (w : ℕ) (f : FieldId) → fr.locals.this ≡ values.Object w → (own : IsOwnedByThis p fr a) → own.field ≡ f → a ≡ owners.Field w f
owned_at p fr a w f this own same =
    let one : own.holder ≡ w = (let both : values.Object own.holder ≡ values.Object w = sym own.runs ∙ this in (let it : own.holder ≡ w = cc in it)) in
    own.owns ∙ ap (λ (n : ℕ). owners.Field n own.field) one ∙ ap (owners.Field w) same

-- a place with the number of a field's is that field's
pub place_by_number : (k : ℕ) (q : Place) → k < 16 → IsSmall q → is_local q ≡ false → number_of q ≡ number_of (places.Field k) → is_place (places.Field k) q ≡ true
place_by_number k (places.Var i) small less out same = absurd (true≢false out)
place_by_number k (places.Temp d) small less out same = absurd (true≢false out)
place_by_number k places.This small less out same = absurd (omega (arith, small, same))
place_by_number k (places.Field n) small less out same = eq-eqb k n (omega (arith, same))
place_by_number k places.Super small less out same = absurd (omega (arith, small, same))

-- ---- a fact in mode Held of a frame that answers for the fields of `this`, and does not lend it

module _ (p : Program) (h : HeapContents) (away anew : Bool) (old : ℕ → Bool) (frs : List Frame) (fr : Frame) (o : ℕ) (x : Object) (c : Covers p h away anew old frs fr o x) (done : x.finished ≡ true) (held : is_held c.fact.mode ≡ true)
    (answers : answers_for_fields (method_at p fr.method) ≡ true) (keeps : lends_this p fr ≡ false) (heavy : is_heavy_class p c.origin.class ≡ true) where
  second : (away ≡ false) × IsInField p fr c.fact.places x.owner → IsInField p fr c.fact.places x.owner
  second (kept, field) = field

  pub held_in_field : IsInField p fr c.fact.places x.owner
  held_in_field = second (c.free done held answers keeps heavy)

  pub held_by_this : IsOwnedByThis p fr x.owner
  held_by_this = held_in_field.0

  pub held_kept : away ≡ false
  held_kept = (c.free done held answers keeps heavy).0

  -- no frame owns it
  pub held_unowned : (i : ℕ) → is_frame_from i x.owner ≡ false
  held_unowned i = held_no_frame i x.owner held_by_this.holder (held_at x.owner held_by_this.holder held_by_this.field held_by_this.owns)

-- ---- a fact that says that the frame owns the object

pub this_kind : (kind : OriginKind) → is_origin_at kind (Some 0) ≡ true → kind ≡ kinds.ThisRef
this_kind kinds.ThisRef is = refl
this_kind (kinds.Param j) is = absurd (let same : j + 1 ≡ 0 = eqb-true (j + 1) 0 is in omega (arith, same))
this_kind kind is = absurd (true≢false (sym is))

-- none of its places is `this`'s
pub owning_out_of_this : (p : Program) (ac : Accept p) (h : HeapContents) (away anew : Bool) (old : ℕ → Bool) (frs : List Frame) (fr : Frame) (st : Stands p fr) (o : ℕ) (x : Object) (c : Covers p h away anew old frs fr o x) → is_owning_fact p c.origin c.fact ≡ true → is_in_this c.fact.places ≡ false
owning_out_of_this p ac h away anew old frs fr st o x c owning = go (is_in_this c.fact.places) refl
  where
    reached : Reach p st.number (relation_of p st.number) c.origin fr.control c.fact
    reached = subst (λ (b : BodyId). Reach p b (relation_of p b) c.origin fr.control c.fact) (same_body c.body st.number (body_id p fr.method) c.id st.id) c.reached

    unheld : is_held c.fact.mode ≡ false
    unheld = other c.fact.mode (and_parts (is_heavy_class p c.origin.class) (is_own c.fact.mode) owning).1
      where
        other : (m : Mode) → is_own m ≡ true → is_held m ≡ false
        other modes.Own is = refl
        other modes.None is = refl
        other modes.Held is = absurd (true≢false (sym is))
        other modes.Lent is = refl
        other modes.Alias is = refl

    no_place : (q : Place) → IsSmall q → is_local q ≡ false → has c.fact.places q ≡ true → ⊥
    no_place (places.Var i) small out is = true≢false out
    no_place (places.Temp d) small out is = true≢false out
    no_place (places.Field k) small out is = owning_in_no_field p h away anew old frs fr o x c owning k small is
    no_place places.Super small out is = (let never : None ≡ Some o = c.places (not_held_not_idle p frs fr c.fact unheld) places.Super tt refl is in cc)
    no_place places.This small out is =
        let run = running_method p ac fr st in
        let kind = this_kind c.origin.kind (this_own p ac st.number st.body st.at c.origin fr.control c.fact reached is) in
        let lent : is_lent p (method_at p fr.method) c.origin.kind ≡ true = ap (is_lent p (method_at p fr.method)) kind ∙ ap (λ (z : Option Method). is_lent p z kinds.ThisRef) run.1 in
        true≢false (sym owning ∙ (c.lent lent).0)

    go : (b : Bool) → is_in_this c.fact.places ≡ b → is_in_this c.fact.places ≡ false
    go false out = out
    go true inside = absurd (let it = place_in c.fact.places inside in no_place it.0 it.1 it.2 it.3)

-- what a fact in mode Held claims is finished, where the frame does not lend `this`
pub held_finished : (p : Program) (h : HeapContents) (away anew : Bool) (old : ℕ → Bool) (frs : List Frame) (fr : Frame) (o : ℕ) (x : Object) (c : Covers p h away anew old frs fr o x) → claims p (method_at p fr.method) c.origin c.fact ≡ true → is_held c.fact.mode ≡ true → lends_this p fr ≡ false → x.finished ≡ true
held_finished p h away anew old frs fr o x c claimed held keeps = (c.true' claimed (not_own away c.fact.mode held) (ap (λ (b : Bool). b && lends_this p fr) held ∙ keeps)).finished
  where
    none : (a : Bool) → (a && false) ≡ false
    none true = refl
    none false = refl

    not_own : (a : Bool) (m : Mode) → is_held m ≡ true → (a && is_own m) ≡ false
    not_own a modes.Own is = absurd (true≢false (sym is))
    not_own a modes.None is = none a
    not_own a modes.Held is = none a
    not_own a modes.Lent is = none a
    not_own a modes.Alias is = none a
