-- What an owning field of `this` holds in a frame that has a place for the field.
use Rattle.std.proofs.Common.{◌≡◌, ◌⊎◌, inl, inr, ℕ, ◌<◌, Bool, true, false, not, ◌&&◌, ◌||◌, Option, Some, None, List, slice_get, refl, sym, ap, ◌∙◌, subst, true≢false, eqb-true}
use Rattle.std.specs.FinSet as set
use Rattle.std.proofs.lemmas.Bool.{and_parts, not-true, or_left, or_right, and_from}
use Rattle.rlc_base.proofs.SetLaws.{empty_within, union_monotone, union_within, within_self, within_trans}
use Rattle.program_model.specs.declared.kinds.ClassId.{ClassId}
use Rattle.program_model.specs.declared.kinds.FieldId.{FieldId}
use Rattle.program_model.specs.declared.kinds.MethodId.{MethodId}
use Rattle.program_model.specs.declared.program.Field.{Field}
use Rattle.program_model.specs.declared.program.Method.{Method}
use Rattle.program_model.specs.declared.program.ParamSig.{ParamSig}
use Rattle.program_model.specs.declared.program.Program.{Program}
use Rattle.program_model.specs.Lookups.{field_at, method_at}
use Rattle.program_model.specs.SuperTests.{is_class}
use Rattle.ledger_obligations.specs.Bodies.{alias_in, constructs, has_field_place, is_class_of, is_field_in, method_of}
use Rattle.ledger_obligations.specs.MustCallSets.{Names, fits_type, is_empty, is_heavy_class, must_of, must_of_optional, no_names}
use Rattle.ownership_rules.specs.Signatures.{field_type, is_present}
use Rattle.java_control.specs.Owned.{field_number, place_of_field}
use Rattle.control_actions.specs.declared.fact.Fact.{Fact}
use Rattle.control_actions.specs.declared.fact.Mode.{Mode}
use Rattle.control_actions.specs.declared.fact.Mode.TheVariants as modes
use Rattle.control_actions.specs.declared.fact.Origin.{Origin}
use Rattle.control_actions.specs.declared.fact.OriginKind.{OriginKind}
use Rattle.control_actions.specs.declared.fact.OriginKind.TheVariants as kinds
use Rattle.control_actions.specs.declared.place.Place.{Place}
use Rattle.control_actions.specs.declared.place.Place.TheVariants as places
use Rattle.ownership_rules.specs.Facts.{has, is_held, is_own}
use Rattle.value_laws.specs.Accept.{Accept}
use Rattle.ledger_state.specs.Contents.{HeapContents}
use Rattle.ledger_state.specs.Fields.{field_of, field_value}
use Rattle.ledger_state.specs.Heaps.{root_of}
use Rattle.ledger_state.specs.declared.object.Object.{Object}
use Rattle.ledger_state.specs.declared.value.Value.{Value}
use Rattle.ledger_state.specs.declared.value.Value.TheVariants as values
use Rattle.value_laws.specs.Places.{field_place_value, owning_field_beside, place_value}
use Rattle.value_laws.specs.Configuration.{Frame}
use Rattle.value_laws.specs.Agreement.{Stands}
use Rattle.value_laws.specs.PlaceFacts.{Covers, IsApart, IsCovered, IsKeyed, asked_by, asked_of, claims, fits_field, fits_in, gives_none, is_heavy_field, is_heavy_in, is_idle, is_lent, is_owning_fact, is_settled, owned, renews_none, tells_calls, unowned}
use Rattle.value_laws.specs.PlainForms.{is_lent_parameter}
use Rattle.value_laws.specs.Renewing.{answers_for_fields, is_of_heavy_class, lends_this, makes_alone, reopens}
use Rattle.value_laws.proofs.FieldPlaces.{beside_of_place}
use Rattle.covering_laws.specs.Covering.{HoldsHeavy, IsCountedOn}
use Rattle.covering_laws.proofs.Following.{method_here}

same_class : (c d : ClassId) → is_class c d ≡ true → c ≡ d
same_class c d is = ap (λ (n : ℕ). (let z : ClassId = record { 0 = n } in z)) (eqb-true c.0 d.0 is)

-- the field that has a place in the frame
pub record HasPlace (p : Program) (fr : Frame) (f : FieldId) : Type 0 where
  pub field : Field
  pub at : field_at p f ≡ Some field
  pub owning : field.owning ≡ true
  pub method : Method
  pub named : method_at p fr.method ≡ Some method
  pub class : field.class ≡ method.class
  pub small : field_number p f < 16
  pub beside : owning_field_beside p fr.method (field_number p f) ≡ Some f

module _ (p : Program) (ac : Accept p) (fr : Frame) (st : Stands p fr) (f : FieldId) where
  pub has_place_here : has_field_place p st.number f ≡ true → HasPlace p fr f
  has_place_here has = by (field_at p f) refl (sym (ap (is_field_in p st.number) refl) ∙ has)
    where
      small : field_number p f < 16
      small = (ac.fits st.number).room.fields f has

      of_method : (x : Field) → field_at p f ≡ Some x → x.owning ≡ true → (m : Option Method) → method_at p fr.method ≡ m → is_class_of x.class m ≡ true → HasPlace p fr f
      of_method x at own None named is = absurd (true≢false (sym is))
      of_method x at own (Some m) named is =
          let class : x.class ≡ m.class = same_class x.class m.class is in
          record { field = x; at = at; owning = own; method = m; named = named; class = class; small = small; beside = beside_of_place p ac.well_formed.valid.typed fr.method m f x named at own class small }

      by : (x : Option Field) → field_at p f ≡ x → is_field_in p st.number x ≡ true → HasPlace p fr f
      by None at is = absurd (true≢false (sym is))
      by (Some x) at is =
          let parts = and_parts x.owning (is_class_of x.class (method_of p st.number)) is in
          of_method x at parts.0 (method_at p fr.method) refl (ap (is_class_of x.class) (sym (method_here p fr st)) ∙ parts.1)

-- the fact of a place that is covered
pub covered_at : (p : Program) (h : HeapContents) (away anew : Bool) (old : ℕ → Bool) (frs : List Frame) (fr : Frame) (q : Place) (o : ℕ) (x : Object) → IsKeyed p h away anew old frs fr q o x → (c : Covers p h away anew old frs fr o x) × (has c.fact.places q ≡ true)
covered_at p h away anew old frs fr q o x (owned c here key) = (c, here)
covered_at p h away anew old frs fr q o x (unowned u) = (u.covers, u.here)

module _ (p : Program) (h : HeapContents) (fr : Frame) (f : FieldId) (here : HasPlace p fr f) where
  pub value_here : (w : ℕ) → fr.locals.this ≡ values.Object w → place_value p h fr.method fr.locals (place_of_field p f) ≡ field_value p h w f
  value_here w this = ap (field_place_value p h fr.locals.this) here.beside ∙ ap (λ (v : Value). field_of p h v f) this

  pub heavy_here : is_heavy_in p (Some f) ≡ true → is_heavy_field p fr.method (place_of_field p f) ≡ true
  heavy_here heavy = ap (is_heavy_in p) here.beside ∙ heavy

  -- where the frame does not lend `this`
  pub covers_field : (old : ℕ → Bool) (frs : List Frame) → IsCovered p h gives_none renews_none old frs fr → lends_this p fr ≡ false → (w o : ℕ) (x : Object) → HoldsHeavy p h fr w f o x
      → (c : Covers p h false false old frs fr o x) × (has c.fact.places (place_of_field p f) ≡ true)
  covers_field old frs covered keeps w o x holds = covered_at p h false false old frs fr (place_of_field p f) o x
      (covered (place_of_field p f) o x here.small keeps (ap (root_of h) (value_here w holds.this) ∙ holds.held) holds.at holds.class holds.owes)

-- in a frame that answers for the fields of `this` a fact that says that a field holds the object claims it
pub held_claims : (p : Program) (m : Option Method) (o : Origin) (g : Fact) → answers_for_fields m ≡ true → g.mode ≡ modes.Held → is_heavy_class p o.class ≡ true → claims p m o g ≡ true
held_claims p m o g answers held heavy = rw (heavy, held, answers) refl

pub own_claims : (p : Program) (m : Option Method) (o : Origin) (g : Fact) → g.mode ≡ modes.Own → is_heavy_class p o.class ≡ true → claims p m o g ≡ true
own_claims p m o g own heavy = rw (heavy, own) refl

-- elsewhere it tells what was called
pub held_tells : (p : Program) (m : MethodId) (o : Origin) (g : Fact) → answers_for_fields (method_at p m) ≡ false → g.mode ≡ modes.Held → tells_calls p m o g ≡ true
held_tells p m o g other held = and_from (is_lent p (method_at p m) o.kind || is_held g.mode) (not (is_held g.mode && answers_for_fields (method_at p m))) (or_right (is_lent p (method_at p m) o.kind) (is_held g.mode) (ap is_held held)) (rw (held, other) refl)

-- a constructor without an aliased argument
pub makes_alone_by : (m : Option Method) → constructs m ≡ true → alias_in m ≡ None → makes_alone m ≡ true
makes_alone_by m makes none = rw (makes, none) refl

-- ---- frames that answer for the fields of `this`

pub alone_answers : (m : Option Method) → makes_alone m ≡ true → answers_for_fields m ≡ true
alone_answers m alone = rw alone refl

pub reopening_answers : (m : Option Method) → reopens m ≡ true → answers_for_fields m ≡ true
reopening_answers m opens = or_right (makes_alone m) (reopens m) opens

-- they run a constructor without an aliased argument, or a method that creates the obligation of `this` anew
pub answers_by : (m : Option Method) → answers_for_fields m ≡ true → (makes_alone m ≡ true) ⊎ (reopens m ≡ true)
answers_by m answers = go (makes_alone m) refl answers
  where
    go : (b : Bool) → makes_alone m ≡ b → (b || reopens m) ≡ true → (makes_alone m ≡ true) ⊎ (reopens m ≡ true)
    go true is some = inl is
    go false none some = inr some

-- what a fact says that says no more than that its frame owns the object, or that answers for the fields of `this`, is not idle
pub not_held_not_idle : (p : Program) (frs : List Frame) (fr : Frame) (f : Fact) → is_held f.mode ≡ false → is_idle p frs fr f ≡ false
not_held_not_idle p frs fr f other = rw other refl

pub answering_not_idle : (p : Program) (frs : List Frame) (fr : Frame) (f : Fact) → answers_for_fields (method_at p fr.method) ≡ true → is_idle p frs fr f ≡ false
answering_not_idle p frs fr f answers = elim (answers_by (method_at p fr.method) answers) [
  | inl alone ↦ by (is_held f.mode) (constructs (method_at p fr.method)) (and_parts (constructs (method_at p fr.method)) (not (is_present (alias_in (method_at p fr.method)))) alone).0
  | inr opens ↦ or (is_held f.mode) (constructs (method_at p fr.method)) (reopens (method_at p fr.method)) opens
]
  where
    by : (a b : Bool) → b ≡ true → (a && not b && not (reopens (method_at p fr.method)) && is_of_heavy_class p (method_at p fr.method) && not (is_settled p fr frs)) ≡ false
    by true b is = rw is refl
    by false b is = refl

    or : (a b c : Bool) → c ≡ true → (a && not b && not c && is_of_heavy_class p (method_at p fr.method) && not (is_settled p fr frs)) ≡ false
    or true true c is = refl
    or true false c is = rw is refl
    or false b c is = refl

-- the type of a field that bounds a class with an obligation has one
pub heavy_by_fit : (p : Program) (c : ClassId) (f : FieldId) → is_heavy_class p c ≡ true → fits_type p c (field_type p f) ≡ true → is_heavy_in p (Some f) ≡ true
heavy_by_fit p c f heavy fit = go (is_empty (must_of_optional p (field_type p f))) refl
  where
    go : (b : Bool) → is_empty (must_of_optional p (field_type p f)) ≡ b → not b ≡ true
    go true none = absurd (true≢false (sym (within_trans (must_of p c) (must_of_optional p (field_type p f)) no_names fit none) ∙ not-true (is_empty (must_of p c)) heavy))
    go false some = refl

pub heavy_by_place : (p : Program) (m : MethodId) (k : ℕ) (c : ClassId) → is_heavy_class p c ≡ true → fits_field p m k c ≡ true → is_heavy_field p m (places.Field k) ≡ true
heavy_by_place p m k c heavy fit = go (owning_field_beside p m k) fit
  where
    go : (x : Option FieldId) → fits_in p c x ≡ true → is_heavy_in p x ≡ true
    go None none = absurd (true≢false (sym none))
    go (Some f) fits = heavy_by_fit p c f heavy fits

-- ---- what a fact tells

either : (a b : Bool) → (a || b) ≡ true → (a ≡ true) ⊎ (b ≡ true)
either true b is = inl refl
either false b is = inr is

-- it is that of what is lent, or it says that a field holds the object
pub tells_by : (p : Program) (m : MethodId) (o : Origin) (f : Fact) → tells_calls p m o f ≡ true → (is_lent p (method_at p m) o.kind ≡ true) ⊎ (is_held f.mode ≡ true)
tells_by p m o f tells = either (is_lent p (method_at p m) o.kind) (is_held f.mode) (and_parts (is_lent p (method_at p m) o.kind || is_held f.mode) (not (is_held f.mode && answers_for_fields (method_at p m))) tells).0

-- and this in no frame that answers for the fields of `this`
pub tells_apart : (p : Program) (m : MethodId) (o : Origin) (f : Fact) → tells_calls p m o f ≡ true → (is_held f.mode && answers_for_fields (method_at p m)) ≡ false
tells_apart p m o f tells = not-true (is_held f.mode && answers_for_fields (method_at p m)) (and_parts (is_lent p (method_at p m) o.kind || is_held f.mode) (not (is_held f.mode && answers_for_fields (method_at p m))) tells).1

pub lent_tells : (p : Program) (m : MethodId) (o : Origin) (f : Fact) → (is_held f.mode && answers_for_fields (method_at p m)) ≡ false → is_lent p (method_at p m) o.kind ≡ true → tells_calls p m o f ≡ true
lent_tells p m o f other lent =
    and_from (is_lent p (method_at p m) o.kind || is_held f.mode) (not (is_held f.mode && answers_for_fields (method_at p m))) (or_left (is_lent p (method_at p m) o.kind) (is_held f.mode) lent) (ap not other)

-- ---- what a fact knows beside what is asked for before

-- an origin that is not lent asks for nothing
pub none_asked : (p : Program) (m : Option Method) (kind : OriginKind) → is_lent p m kind ≡ false → asked_of p m kind ≡ no_names
none_asked p None kind none = refl
none_asked p (Some m) kinds.ThisRef none = absurd (true≢false none)
none_asked p (Some m) (kinds.Param k) none = by (slice_get m.sig.params.items k) none
  where
    by : (x : Option ParamSig) → is_lent_parameter p x ≡ false → asked_by p x ≡ no_names
    by None none' = refl
    by (Some x) none' = rw none' refl
none_asked p (Some m) kind none = refl

-- a lent parameter asks for its names
pub asked_here : (p : Program) (x : ParamSig) → is_lent_parameter p (Some x) ≡ true → asked_by p (Some x) ≡ x.before
asked_here p x lent = rw lent refl

-- where the origin is not lent, all that its fact knows was called
pub known_alone : (p : Program) (m : Option Method) (kind : OriginKind) (called names : Names) → is_lent p m kind ≡ false → set.is_subset called (set.union (asked_of p m kind) names) ≡ true → set.is_subset called names ≡ true
known_alone p m kind called names none known =
    within_trans called (set.union (asked_of p m kind) names) names known
    (union_within (asked_of p m kind) names names (subst (λ (s : Names). set.is_subset s names ≡ true) (sym (none_asked p m kind none)) (empty_within names)) (within_self names))

-- outside constructors a fact that says that a field holds its object is of no such origin
pub held_unlent : (p : Program) (h : HeapContents) (away anew : Bool) (old : ℕ → Bool) (frs : List Frame) (fr : Frame) (o : ℕ) (x : Object) (c : Covers p h away anew old frs fr o x) → c.fact.mode ≡ modes.Held → constructs (method_at p fr.method) ≡ false
    → is_lent p (method_at p fr.method) c.origin.kind ≡ false
held_unlent p h away anew old frs fr o x c held plain = by (is_lent p (method_at p fr.method) c.origin.kind) refl
  where
    by : (b : Bool) → is_lent p (method_at p fr.method) c.origin.kind ≡ b → is_lent p (method_at p fr.method) c.origin.kind ≡ false
    by false none = none
    by true lent = absurd (true≢false (sym ((c.lent lent).1 (ap is_held held)).0 ∙ plain))

-- nor in frames that answer for the fields of `this`
pub lent_not_alone : (p : Program) (h : HeapContents) (away anew : Bool) (old : ℕ → Bool) (frs : List Frame) (fr : Frame) (o : ℕ) (x : Object) (c : Covers p h away anew old frs fr o x) → is_lent p (method_at p fr.method) c.origin.kind ≡ true
    → (is_held c.fact.mode && answers_for_fields (method_at p fr.method)) ≡ false
lent_not_alone p h away anew old frs fr o x c lent = go (is_held c.fact.mode) refl
  where
    go : (b : Bool) → is_held c.fact.mode ≡ b → (b && answers_for_fields (method_at p fr.method)) ≡ false
    go true held = let it = (c.lent lent).1 held in rw (it.1, it.0) refl
    go false other = refl

-- what it knows grows with what was called
pub known_on : (called asked names more : Names) → set.is_subset called (set.union asked names) ≡ true → set.is_subset names more ≡ true → set.is_subset called (set.union asked more) ≡ true
known_on called asked names more known grows = within_trans called (set.union asked names) (set.union asked more) known (union_monotone asked asked names more (within_self asked) grows)

-- a fact claims only where it says that the object is owned
pub claims_owned : (p : Program) (m : Option Method) (o : Origin) (f : Fact) → claims p m o f ≡ true → (is_heavy_class p o.class ≡ true) × ((is_own f.mode || is_held f.mode) ≡ true)
claims_owned p m o f claimed =
    let parts = and_parts (is_heavy_class p o.class) (is_own f.mode || is_held f.mode && answers_for_fields m) claimed in
    (parts.0, go (is_own f.mode) (is_held f.mode) (answers_for_fields m) parts.1)
  where
    go : (a b c : Bool) → (a || b && c) ≡ true → (a || b) ≡ true
    go true b c is = refl
    go false true c is = refl
    go false false c is = is

-- and it claims as a fact in the same mode does
pub claims_as : (p : Program) (m : Option Method) (o : Origin) (f g : Fact) → g.mode ≡ f.mode → claims p m o g ≡ true → claims p m o f ≡ true
claims_as p m o f g same claimed = sym (ap (λ (u : Mode). is_heavy_class p o.class && (is_own u || is_held u && answers_for_fields m)) same) ∙ claimed

-- a fact that says that a field holds the object claims in a frame that answers for the fields of `this` alone
pub claims_answered : (p : Program) (m : Option Method) (o : Origin) (f : Fact) → f.mode ≡ modes.Held → claims p m o f ≡ true → answers_for_fields m ≡ true
claims_answered p m o f held claimed =
    sym (ap (λ (u : Mode). is_own u || is_held u && answers_for_fields m) held) ∙ (and_parts (is_heavy_class p o.class) (is_own f.mode || is_held f.mode && answers_for_fields m) claimed).1

pub held_mode : (m : Mode) → is_held m ≡ true → m ≡ modes.Held
held_mode modes.Own is = absurd (true≢false (sym is))
held_mode modes.None is = absurd (true≢false (sym is))
held_mode modes.Held is = refl
held_mode modes.Lent is = absurd (true≢false (sym is))
held_mode modes.Alias is = absurd (true≢false (sym is))

-- what it claims is the frame's, or a field's in a frame that answers for these
pub claims_by : (p : Program) (m : Option Method) (o : Origin) (f : Fact) → claims p m o f ≡ true → (is_own f.mode ≡ true) ⊎ ((is_held f.mode ≡ true) × (answers_for_fields m ≡ true))
claims_by p m o f claimed = go (is_own f.mode) (is_held f.mode) (answers_for_fields m) (and_parts (is_heavy_class p o.class) (is_own f.mode || is_held f.mode && answers_for_fields m) claimed).1
  where
    go : (a b c : Bool) → (a || b && c) ≡ true → (a ≡ true) ⊎ ((b ≡ true) × (c ≡ true))
    go true b c is = inl refl
    go false true true is = inr (refl, refl)
    go false true false is = absurd (true≢false (sym is))
    go false false c is = absurd (true≢false (sym is))

-- ---- the frame owns the object

pub owning_claims : (p : Program) (m : Option Method) (o : Origin) (f : Fact) → is_owning_fact p o f ≡ true → claims p m o f ≡ true
owning_claims p m o f owning = let parts = and_parts (is_heavy_class p o.class) (is_own f.mode) owning in rw (parts.0, parts.1) refl

-- a fact that claims nothing does not say that the frame owns an object with an obligation
pub unclaimed_not_owning : (p : Program) (m : Option Method) (o : Origin) (f : Fact) → claims p m o f ≡ false → is_owning_fact p o f ≡ false
unclaimed_not_owning p m o f none = go (is_owning_fact p o f) refl
  where
    go : (b : Bool) → is_owning_fact p o f ≡ b → is_owning_fact p o f ≡ false
    go false is = is
    go true owning = absurd (true≢false (sym (owning_claims p m o f owning) ∙ none))

-- such a fact has no place of an owning field
pub owning_in_no_field : (p : Program) (h : HeapContents) (away anew : Bool) (old : ℕ → Bool) (frs : List Frame) (fr : Frame) (o : ℕ) (x : Object) (c : Covers p h away anew old frs fr o x) → is_owning_fact p c.origin c.fact ≡ true
    → (k : ℕ) → k < 16 → has c.fact.places (places.Field k) ≡ true → ⊥
owning_in_no_field p h away anew old frs fr o x c owning k inside there =
    let parts = and_parts (is_heavy_class p c.origin.class) (is_own c.fact.mode) owning in
    let held = c.held k inside there (heavy_by_place p fr.method k c.origin.class parts.0 (c.fields k inside parts.0 there)) in
    true≢false (sym parts.1 ∙ ap is_own held.0)

-- ---- what the frame may count on

-- what was old and is spared, and was not given up, where something is said of it
pub apart_held : (p : Program) (h : HeapContents) (old : ℕ → Bool) (frs : List Frame) (fr : Frame) (o : ℕ) (x : Object) (f : Fact) → is_idle p frs fr f ≡ false → IsCountedOn p h old frs fr o x → IsApart p h old frs fr o f
apart_held p h old frs fr o x f said counted = (counted.0, counted.1, counted.2, said)
