-- The top frame takes a step of its own that stores into no owning field, or a step of a call that has ended: what its places hold
-- stays covered.
use Rattle.std.proofs.Common.{◌≡◌, ◌⊎◌, inl, inr, ℕ, ◌+◌, ◌<◌, Bool, cond, true, false, not, ◌&&◌, ◌||◌, Option, Some, None, List, length, slice_get, refl, sym, ap, ◌∙◌, subst, true≢false}
use Rattle.std.specs.FinSet as set
use Rattle.std.proofs.lemmas.Bool.{and_from, and_parts, or_left, or_right}
use Rattle.program_model.specs.declared.kinds.BodyId.{BodyId}
use Rattle.program_model.specs.declared.kinds.ClassId.{ClassId}
use Rattle.program_model.specs.declared.kinds.FieldId.{FieldId}
use Rattle.program_model.specs.declared.program.Program.{Program}
use Rattle.ledger_obligations.specs.Bodies.{constructs}
use Rattle.ledger_obligations.specs.MustCallSets.{Names, is_heavy_class, must_of, no_names}
use Rattle.java_control.specs.Calls.{is_reset_of_this}
use Rattle.java_control.specs.Control.{Step}
use Rattle.java_control.specs.Owned.{place_of_field}
use Rattle.java_control.specs.PlaceNumbers.{IsSmall, number_of}
use Rattle.java_control.specs.Sources.{is_part, source}
use Rattle.control_actions.specs.declared.action.Action.TheVariants as actions
use Rattle.control_actions.specs.declared.action.PlainValue.{PlainValue}
use Rattle.control_actions.specs.declared.fact.Fact.{Fact}
use Rattle.control_actions.specs.declared.fact.Origin.{Origin}
use Rattle.control_actions.specs.declared.place.Place.{Place}
use Rattle.control_actions.specs.declared.place.Place.TheVariants as places
use Rattle.ownership_rules.specs.Facts.{PlaceSet, has, is_held, is_own}
use Rattle.ownership_rules.specs.SmallActions.{IsSmallAction}
use Rattle.value_laws.specs.Aliases.{gives_alias}
use Rattle.value_laws.specs.PlaceRows.{places_after}
use Rattle.value_laws.specs.CalledRows.{called_after}
use Rattle.value_laws.specs.Flow.{flow}
use Rattle.value_laws.specs.Paths.{Reach, move_of, relation_of}
use Rattle.value_laws.specs.Accept.{Accept}
use Rattle.ledger_state.specs.Contents.{HeapContents}
use Rattle.ledger_state.specs.Heaps.{object_at, root_of}
use Rattle.ledger_state.specs.declared.entry.Owner.TheVariants as owners
use Rattle.ledger_state.specs.declared.object.Object.{Object}
use Rattle.ledger_state.specs.declared.value.Value.{Value}
use Rattle.value_laws.specs.Places.{place_value}
use Rattle.value_laws.specs.Configuration.{Frame}
use Rattle.value_laws.specs.Choosing.{body_by, body_id, frame_steps, method_body}
use Rattle.value_laws.specs.Frames.{frame_after, is_made, made_place}
use Rattle.value_laws.specs.Heaps.{GoesOn, HasEarlierLinks}
use Rattle.value_laws.specs.PlacePlaces.{HasTarget, IsWay, SetsLocals, has_source, is_local, takes_alias}
use Rattle.value_laws.proofs.PlaceLaws.{alias_stands, places_come_from_sources, places_stay_in_range, single_place-same, source_is_small, value_comes_from_source}
use Rattle.value_laws.specs.HeapAnew.{is_field_owner}
use Rattle.value_laws.specs.Agreement.{Stands}
use Rattle.value_laws.specs.Outcomes.{After}
use Rattle.value_laws.specs.FactGoing.{GoesAs, is_owned_in}
use Rattle.value_laws.specs.PlaceFacts.{Covers, IsApart, IsCovered, IsKeyed, IsOld, IsOwned, IsTrueOf, IsUnowned, asked_of, claims, gives_none, is_field_place, is_frame_from, is_idle, is_lent, is_lent_place, is_owning_fact, is_settled, OwesOrHolds, owned, tells_calls, unowned}
use Rattle.covering_laws.proofs.HeavyFields.{claims_as, claims_by, claims_owned, held_mode, held_tells, known_on, lent_not_alone, lent_tells, tells_apart, tells_by, unclaimed_not_owning}
use Rattle.value_laws.proofs.FieldResets.{reset_empties_fields, reset_leaves_this}
use Rattle.covering_laws.proofs.InFields.{held_in_field, held_kept, held_unowned, in_field_on, in_this}
use Rattle.covering_laws.proofs.OwnerSteps.{own_frame}
use Rattle.value_laws.proofs.OtherPlaces.{stays_aside, left_aside}
use Rattle.value_laws.specs.Renewing.{HasOwningField, answers_for_fields, fact_as, is_of_heavy_class, lends_this, reopens}
use Rattle.value_laws.proofs.ValuesAfter.{IsFrom, value_is_from}
use Rattle.covering_laws.proofs.Following.{followed, same_body, step_there}
use Rattle.covering_laws.proofs.Owners.{KeepsHeld, StaysApart, apart_before}
use Rattle.covering_laws.proofs.RenewedFacts.{true_alike}
use Rattle.covering_laws.proofs.SaidFacts.{lends_by_step}
use Rattle.covering_laws.proofs.ThisFacts.{field_is_part, lent_in_body, lent_not_held, local_is_no_field, reset_source}
use Rattle.value_laws.proofs.Needs.{origin_needs_all}
use Rattle.covering_laws.proofs.Waiting.{heavy_stays, kept_root, Carries, Continues, HoldsThere, IsCarried, KeepsFieldsButTexts, KeepsReady, KeepsRootsOf, idle_as, numbered, own_not_held, bore_before, kept_place, still_true, stays_unowned, still_unfinished, was_open}
use Rattle.rlc_base.proofs.SetLaws.{within_self, within_trans, within_union_right}
use Rattle.program_model.specs.Lookups.{method_at}
use Rattle.control_actions.specs.declared.fact.Outcome.{Outcome}
use Rattle.control_actions.specs.declared.fact.Outcome.TheVariants.{Next, Gone, Fault}

-- what a step makes of a fact, which is so in other words too
pub after_as : (P Q : Fact → Type 0) (x : Outcome) → ((g : Fact) → P g → Q g) → After P x → After Q x
after_as P Q (Next g) as' is = as' g is
after_as P Q Gone as' is = is
after_as P Q (Fault rule names) as' is = tt

-- or besides
pub after_both : (P Q : Fact → Type 0) (x : Outcome) (A : Type 0) → After P x → (A → After Q x) → After (λ (g : Fact). P g × (A → Q g)) x
after_both P Q (Next g) A is more = (is, more)
after_both P Q Gone A is more = is
after_both P Q (Fault rule names) A is more = tt

pub other_alone : (a b : Bool) → a ≡ true → (a && b) ≡ false → b ≡ false
other_alone true b is none = none
other_alone false b is none = absurd (true≢false (sym is))

-- what the laws on places ask of a step that stores into no owning field
pub record IsLocalStep (p : Program) (fr : Frame) (st : Stands p fr) (s : Step) : Type 0 where
  pub small : IsSmallAction p s.action
  pub sets : SetsLocals s.action
  pub moves : (x y : Place) → s.action ≡ actions.Move x y → is_local y ≡ true
  pub makes : (x : Place) (v : PlainValue) → s.action ≡ actions.Plain x v → is_local x ≡ true
  pub target : HasTarget fr.locals s.action
  pub way : IsWay s.action s.edge

-- and tells of which outcome it is
pub after_told : (P : Fact → Type 0) (x y : Outcome) → y ≡ x → After P x → After (λ (g : Fact). P g × (y ≡ Next g)) x
after_told P (Next g) y same is = (is, same)
after_told P Gone y same is = is
after_told P (Fault rule names) y same is = tt

-- no fact of the frame goes on owning the object
abbrev pub StopsOwning : (p : Program) → HeapContents → Frame → (ℕ → Bool) → List Frame → (ℕ → ClassId → Bool) → (ℕ → Bool) → (Origin → Fact → Fact → Type 0) → ℕ → Type 0
StopsOwning p h fr old frs gives renewed More o =
    (x : Object) → object_at h o ≡ Some x → (z : Place) → IsSmall z → root_of h (place_value p h fr.method fr.locals z) ≡ Some o → (c : Covers p h (gives o x.class) (renewed o) old frs fr o x) → IsOwned p h (gives o x.class) (renewed o) old frs fr o x c
    → is_own c.fact.mode ≡ true → (g : Fact) → More c.origin c.fact g → is_own g.mode ≡ false

module _ (p : Program) (ac : Accept p) (h k : HeapContents) (links : HasEarlierLinks h) (carries : Carries h k) (fields : KeepsFieldsButTexts p h k)
    (fr : Frame) (st : Stands p fr) (i : ℕ) (s : Step) (here : slice_get (frame_steps p fr) i ≡ Some s) (r : IsLocalStep p fr st s) (inside : HoldsThere p h fr) (roots : KeepsRootsOf p h k fr) (v : Value) where
  abbrev after : Frame
  after = frame_after p h fr s v

  abbrev later : PlaceSet → PlaceSet
  later held = places_after p st.number s.action s.edge held

  body_here : method_body p fr.method ≡ Some st.body
  body_here = ap (body_by p) st.id ∙ st.at

  -- the step sets variables and temps alone
  other : (x : Place) → is_local x ≡ false → place_value p k fr.method after.locals x ≡ place_value p k fr.method fr.locals x
  other (places.Var j) out = absurd (true≢false out)
  other (places.Temp d) out = absurd (true≢false out)
  other places.This out = refl
  other (places.Field n) out = refl
  other places.Super out = refl

  -- a place has the root that it had
  root_later : (z : Place) (o : ℕ) → IsSmall z → root_of h (place_value p h fr.method fr.locals z) ≡ Some o → root_of k (place_value p h fr.method fr.locals z) ≡ Some o
  root_later z o small was = roots z small ∙ was

  root_earlier : (z : Place) (o : ℕ) → IsSmall z → root_of k (place_value p h fr.method fr.locals z) ≡ Some o → root_of h (place_value p h fr.method fr.locals z) ≡ Some o
  root_earlier z o small now = sym (roots z small) ∙ now

  -- while `this` is lent, the step creates its obligation anew
  lent_out : (q : Place) → is_lent_place p fr q ≡ true → (is_reset_of_this p s.action ≡ true) × (is_part q ≡ true)
  lent_out q lent = (go (is_reset_of_this p s.action) refl, field_is_part q parts.0)
    where
      parts : (is_field_place q ≡ true) × (lends_this p fr ≡ true)
      parts = and_parts (is_field_place q) (lends_this p fr) lent

      go : (b : Bool) → is_reset_of_this p s.action ≡ b → is_reset_of_this p s.action ≡ true
      go true is = is
      go false none = absurd (true≢false (sym parts.1 ∙ lends_by_step p fr st i s here none))

  -- so what a local place has it has from no such place
  source_kept : (q z : Place) → is_local q ≡ true → source p st.body s.action s.edge q ≡ Some z → is_lent_place p fr z ≡ false
  source_kept q z local from = go (is_lent_place p fr z) refl
    where
      go : (b : Bool) → is_lent_place p fr z ≡ b → is_lent_place p fr z ≡ false
      go false none = none
      go true lent = absurd (true≢false (sym (and_parts (is_field_place z) (lends_this p fr) lent).0
          ∙ ap is_field_place (reset_source p st.body s.action s.edge q z (lent_out z lent).0 from) ∙ local_is_no_field q local))

  -- the step gives the object where it is a call that gives an alias of the fact's object
  abbrev pub GivesIt : PlaceSet → ℕ → Type 0
  GivesIt held o = gives_alias p s.action s.edge held ≡ true → root_of k v ≡ Some o

  -- where a place of a fact after the step held the object before it, or takes an alias of it, it holds it after it
  still_holds : (held : PlaceSet) (o : ℕ) (x : Object) → object_at h o ≡ Some x → is_heavy_class p x.class ≡ true → ((z : Place) → IsSmall z → is_lent_place p fr z ≡ false → has held z ≡ true → root_of h (place_value p h fr.method fr.locals z) ≡ Some o) → GivesIt held o
      → (z : Place) → IsSmall z → has (later held) z ≡ true → root_of k (place_value p k fr.method after.locals z) ≡ Some o
  still_holds held o thing there heavy before alias z small is = go (is_local z) refl
    where
      from : is_local z ≡ true → (x : Option Place) → source p st.body s.action s.edge z ≡ x → has_source held x ≡ true → root_of k (place_value p k fr.method after.locals z) ≡ Some o
      from local None e one = absurd (true≢false (sym one))
      from local (Some x) e one =
          let small' = source_is_small p st.body s.action s.edge z x r.small small e in
          let was = before x small' (source_kept z x local e) one in
          ap (root_of k) (value_comes_from_source p h k fr.method st.body fr.locals s.action s.edge v z x o body_here small local r.target e was) ∙ root_later x o small' was

      taken : is_local z ≡ true → (b : Bool) → takes_alias p s.action s.edge held z ≡ b → (b || has_source held (source p st.body s.action s.edge z)) ≡ true → root_of k (place_value p k fr.method after.locals z) ≡ Some o
      taken local true takes one =
          ap (root_of k) (alias_stands p h k fr.method st.body fr.locals s.action s.edge v held z body_here small r.target takes)
          ∙ alias (and_parts (gives_alias p s.action s.edge held) (is_made (made_place s.action) z) takes).0
      taken local false takes one = from local (source p st.body s.action s.edge z) refl one

      -- the places of fields leave where `this` is lent
      stays_out : (b : Bool) → is_lent_place p fr z ≡ b → is_lent_place p fr z ≡ false
      stays_out false none = none
      stays_out true lent = let out' = lent_out z lent in absurd (true≢false (sym is ∙ reset_empties_fields p st.number s.edge held z out'.1 small s.action r.small out'.0))

      go : (b : Bool) → is_local z ≡ b → root_of k (place_value p k fr.method after.locals z) ≡ Some o
      go true local = taken local (takes_alias p s.action s.edge held z) refl
          (sym (places_come_from_sources p st.number st.body s.action s.edge held z st.at r.small small local r.way) ∙ is)
      go false out =
          let was = before z small (stays_out (is_lent_place p fr z) refl) (left_aside z small out p st.number s.edge held s.action r.small r.sets r.moves r.makes is) in
          ap (root_of k) (other z out ∙ heavy_stays p h k _ _ o thing (kept_place p h k fields fr.method fr.locals z) was there heavy) ∙ root_later z o small was

  -- what a fact of this origin knows is to be true: it says that the object is owned, or it is that of what is lent
  abbrev pub IsTrusted : Origin → Fact → Type 0
  IsTrusted g f = (is_owned_in f.mode ≡ true) ⊎ (is_lent p (method_at p fr.method) g.kind ≡ true)

  -- The fact claims the object, which is not given away; or it tells of calls, and what it knows was called: the object was old when the frame began, and the call that began it spares it.
  abbrev pub IsSure : (old : ℕ → Bool) (frs : List Frame) (away anew : Bool) (o : ℕ) (x : Object) → Covers p h away anew old frs fr o x → Type 0
  IsSure old frs away anew o x c =
      ((claims p (method_at p fr.method) c.origin c.fact ≡ true) × (away ≡ false)) ⊎ ((tells_calls p fr.method c.origin c.fact ≡ true) × IsApart p h old frs fr o c.fact)

  -- so it is where the fact is the one that owns the object
  abbrev pub IsSureOf : (old : ℕ → Bool) (frs : List Frame) (away anew : Bool) (o : ℕ) (x : Object) → Covers p h away anew old frs fr o x → Type 0
  IsSureOf old frs away anew o x c = (IsOwned p h away anew old frs fr o x c × (away ≡ false)) ⊎ ((tells_calls p fr.method c.origin c.fact ≡ true) × IsApart p h old frs fr o c.fact)

  -- A fact of which nothing is said says that a field of `this` holds its object, and does so still.
  abbrev pub StaysIdle : List Frame → Type 0
  StaysIdle frs = (g : Origin) (f f' : Fact) → Reach p st.number (relation_of p st.number) g fr.control f → GoesAs f (later f.places) (called_after p st.number s.action s.edge f) f' → is_idle p frs fr f ≡ true → is_held f'.mode ≡ true

  -- the step lets the fact go on, and what it knows to have been called was
  module _ (old : ℕ → Bool) (frs : List Frame) (aged : IsOld p h frs fr old) (idle : StaysIdle frs) (away anew : Bool) (o : ℕ) (x y : Object) (before : object_at h o ≡ Some x) (at : object_at k o ≡ Some y) (class : y.class ≡ x.class) (wide : is_heavy_class p x.class ≡ true)
      (goes : x.finished ≡ true → Continues x y) (ready : y.finished ≡ true → x.finished ≡ true) (others : StaysApart p h k frs fr) (lasting : KeepsHeld p h k fr) (c : Covers p h away anew old frs fr o x)
      (More : Fact → Type 0)
      (row : (q : Place) → has (later c.fact.places) q ≡ true
      → After (λ (g : Fact). GoesAs c.fact (later c.fact.places) (called_after p st.number s.action s.edge c.fact) g × More g) (flow p st.number c.origin s.action s.edge c.fact))
      (spared : (g : Fact) → More g → is_own g.mode ≡ true → is_owning_fact p c.origin c.fact ≡ true → away ≡ false)
      (known : (g : Fact) → More g → IsTrusted c.origin g → IsSure old frs away anew o x c → anew ≡ false → x.finished ≡ true → (names : Names) → set.is_subset y.called names ≡ true → set.is_subset c.fact.called names ≡ true
      → set.is_subset (called_after p st.number s.action s.edge c.fact) names ≡ true)
      (alias : is_idle p frs fr c.fact ≡ false → GivesIt c.fact.places o) where
    reached : Reach p st.number (relation_of p st.number) c.origin fr.control c.fact
    reached = subst (λ (b : BodyId). Reach p b (relation_of p b) c.origin fr.control c.fact) (same_body c.body st.number (body_id p fr.method) c.id st.id) c.reached

    -- it goes on as this fact
    abbrev pub Goes : Fact → Type 0
    Goes g =
        Reach p st.number (relation_of p st.number) c.origin s.to g × (GoesAs c.fact (later c.fact.places) (called_after p st.number s.action s.edge c.fact) g × More g)
        × (flow p st.number c.origin s.action s.edge c.fact ≡ Next g)

    pub gone_on : (q : Place) → has (later c.fact.places) q ≡ true → (g : Fact) × Goes g
    gone_on q is =
        by (followed p ac st.number c.origin i (move_of s) c.fact
        (λ (g : Fact). (GoesAs c.fact (later c.fact.places) (called_after p st.number s.action s.edge c.fact) g × More g) × (flow p st.number c.origin s.action s.edge c.fact ≡ Next g)) reached (step_there p fr st i s here)
        (after_told (λ (g : Fact). GoesAs c.fact (later c.fact.places) (called_after p st.number s.action s.edge c.fact) g × More g) (flow p st.number c.origin s.action s.edge c.fact) (flow p st.number c.origin s.action s.edge c.fact) refl (row q is)))
      where
        by : (g : Fact) × Reach p st.number (relation_of p st.number) c.origin s.to g × ((GoesAs c.fact (later c.fact.places) (called_after p st.number s.action s.edge c.fact) g × More g) × (flow p st.number c.origin s.action s.edge c.fact ≡ Next g)) → (g : Fact) × Goes g
        by (g, reach, rest) = (g, (reach, rest.0, rest.1))

    module _ (g : Fact) (goes_on : Goes g) where
      on : GoesAs c.fact (later c.fact.places) (called_after p st.number s.action s.edge c.fact) g
      on = goes_on.1.0

      more : More g
      more = goes_on.1.1

      aside : (n : ℕ) → n < 16 → has (later c.fact.places) (places.Field n) ≡ true → has c.fact.places (places.Field n) ≡ true
      aside n inside = left_aside (places.Field n) inside refl p st.number s.edge c.fact.places s.action r.small r.sets r.moves r.makes

      -- where it says that the frame owns the object, so did the fact before
      pub owning_before : is_owning_fact p c.origin g ≡ true → is_owning_fact p c.origin c.fact ≡ true
      owning_before owning =
          let parts = and_parts (is_heavy_class p c.origin.class) (is_own g.mode) owning in
          and_from (is_heavy_class p c.origin.class) (is_own c.fact.mode) parts.0 (ap is_own (sym (on.mode (or_left (is_own g.mode) (is_held g.mode) parts.1))) ∙ parts.1)

      -- so it is with what it claims
      pub claims_before : claims p (method_at p fr.method) c.origin g ≡ true → claims p (method_at p fr.method) c.origin c.fact ≡ true
      claims_before claimed = claims_as p (method_at p fr.method) c.origin c.fact g (on.mode (claims_owned p (method_at p fr.method) c.origin g claimed).1) claimed

      held_before : is_held g.mode ≡ true → is_held c.fact.mode ≡ true
      held_before held = ap is_held (sym (on.mode (or_right (is_own g.mode) (is_held g.mode) held))) ∙ held

      -- behind a call that creates the obligation of `this` anew, no content of `this` is claimed by what goes on
      pub not_held_anew : is_reset_of_this p s.action ≡ true → is_held g.mode ≡ true → answers_for_fields (method_at p fr.method) ≡ true → ⊥
      not_held_anew resets held answers = lent_not_held c.fact.mode (lent_in_body p ac fr st answers c.origin c.fact reached
          (left_aside places.This tt refl p st.number s.edge c.fact.places s.action r.small r.sets r.moves r.makes (reset_leaves_this p st.number c.origin s.action s.edge c.fact g r.small resets goes_on.2 held))) (held_before held)

      -- so where it says that a field holds the object, and claims it, `this` is not lent
      pub keeps_mine : is_held g.mode ≡ true → answers_for_fields (method_at p fr.method) ≡ true → lends_this p fr ≡ false
      keeps_mine held answers = go (is_reset_of_this p s.action) refl
        where
          go : (b : Bool) → is_reset_of_this p s.action ≡ b → lends_this p fr ≡ false
          go false none = lends_by_step p fr st i s here none
          go true resets = absurd (not_held_anew resets held answers)

      not_lending : claims p (method_at p fr.method) c.origin g ≡ true → (is_held c.fact.mode && lends_this p fr) ≡ false
      not_lending claimed = elim (claims_by p (method_at p fr.method) c.origin g claimed) [
        | inl own ↦ own_not_held c.fact.mode (lends_this p fr) (ap is_own (sym (on.mode (or_left (is_own g.mode) (is_held g.mode) own))) ∙ own)
        | inr held ↦ ap (λ (b : Bool). is_held c.fact.mode && b) (keeps_mine held.0 held.1) ∙ none (is_held c.fact.mode)
      ]
        where
          none : (b : Bool) → (b && false) ≡ false
          none true = refl
          none false = refl

      -- something is said of it where it is of what goes on
      said_before : is_idle p frs after g ≡ false → is_idle p frs fr c.fact ≡ false
      said_before said = go (is_idle p frs fr c.fact) refl
        where
          go : (b : Bool) → is_idle p frs fr c.fact ≡ b → is_idle p frs fr c.fact ≡ false
          go false none = none
          go true nothing =
              let held = idle c.origin c.fact g reached on nothing in
              absurd (true≢false (sym (same_idle (held_before held) held nothing) ∙ sym (idle_as p fr after frs g refl refl) ∙ said))
            where
              same_idle : is_held c.fact.mode ≡ true → is_held g.mode ≡ true → is_idle p frs fr c.fact ≡ true → is_idle p frs fr g ≡ true
              same_idle was now is' = ap (λ (b : Bool). b && not (constructs (method_at p fr.method)) && not (reopens (method_at p fr.method)) && is_of_heavy_class p (method_at p fr.method) && not (is_settled p fr frs)) (now ∙ sym was) ∙ is'

      stays_owned : is_heavy_class p c.origin.class ≡ true → is_own g.mode ≡ true → away ≡ false
      stays_owned heavy own = spared g more own (owning_before (and_from (is_heavy_class p c.origin.class) (is_own g.mode) heavy own))

      -- what it claims is claimed of an object that is not given away, or that a field holds
      not_given : claims p (method_at p fr.method) c.origin g ≡ true → (away && is_own c.fact.mode) ≡ false
      not_given claimed = by (is_own g.mode) refl
        where
          owned : (is_heavy_class p c.origin.class ≡ true) × (is_owned_in g.mode ≡ true)
          owned = claims_owned p (method_at p fr.method) c.origin g claimed

          none : (a b : Bool) → b ≡ false → (a && b) ≡ false
          none true b is = is
          none false b is = refl

          by : (b : Bool) → is_own g.mode ≡ b → (away && is_own c.fact.mode) ≡ false
          by true own = ap (λ (b : Bool). b && is_own c.fact.mode) (stays_owned owned.0 own)
          by false other = none away (is_own c.fact.mode) (ap is_own (sym (on.mode owned.1)) ∙ other)

      was_true : claims p (method_at p fr.method) c.origin g ≡ true → IsTrueOf p x c.origin (fact_as anew c.fact)
      was_true claimed = c.true' (claims_as p (method_at p fr.method) c.origin c.fact g (on.mode (claims_owned p (method_at p fr.method) c.origin g claimed).1) claimed) (not_given claimed) (not_lending claimed)

      -- no frame owns what is claimed so
      pub held_unframed : claims p (method_at p fr.method) c.origin g ≡ true → is_held g.mode ≡ true → answers_for_fields (method_at p fr.method) ≡ true → (n : ℕ) → is_frame_from n y.owner ≡ false
      held_unframed claimed held answers n =
          let mine = keeps_mine held answers in
          let was = (was_true claimed).finished in
          let heavy = (claims_owned p (method_at p fr.method) c.origin g claimed).0 in
          ap (is_frame_from n) (lasting o x y before at was wide answers mine (held_in_field p h away anew old frs fr o x c was (held_before held) answers mine heavy).0)
          ∙ held_unowned p h away anew old frs fr o x c was (held_before held) answers mine heavy n

      not_away : claims p (method_at p fr.method) c.origin g ≡ true → away ≡ false
      not_away claimed = by (claims_by p (method_at p fr.method) c.origin g claimed)
        where
          owned : (is_heavy_class p c.origin.class ≡ true) × (is_owned_in g.mode ≡ true)
          owned = claims_owned p (method_at p fr.method) c.origin g claimed

          by : (is_own g.mode ≡ true) ⊎ ((is_held g.mode ≡ true) × (answers_for_fields (method_at p fr.method) ≡ true)) → away ≡ false
          by (inl own) = stays_owned owned.0 own
          by (inr held) = held_kept p h away anew old frs fr o x c (was_true claimed).finished (held_before held.0) held.1 (keeps_mine held.0 held.1) owned.0

      truth : claims p (method_at p fr.method) c.origin g ≡ true → IsTrueOf p y c.origin (fact_as anew g)
      truth claimed = as_read anew refl (still_true p x y c.origin (fact_as anew c.fact) (goes (was_true claimed).finished).0 (was_true claimed))
        where
          -- needed is what was, or all that the class asks for
          by_full : IsTrueOf p y c.origin c.fact → (g.full ≡ c.fact.full) ⊎ (g.full ≡ true) → set.is_subset y.must (cond g.full c.origin.full c.origin.first) ≡ true
          by_full was (inl same) = subst (λ (b : Bool). set.is_subset y.must (cond b c.origin.full c.origin.first) ≡ true) (sym same) was.need
          by_full was (inr all) =
              subst (λ (b : Bool). set.is_subset y.must (cond b c.origin.full c.origin.first) ≡ true) (sym all)
              (within_trans y.must (must_of p y.class) c.origin.full was.bounded
              (subst (λ (t : Names). set.is_subset (must_of p y.class) t ≡ true) (sym (origin_needs_all p st.number c.origin fr.control c.fact reached)) was.class))

          as_read : (b : Bool) → anew ≡ b → IsTrueOf p y c.origin (fact_as b c.fact) → IsTrueOf p y c.origin (fact_as b g)
          as_read true is still = true_alike p y c.origin c.fact g still
          as_read false is still =
              let owned = claims_owned p (method_at p fr.method) c.origin g claimed in
              record {
                finished = still.finished;
                class = still.class;
                bounded = still.bounded;
                need = by_full still on.full;
                called = within_trans g.called (called_after p st.number s.action s.edge c.fact) y.called on.known (known g more (inl owned.1) (inl (claims_before claimed, not_away claimed)) is (was_true claimed).finished y.called (within_self y.called) still.called);
              }

      -- what it tells of the object
      tells_before : tells_calls p fr.method c.origin g ≡ true → (tells_calls p fr.method c.origin c.fact ≡ true) × IsTrusted c.origin g
      tells_before tells = elim (tells_by p fr.method c.origin g tells) [
        | inl lent ↦ (lent_tells p fr.method c.origin c.fact (lent_not_alone p h away anew old frs fr o x c lent) lent, inr lent)
        | inr held ↦ (
          held_tells p fr.method c.origin c.fact (other_alone (is_held g.mode) (answers_for_fields (method_at p fr.method)) held (tells_apart p fr.method c.origin g tells)) (held_mode c.fact.mode (held_before held)),
          inl (or_right (is_own g.mode) (is_held g.mode) held),
        )
      ]

      -- what its origin asks for
      abbrev asked : Names
      asked = asked_of p (method_at p fr.method) c.origin.kind

      was_apart : x.finished ≡ true → IsApart p k old frs after o g → IsApart p h old frs fr o c.fact
      was_apart was_done apart = apart_before p h k old frs fr after o x y c.fact g others aged before at was_done wide (said_before apart.3) apart

      pub covers_on : Covers p k false anew old frs after o y
      covers_on = record {
        body = st.number;
        id = st.id;
        origin = c.origin;
        fact = g;
        reached = goes_on.0;
        alone = λ n inside'. places_stay_in_range p st.number s.action s.edge c.fact.places r.small c.alone n (sym (on.places n) ∙ inside');
        places = λ said z' small' kept' inside'. still_holds c.fact.places o x before wide (c.places (said_before said)) (alias (said_before said)) z' small' (sym (on.places (number_of z')) ∙ inside');
        true' = λ claimed spared' mine'. truth claimed;
        lent = λ lent. (stays_unowned p c.origin c.fact g on.mode (c.lent lent).0, (λ held. (c.lent lent).1 (held_before held)));
        free = λ done held answers mine' heavy.
            let mine = keeps_mine held answers in
            let was = held_in_field p h away anew old frs fr o x c (ready done) (held_before held) answers mine heavy in (
              refl,
              in_field_on p fr st ac after refl refl c.fact.places g.places x.owner y.owner (lasting o x y before at (ready done) wide answers mine was.0)
                  (λ q small out is. on.places (number_of q)
                  ∙ (stays_aside q small out p st.number s.edge c.fact.places s.action r.small r.sets r.moves r.makes (λ resets. absurd (not_held_anew resets held answers)) ∙ is))
                  (λ q small out is. left_aside q small out p st.number s.edge c.fact.places s.action r.small r.sets r.moves r.makes (sym (on.places (number_of q)) ∙ is)) was,
            );
        lends = λ lent done. (refl, (others.keeps o x y before at (inl (ready done), wide) (c.lends (on.lent lent) (ready done)).1).1);
        makes = λ constructor this. still_unfinished x y ready (c.makes constructor this);
        begun = λ lent other fields open'.
            let declares = subst (HasOwningField p) class fields in
            let was = c.begun (on.lent lent) other declares (was_open x y goes open') in
            (refl, (others.keeps o x y before at (inr declares, wide) was.1).1, was.2);
        unrenewed = λ done tells apart. c.unrenewed (ready done) (tells_before tells).0 (was_apart (ready done) apart);
        known = λ done tells apart stays.
            let was_done = ready done in
            let told = tells_before tells in
            let was = c.known was_done told.0 (was_apart was_done apart) stays in
            within_trans g.called (called_after p st.number s.action s.edge c.fact) (set.union asked y.called) on.known
            (known g more told.1 (inr (told.0, was_apart was_done apart)) stays was_done (set.union asked y.called) (within_union_right asked y.called) (known_on c.fact.called asked x.called y.called was (goes was_done).0.called));
        fields = λ n inside' wide' there. c.fields n inside' wide' (aside n inside' (sym (on.places (161 + n)) ∙ there));
        held = λ n inside' there heavy.
            let was = c.held n inside' (aside n inside' (sym (on.places (161 + n)) ∙ there)) heavy in
            (on.held was.0 (in_this (later c.fact.places) n inside' (sym (on.places (161 + n)) ∙ there)), was.1);
        outside = λ plain other' n inside' there.
            on.held (c.outside plain other' n inside' (aside n inside' (sym (on.places (161 + n)) ∙ there))) (in_this (later c.fact.places) n inside' (sym (on.places (161 + n)) ∙ there));
      }

      pub has_on : (q : Place) → has (later c.fact.places) q ≡ true → has g.places q ≡ true
      has_on q is = on.places (number_of q) ∙ is

  -- a place held the object before the step, whose facts have the other place after it
  abbrev pub ComesFrom : Place → ℕ → Type 0
  ComesFrom q o = (z : Place) × IsSmall z × (is_lent_place p fr z ≡ false) × (root_of h (place_value p h fr.method fr.locals z) ≡ Some o) × ((held : PlaceSet) → has held z ≡ true → has (later held) q ≡ true)

  -- the place is that of a field of `this`, whose obligation the step creates anew: the facts leave it
  abbrev pub IsLeftOut : Place → Type 0
  IsLeftOut q = (is_reset_of_this p s.action ≡ true) × (is_part q ≡ true)

  -- a fact is born there, and where it claims the object, it knows of no calls, and the owning field of the place owns the object
  abbrev pub IsBornAnew : (ℕ → Bool) → List Frame → (ℕ → Bool) → Place → ℕ → Object → Type 0
  IsBornAnew old frs renewed q o y =
      (d : Covers p k false (renewed o) old frs after o y) × (has d.fact.places q ≡ true)
      × (claims p (method_at p fr.method) d.origin d.fact ≡ true
      → (is_own d.fact.mode ≡ false) × ((d.fact.called ≡ no_names) × (d.fact.full ≡ true)) × ((f : FieldId) × (w : ℕ) × (y.owner ≡ owners.Field w f) × (place_of_field p f ≡ q)))

  -- The step gives the object to the place. A fact is born there, and no fact of the frame goes on owning the object; or a fact that does not own it stands
  -- there; or it comes from another place.
  abbrev pub IsMadeSo : (ℕ → Bool) → List Frame → (ℕ → ClassId → Bool) → (ℕ → Bool) → (Origin → Fact → Fact → Type 0) → Place → ℕ → Object → Type 0
  IsMadeSo old frs gives renewed More q o y =
      ((d : Covers p k false (renewed o) old frs after o y) × (has d.fact.places q ≡ true) × (y.owner ≡ owners.Frame (length frs + 1)) × StopsOwning p h fr old frs gives renewed More o × (is_held d.fact.mode ≡ false)) ⊎ (IsUnowned p k false (renewed o) old frs after q o y ⊎ ComesFrom q o)

  -- a fact that claims the object after the step claimed it before; or it says that the frame owns the object, and no other fact goes on owning it; or it
  -- knows of no calls, and all that its class asks for is needed
  abbrev pub IsOwnedFrom : (ℕ → Bool) → List Frame → (ℕ → ClassId → Bool) → (ℕ → Bool) → (Origin → Fact → Fact → Type 0) → ℕ → Origin → Fact → Type 0
  IsOwnedFrom old frs gives renewed More o origin g =
      ((x : Object) × (object_at h o ≡ Some x) × (c : Covers p h (gives o x.class) (renewed o) old frs fr o x) × IsOwned p h (gives o x.class) (renewed o) old frs fr o x c × (origin ≡ c.origin) × More c.origin c.fact g)
      ⊎ ((StopsOwning p h fr old frs gives renewed More o × (is_own g.mode ≡ true)) ⊎ ((g.called ≡ no_names) × (g.full ≡ true)))

  -- the place is in a fact that owns the object so, or in one that does not
  abbrev pub IsKeyedFrom : (ℕ → Bool) → List Frame → (ℕ → ClassId → Bool) → (ℕ → Bool) → (Origin → Fact → Fact → Type 0) → Place → ℕ → Object → Type 0
  IsKeyedFrom old frs gives renewed More q o y =
      ((c : Covers p k false (renewed o) old frs after o y) × (has c.fact.places q ≡ true) × IsOwned p k false (renewed o) old frs after o y c × IsOwnedFrom old frs gives renewed More o c.origin c.fact) ⊎ IsUnowned p k false (renewed o) old frs after q o y

  -- all that the frame's places hold after the step was held before it, or the step made it
  module _ (old : ℕ → Bool) (frs : List Frame) (gives : ℕ → ClassId → Bool) (renewed : ℕ → Bool) (covered : IsCovered p h gives (λ o owner. renewed o) old frs fr) (aged : IsOld p h frs fr old) (idle : StaysIdle frs) (ready : KeepsReady p h k fr) (others : StaysApart p h k frs fr) (lasting : KeepsHeld p h k fr)
      (More : Origin → Fact → Fact → Type 0)
      (row : (o : ℕ) (x : Object) (c : Covers p h (gives o x.class) (renewed o) old frs fr o x) (q : Place) → has (later c.fact.places) q ≡ true
      → After (λ (g : Fact). GoesAs c.fact (later c.fact.places) (called_after p st.number s.action s.edge c.fact) g × More c.origin c.fact g) (flow p st.number c.origin s.action s.edge c.fact))
      (known : (o : ℕ) (x y : Object) (c : Covers p h (gives o x.class) (renewed o) old frs fr o x) → object_at h o ≡ Some x → object_at k o ≡ Some y → (g : Fact) → More c.origin c.fact g → IsTrusted c.origin g → IsSureOf old frs (gives o x.class) (renewed o) o x c → renewed o ≡ false → x.finished ≡ true → GoesOn x y
      → is_heavy_class p x.class ≡ true → OwesOrHolds p h o x → (names : Names) → set.is_subset y.called names ≡ true → set.is_subset c.fact.called names ≡ true → set.is_subset (called_after p st.number s.action s.edge c.fact) names ≡ true)
      (alias : (o : ℕ) (x : Object) (c : Covers p h (gives o x.class) (renewed o) old frs fr o x) → object_at h o ≡ Some x → is_heavy_class p x.class ≡ true → OwesOrHolds p h o x → is_idle p frs fr c.fact ≡ false → GivesIt c.fact.places o)
      (own : (o : ℕ) (x y : Object) (c : Covers p h (gives o x.class) (renewed o) old frs fr o x) → IsOwned p h (gives o x.class) (renewed o) old frs fr o x c → object_at h o ≡ Some x → object_at k o ≡ Some y → is_heavy_class p x.class ≡ true → OwesOrHolds p h o x
      → (g : Fact) → More c.origin c.fact g → is_own g.mode ≡ true → (gives o x.class ≡ false) × (x.finished ≡ true → x.owner ≡ owners.Frame (length frs + 1) → y.owner ≡ owners.Frame (length frs + 1)))
      (bears : (q : Place) (o : ℕ) (y : Object) → IsSmall q → IsLeftOut q → root_of k (place_value p k fr.method after.locals q) ≡ Some o → object_at k o ≡ Some y → is_heavy_class p y.class ≡ true → OwesOrHolds p k o y
      → IsBornAnew old frs renewed q o y)
      (made : (q : Place) (o : ℕ) (y : Object) → IsSmall q → is_local q ≡ true → source p st.body s.action s.edge q ≡ None → is_made (made_place s.action) q ≡ true → place_value p k fr.method after.locals q ≡ v → root_of k v ≡ Some o → object_at k o ≡ Some y
      → is_heavy_class p y.class ≡ true → OwesOrHolds p k o y → IsMadeSo old frs gives renewed More q o y) where
    -- no fact goes on owning the object, which the frame owns; or a field owns it, and the step creates the obligation of `this` anew
    abbrev Frees : ℕ → Object → Type 0
    Frees o y = (StopsOwning p h fr old frs gives renewed More o × (y.owner ≡ owners.Frame (length frs + 1))) ⊎ ((is_reset_of_this p s.action ≡ true) × (is_field_owner y.owner ≡ true))

    -- the place takes what the step makes
    abbrev IsMadeAt : Place → Type 0
    IsMadeAt q = (is_local q ≡ true) × (source p st.body s.action s.edge q ≡ None) × (is_made (made_place s.action) q ≡ true) × (place_value p k fr.method after.locals q ≡ v)

    origin_of_place : (q : Place) (o : ℕ) → IsSmall q → root_of k (place_value p k fr.method after.locals q) ≡ Some o → ComesFrom q o ⊎ (IsMadeAt q ⊎ IsLeftOut q)
    origin_of_place q o small held = go (is_local q) refl
      where
        from : is_local q ≡ true → (z : Option Place) → source p st.body s.action s.edge q ≡ z → IsFrom p h k fr.method st.body fr.locals s.action s.edge v body_here q z → ComesFrom q o ⊎ (IsMadeAt q ⊎ IsLeftOut q)
        from local None e is = inr (inl (local, e, is.0, is.1))
        from local (Some z) e is =
            let small' = source_is_small p st.body s.action s.edge q z r.small small e in
            inl (
              z,
              small',
              source_kept q z local e,
              root_earlier z o small' (ap (root_of k) (sym is) ∙ held),
              (λ held' one. places_come_from_sources p st.number st.body s.action s.edge held' q st.at r.small small local r.way
                  ∙ or_right (takes_alias p s.action s.edge held' q) (has_source held' (source p st.body s.action s.edge q)) (ap (has_source held') e ∙ one)),
            )

        stays : is_local q ≡ false → (is_reset_of_this p s.action ≡ true → is_part q ≡ false) → ComesFrom q o
        stays out aside = (
          q,
          small,
          kept (is_lent_place p fr q) refl,
          root_earlier q o small (ap (root_of k) (sym (other q out ∙ kept_root p h k _ _ o (kept_place p h k fields fr.method fr.locals q) (ap (root_of k) (sym (other q out)) ∙ held))) ∙ held),
          (λ held' one. stays_aside q small out p st.number s.edge held' s.action r.small r.sets r.moves r.makes aside ∙ one),
        )
          where
            kept : (b : Bool) → is_lent_place p fr q ≡ b → is_lent_place p fr q ≡ false
            kept false none = none
            kept true lent = let is = lent_out q lent in absurd (true≢false (sym is.1 ∙ aside is.0))

        beside : is_local q ≡ false → (b d : Bool) → is_reset_of_this p s.action ≡ b → is_part q ≡ d → ComesFrom q o ⊎ (IsMadeAt q ⊎ IsLeftOut q)
        beside out true true resets part = inr (inr (resets, part))
        beside out true false resets part = inl (stays out (λ is. part))
        beside out false d none part = inl (stays out (λ is. absurd (true≢false (sym is ∙ none))))

        go : (b : Bool) → is_local q ≡ b → ComesFrom q o ⊎ (IsMadeAt q ⊎ IsLeftOut q)
        go true local = from local (source p st.body s.action s.edge q) refl (value_is_from p h k fr.method st.body fr.locals s.action s.edge v body_here q o small local held)
        go false out = beside out (is_reset_of_this p s.action) (is_part q) refl refl

    -- an object that was there
    module _ (o : ℕ) (x y : Object) (before : object_at h o ≡ Some x) (at : object_at k o ≡ Some y) (class : y.class ≡ x.class) (wide : is_heavy_class p x.class ≡ true) (owes : OwesOrHolds p h o x) (wide' : is_heavy_class p y.class ≡ true) (owes' : OwesOrHolds p k o y)
        (goes : x.finished ≡ true → Continues x y) (done : y.finished ≡ true → x.finished ≡ true) where
      abbrev away : Bool
      away = gives o x.class

      abbrev anew : Bool
      anew = renewed o

      -- a fact that does not own it
      unowned_on : (z q : Place) → IsUnowned p h away anew old frs fr z o x → ((held : PlaceSet) → has held z ≡ true → has (later held) q ≡ true) → IsUnowned p k false (renewed o) old frs after q o y
      unfolding covers_on
      unowned_on z q u goes_to = by (gone_on old frs aged idle away anew o x y before at class wide goes done others lasting u.covers (More u.covers.origin u.covers.fact) (row o x u.covers) spared trusted (alias o x u.covers before wide owes) q (goes_to u.covers.fact.places u.here))
        where
          spared : (g : Fact) → More u.covers.origin u.covers.fact g → is_own g.mode ≡ true → is_owning_fact p u.covers.origin u.covers.fact ≡ true → away ≡ false
          spared g its mine owning = absurd (true≢false (sym owning ∙ unclaimed_not_owning p (method_at p fr.method) u.covers.origin u.covers.fact u.unowned))

          trusted : (g : Fact) → More u.covers.origin u.covers.fact g → IsTrusted u.covers.origin g → IsSure old frs away anew o x u.covers → anew ≡ false → x.finished ≡ true → (names : Names) → set.is_subset y.called names ≡ true → set.is_subset u.covers.fact.called names ≡ true
              → set.is_subset (called_after p st.number s.action s.edge u.covers.fact) names ≡ true
          trusted g its trust sure stays finished names less was = known o x y u.covers before at g its trust (told sure) stays finished (goes finished).0 wide owes names less was
            where
              told : IsSure old frs away anew o x u.covers → IsSureOf old frs away anew o x u.covers
              told (inl claimed) = absurd (true≢false (sym claimed.0 ∙ u.unowned))
              told (inr is) = inr is

          by : (g : Fact) × Goes old frs aged idle away anew o x y before at class wide goes done others lasting u.covers (More u.covers.origin u.covers.fact) (row o x u.covers) spared trusted (alias o x u.covers before wide owes) g → IsUnowned p k false (renewed o) old frs after q o y
          by (g, on) = record {
            covers = covers_on old frs aged idle away anew o x y before at class wide goes done others lasting u.covers (More u.covers.origin u.covers.fact) (row o x u.covers) spared trusted (alias o x u.covers before wide owes) g on;
            here = has_on old frs aged idle away anew o x y before at class wide goes done others lasting u.covers (More u.covers.origin u.covers.fact) (row o x u.covers) spared trusted (alias o x u.covers before wide owes) g on q (goes_to u.covers.fact.places u.here);
            unowned = not_owning (claims p (method_at p fr.method) u.covers.origin g) refl;
          }
            where
              not_owning : (b : Bool) → claims p (method_at p fr.method) u.covers.origin g ≡ b → claims p (method_at p fr.method) u.covers.origin g ≡ false
              not_owning false none = none
              not_owning true owning =
                  absurd (true≢false (sym (claims_before old frs aged idle away anew o x y before at class wide goes done others lasting u.covers (More u.covers.origin u.covers.fact) (row o x u.covers) spared trusted (alias o x u.covers before wide owes) g on owning) ∙ u.unowned))

      -- the fact that owns it
      module _ (c : Covers p h away anew old frs fr o x) (key : IsOwned p h away anew old frs fr o x c) (z : Place) (small : IsSmall z) (held : root_of h (place_value p h fr.method fr.locals z) ≡ Some o) where
        spared : (g : Fact) → More c.origin c.fact g → is_own g.mode ≡ true → is_owning_fact p c.origin c.fact ≡ true → away ≡ false
        spared g its mine owning = (own o x y c key before at wide owes g its mine).0

        trusted : (g : Fact) → More c.origin c.fact g → IsTrusted c.origin g → IsSure old frs away anew o x c → anew ≡ false → x.finished ≡ true → (names : Names) → set.is_subset y.called names ≡ true → set.is_subset c.fact.called names ≡ true
            → set.is_subset (called_after p st.number s.action s.edge c.fact) names ≡ true
        trusted g its trust sure stays finished names less was = known o x y c before at g its trust (owns sure) stays finished (goes finished).0 wide owes names less was
          where
            owns : IsSure old frs away anew o x c → IsSureOf old frs away anew o x c
            owns (inl claimed) = inl (key, claimed.1)
            owns (inr is) = inr is

        abbrev GoesSo : Fact → Type 0
        GoesSo g = Goes old frs aged idle away anew o x y before at class wide goes done others lasting c (More c.origin c.fact) (row o x c) spared trusted (alias o x c before wide owes) g

        goes_so : (q : Place) → has (later c.fact.places) q ≡ true → (g : Fact) × GoesSo g
        goes_so q is = gone_on old frs aged idle away anew o x y before at class wide goes done others lasting c (More c.origin c.fact) (row o x c) spared trusted (alias o x c before wide owes) q is

        module _ (g : Fact) (on : GoesSo g) where
          own_before : is_own g.mode ≡ true → is_own c.fact.mode ≡ true
          own_before mine' = ap is_own (sym (on.1.0.mode (or_left (is_own g.mode) (is_held g.mode) mine'))) ∙ mine'

          abbrev now : Covers p k false (renewed o) old frs after o y
          now = covers_on old frs aged idle away anew o x y before at class wide goes done others lasting c (More c.origin c.fact) (row o x c) spared trusted (alias o x c before wide owes) g on

          there : (q : Place) → has (later c.fact.places) q ≡ true → has g.places q ≡ true
          there q is = has_on old frs aged idle away anew o x y before at class wide goes done others lasting c (More c.origin c.fact) (row o x c) spared trusted (alias o x c before wide owes) g on q is

          -- where no fact goes on owning it, and the frame owns it, this one claims nothing
          stops_owning : StopsOwning p h fr old frs gives renewed More o → y.owner ≡ owners.Frame (length frs + 1) → claims p (method_at p fr.method) c.origin g ≡ true → ⊥
          unfolding covers_on
          stops_owning ends mine claimed = elim (claims_by p (method_at p fr.method) c.origin g claimed) [
            | inl mine' ↦ true≢false (sym mine' ∙ ends x before z small held c key (own_before mine') g on.1.1)
            | inr held' ↦ true≢false (sym (own_frame (length frs + 1) y.owner mine) ∙ held_unframed old frs aged idle away anew o x y before at class wide goes done others lasting c (More c.origin c.fact) (row o x c) spared trusted (alias o x c before wide owes) g on claimed held'.0 held'.1 (length frs + 1))
          ]

          -- so it is where a field owns it, and the step creates the obligation of `this` anew
          stops_claiming : Frees o y → claims p (method_at p fr.method) c.origin g ≡ true → ⊥
          stops_claiming (inl (ends, mine)) claimed = stops_owning ends mine claimed
          stops_claiming (inr (resets, field)) claimed = elim (claims_by p (method_at p fr.method) c.origin g claimed) [
            | inl mine' ↦ (
                let mine = own o x y c key before at wide owes g on.1.1 mine' in
                let frame : y.owner ≡ owners.Frame (length frs + 1) =
                mine.1 (c.true' key.owning (ap (λ (b : Bool). b && is_own c.fact.mode) mine.0) (own_not_held c.fact.mode (lends_this p fr) (own_before mine'))).finished (key.owner mine.0 (own_before mine')) in
                true≢false (sym field ∙ ap is_field_owner frame))
            | inr held' ↦ not_held_anew old frs aged idle away anew o x y before at class wide goes done others lasting c (More c.origin c.fact) (row o x c) spared trusted (alias o x c before wide owes) g on resets held'.0 held'.1
          ]

          -- where it goes on owning it, each other place is in it, or in one that does not
          still_owned : claims p (method_at p fr.method) c.origin g ≡ true → IsOwned p k false (renewed o) old frs after o y now
          unfolding covers_on
          still_owned owning = record {
            owning = owning;
            owner = λ stays mine'. (let mine = own o x y c key before at wide owes g on.1.1 mine' in
                mine.1 (c.true' key.owning (ap (λ (b : Bool). b && is_own c.fact.mode) mine.0) (own_not_held c.fact.mode (lends_this p fr) (own_before mine'))).finished (key.owner mine.0 (own_before mine')));
            others = each;
          }
            where
              comes : (q : Place) → ComesFrom q o → (has g.places q ≡ true) ⊎ IsUnowned p k false (renewed o) old frs after q o y
              comes q (u, less, kept, was, goes_to) = elim (key.others u less kept was) [ inl in' ↦ inl (there q (goes_to c.fact.places in')) | inr free ↦ inr (unowned_on u q free goes_to) ]

              makes : (q : Place) → IsMadeSo old frs gives renewed More q o y → (has g.places q ≡ true) ⊎ IsUnowned p k false (renewed o) old frs after q o y
              makes q (inl (d, has', mine, ends, none)) = absurd (stops_claiming (inl (ends, mine)) owning)
              makes q (inr (inl free)) = inr free
              makes q (inr (inr from)) = comes q from

              each : (q : Place) → IsSmall q → is_lent_place p after q ≡ false → root_of k (place_value p k after.method after.locals q) ≡ Some o → (has g.places q ≡ true) ⊎ IsUnowned p k false (renewed o) old frs after q o y
              each q less kept is = elim (origin_of_place q o less is) [
                | inl from ↦ comes q from
                | inr other' ↦ elim other' [
                  | inl new ↦ makes q (made q o y less new.0 new.1 new.2 new.3 (ap (root_of k) (sym new.3) ∙ is) at wide' owes')
                  | inr out ↦ inr (left_out q less out is)
                ]
              ]
                where
                  left_out : (q : Place) → IsSmall q → IsLeftOut q → root_of k (place_value p k fr.method after.locals q) ≡ Some o → IsUnowned p k false (renewed o) old frs after q o y
                  left_out q less out is = by (bears q o y less out is at wide' owes')
                    where
                      by : IsBornAnew old frs renewed q o y → IsUnowned p k false (renewed o) old frs after q o y
                      by (d, here', if) = none (claims p (method_at p fr.method) d.origin d.fact) refl
                        where
                          none : (b : Bool) → claims p (method_at p fr.method) d.origin d.fact ≡ b → IsUnowned p k false (renewed o) old frs after q o y
                          none false off = record { covers = d; here = here'; unowned = off }
                          none true claimed = absurd (stops_claiming (inr (out.0, ap is_field_owner (if claimed).2.2)) owning)

          keyed_by : (q : Place) → has (later c.fact.places) q ≡ true → IsKeyedFrom old frs gives renewed More q o y
          unfolding covers_on
          keyed_by q is = go (claims p (method_at p fr.method) c.origin g) refl
            where
              go : (b : Bool) → claims p (method_at p fr.method) c.origin g ≡ b → IsKeyedFrom old frs gives renewed More q o y
              go true owning = inl (now, there q is, still_owned owning, inl (x, before, c, key, refl, on.1.1))
              go false none = inr (record { covers = now; here = there q is; unowned = none })

        keyed_on : (q : Place) → has (later c.fact.places) q ≡ true → IsKeyedFrom old frs gives renewed More q o y
        keyed_on q is = let on = goes_so q is in keyed_by on.0 on.1 q is

        -- where what goes on claims nothing
        freed_on : Frees o y → (q : Place) → has (later c.fact.places) q ≡ true → IsUnowned p k false (renewed o) old frs after q o y
        unfolding covers_on
        freed_on why q is = by (goes_so q is)
          where
            by : (g : Fact) × GoesSo g → IsUnowned p k false (renewed o) old frs after q o y
            by (g, on) = record { covers = now g on; here = there g on q is; unowned = none (claims p (method_at p fr.method) c.origin g) refl }
              where
                none : (b : Bool) → claims p (method_at p fr.method) c.origin g ≡ b → claims p (method_at p fr.method) c.origin g ≡ false
                none false off = off
                none true claimed = absurd (stops_claiming g on why claimed)

      -- a place held it before
      was_keyed : (z : Place) → IsSmall z → is_lent_place p fr z ≡ false → root_of h (place_value p h fr.method fr.locals z) ≡ Some o → IsKeyed p h away anew old frs fr z o x
      was_keyed z small kept held = covered z o x small kept held before wide owes

      keyed_from : (q : Place) → ComesFrom q o → IsKeyedFrom old frs gives renewed More q o y
      keyed_from q (z, small, kept, held, goes_to) = by (was_keyed z small kept held)
        where
          by : IsKeyed p h away anew old frs fr z o x → IsKeyedFrom old frs gives renewed More q o y
          by (owned c in' key) = keyed_on c key z small held q (goes_to c.fact.places in')
          by (unowned u) = inr (unowned_on z q u goes_to)

      freed_from : Frees o y → (q : Place) → ComesFrom q o → IsUnowned p k false (renewed o) old frs after q o y
      freed_from why q (z, small, kept, held, goes_to) = by (was_keyed z small kept held)
        where
          by : IsKeyed p h away anew old frs fr z o x → IsUnowned p k false (renewed o) old frs after q o y
          by (owned c in' key) = freed_on c key z small held why q (goes_to c.fact.places in')
          by (unowned u) = unowned_on z q u goes_to

    -- the object was there where a place held it
    module _ (o : ℕ) (y : Object) (at : object_at k o ≡ Some y) (wide' : is_heavy_class p y.class ≡ true) (owes' : OwesOrHolds p k o y) where
      carried_from : (q : Place) → ComesFrom q o → IsCarried h o y
      carried_from q (z, small, kept, held, goes_to) = carries o y at (numbered h links (place_value p h fr.method fr.locals z) o held (inside z small)).1

      came : (q : Place) → ComesFrom q o → IsKeyedFrom old frs gives renewed More q o y
      came q from = by (carried_from q from)
        where
          by : IsCarried h o y → IsKeyedFrom old frs gives renewed More q o y
          by (x, before, class, goes) =
              keyed_from o x y before at class (ap (is_heavy_class p) (sym class) ∙ wide') (bore_before p h k others.holders o x y before goes owes') wide' owes' goes (ready from.0 o x y from.1 from.3 before at (ap (is_heavy_class p) (sym class) ∙ wide')) q from

      freed : Frees o y → (q : Place) → ComesFrom q o → IsUnowned p k false (renewed o) old frs after q o y
      freed why q from = by (carried_from q from)
        where
          by : IsCarried h o y → IsUnowned p k false (renewed o) old frs after q o y
          by (x, before, class, goes) =
              freed_from o x y before at class (ap (is_heavy_class p) (sym class) ∙ wide') (bore_before p h k others.holders o x y before goes owes') wide' owes' goes (ready from.0 o x y from.1 from.3 before at (ap (is_heavy_class p) (sym class) ∙ wide')) why q from

      -- a step makes one place
      one_made : (m : Option Place) (q z : Place) → is_made m q ≡ true → is_made m z ≡ true → q ≡ z
      one_made None q z one two = absurd (true≢false (sym one))
      one_made (Some u) q z one two = sym (single_place-same u q one) ∙ single_place-same u z two

      makes : (q : Place) → IsSmall q → IsMadeAt q → IsMadeSo old frs gives renewed More q o y → IsKeyedFrom old frs gives renewed More q o y
      makes q less new (inr (inl free)) = inr free
      makes q less new (inr (inr from)) = came q from
      makes q less new (inl (d, in', mine, ends, none')) = go (claims p (method_at p fr.method) d.origin d.fact) refl
        where
          each : (z : Place) → IsSmall z → is_lent_place p after z ≡ false → root_of k (place_value p k after.method after.locals z) ≡ Some o → (has d.fact.places z ≡ true) ⊎ IsUnowned p k false (renewed o) old frs after z o y
          each z small kept is = elim (origin_of_place z o small is) [
            | inl from ↦ inr (freed (inl (ends, mine)) z from)
            | inr other' ↦ elim other' [
              | inl also ↦ inl (ap (has d.fact.places) (one_made (made_place s.action) z q also.2 new.2) ∙ in')
              | inr out ↦ inr (left_out z small out is)
            ]
          ]
            where
              left_out : (z : Place) → IsSmall z → IsLeftOut z → root_of k (place_value p k fr.method after.locals z) ≡ Some o → IsUnowned p k false (renewed o) old frs after z o y
              left_out z small out is = by (bears z o y small out is at wide' owes')
                where
                  by : IsBornAnew old frs renewed z o y → IsUnowned p k false (renewed o) old frs after z o y
                  by (e, here', if) = none (claims p (method_at p fr.method) e.origin e.fact) refl
                    where
                      none : (b : Bool) → claims p (method_at p fr.method) e.origin e.fact ≡ b → IsUnowned p k false (renewed o) old frs after z o y
                      none false off = record { covers = e; here = here'; unowned = off }
                      none true claimed = absurd (true≢false (sym (ap is_field_owner (if claimed).2.2) ∙ ap is_field_owner mine))

          -- it says that the frame owns the object, which no field then owns
          owned_so : claims p (method_at p fr.method) d.origin d.fact ≡ true → is_own d.fact.mode ≡ true
          owned_so claimed = elim (claims_by p (method_at p fr.method) d.origin d.fact claimed) [
            | inl own' ↦ own'
            | inr held' ↦ absurd (true≢false (sym held'.0 ∙ none'))
          ]

          go : (b : Bool) → claims p (method_at p fr.method) d.origin d.fact ≡ b → IsKeyedFrom old frs gives renewed More q o y
          go true owning = inl (d, in', record { owning = owning; owner = λ stays own'. mine; others = each }, inr (inl (ends, owned_so owning)))
          go false none = inr (record { covers = d; here = in'; unowned = none })

      -- the step creates the obligation of `this` anew, and bears the fact for a field
      anew_at : (q : Place) → IsSmall q → IsLeftOut q → root_of k (place_value p k fr.method after.locals q) ≡ Some o → IsKeyedFrom old frs gives renewed More q o y
      anew_at q small out held = by (bears q o y small out held at wide' owes')
        where
          by : IsBornAnew old frs renewed q o y → IsKeyedFrom old frs gives renewed More q o y
          by (d, here', if) = go (claims p (method_at p fr.method) d.origin d.fact) refl
            where
              go : (b : Bool) → claims p (method_at p fr.method) d.origin d.fact ≡ b → IsKeyedFrom old frs gives renewed More q o y
              go false none = inr (record { covers = d; here = here'; unowned = none })
              go true claimed =
                  inl (d, here', record { owning = claimed; owner = λ stays own'. absurd (true≢false (sym own' ∙ (if claimed).0)); others = each }, inr (inr (if claimed).1))
                where
                  field : (f : FieldId) × (w : ℕ) × (y.owner ≡ owners.Field w f) × (place_of_field p f ≡ q)
                  field = (if claimed).2

                  frees : Frees o y
                  frees = inr (out.0, ap is_field_owner field.2)

                  makes_other : (z : Place) → IsMadeSo old frs gives renewed More z o y → IsUnowned p k false (renewed o) old frs after z o y
                  makes_other z (inl (e, in', mine, ends, none)) = absurd (true≢false (sym (ap is_field_owner field.2) ∙ ap is_field_owner mine))
                  makes_other z (inr (inl free)) = free
                  makes_other z (inr (inr from)) = freed frees z from

                  same_field : (f g : FieldId) (v w : ℕ) → owners.Field v f ≡ owners.Field w g → f ≡ g
                  same_field f g v w both = cc

                  bears_other : (z : Place) → IsBornAnew old frs renewed z o y → (has d.fact.places z ≡ true) ⊎ IsUnowned p k false (renewed o) old frs after z o y
                  bears_other z (e, in', if') = each' (claims p (method_at p fr.method) e.origin e.fact) refl
                    where
                      each' : (b : Bool) → claims p (method_at p fr.method) e.origin e.fact ≡ b → (has d.fact.places z ≡ true) ⊎ IsUnowned p k false (renewed o) old frs after z o y
                      each' false off = inr (record { covers = e; here = in'; unowned = off })
                      each' true also =
                          let other' = (if' also).2 in
                          let same : other'.0 ≡ field.0 = same_field other'.0 field.0 other'.1 field.1 (sym other'.2 ∙ field.2) in
                          inl (ap (has d.fact.places) (sym other'.3 ∙ ap (place_of_field p) same ∙ field.3) ∙ here')

                  each : (z : Place) → IsSmall z → is_lent_place p after z ≡ false → root_of k (place_value p k after.method after.locals z) ≡ Some o → (has d.fact.places z ≡ true) ⊎ IsUnowned p k false (renewed o) old frs after z o y
                  each z small' kept is = elim (origin_of_place z o small' is) [
                    | inl from ↦ inr (freed frees z from)
                    | inr other' ↦ elim other' [
                      | inl new ↦ inr (makes_other z (made z o y small' new.0 new.1 new.2 new.3 (ap (root_of k) (sym new.3) ∙ is) at wide' owes'))
                      | inr out' ↦ bears_other z (bears z o y small' out' is at wide' owes')
                    ]
                  ]

    pub top_from : (q : Place) (o : ℕ) (y : Object) → IsSmall q → root_of k (place_value p k after.method after.locals q) ≡ Some o → object_at k o ≡ Some y → is_heavy_class p y.class ≡ true → OwesOrHolds p k o y
        → IsKeyedFrom old frs gives renewed More q o y
    top_from q o y small held at heavy owes = elim (origin_of_place q o small held) [
      | inl from ↦ came o y at heavy owes q from
      | inr other' ↦ elim other' [
        | inl new ↦ makes o y at heavy owes q small new (made q o y small new.0 new.1 new.2 new.3 (ap (root_of k) (sym new.3) ∙ held) at heavy owes)
        | inr out ↦ anew_at o y at heavy owes q small out held
      ]
    ]

    pub top_covered : IsCovered p k gives_none (λ o owner. renewed o) old frs after
    top_covered q o y small kept held at heavy owes = elim (top_from q o y small held at heavy owes) [
      | inl key ↦ owned key.0 key.1 key.2
      | inr free ↦ unowned free
    ]
