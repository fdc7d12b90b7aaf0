-- A step within the top frame that stores into no owning field, or a text.
use Rattle.std.proofs.Common.{◌≡◌, ◌⊎◌, inl, inr, ℕ, ◌+◌, Bool, true, false, ◌&&◌, Option, Some, None, List, length, slice_get, refl, sym, ap, ◌∙◌, subst, true≢false, arith, ◌∷◌}
use Rattle.std.specs.FinSet as set
use Rattle.rlc_base.proofs.SetLaws.{within_self}
use Rattle.program_model.specs.declared.kinds.ClassId.{ClassId}
use Rattle.program_model.specs.declared.program.Program.{Program}
use Rattle.program_model.specs.Lookups.{method_at}
use Rattle.ledger_obligations.specs.MustCallSets.{Names, is_heavy_class, no_names}
use Rattle.java_control.specs.Control.{Step}
use Rattle.java_control.specs.PlaceNumbers.{IsSmall}
use Rattle.java_control.specs.Sources.{source}
use Rattle.control_actions.specs.declared.action.Action.{Action}
use Rattle.control_actions.specs.declared.action.Action.TheVariants as actions
use Rattle.control_actions.specs.declared.action.Edge.{Edge}
use Rattle.control_actions.specs.declared.action.Edge.TheVariants as edges
use Rattle.control_actions.specs.declared.fact.Fact.{Fact}
use Rattle.control_actions.specs.declared.fact.Mode.TheVariants as modes
use Rattle.control_actions.specs.declared.fact.Origin.{Origin}
use Rattle.control_actions.specs.declared.fact.OriginKind.TheVariants as kinds
use Rattle.control_actions.specs.declared.place.Place.{Place}
use Rattle.control_actions.specs.declared.place.Place.TheVariants as places
use Rattle.ownership_rules.specs.Facts.{has, is_held, is_this_origin}
use Rattle.ownership_rules.specs.SmallActions.{IsSmallAction}
use Rattle.value_laws.specs.CalledRows.{called_after}
use Rattle.ownership_rules.specs.Births.{birth_on, fact_at}
use Rattle.program_model.specs.declared.kinds.BodyId.{BodyId}
use Rattle.value_laws.specs.Accept.{Accept}
use Rattle.ledger_state.specs.Contents.{HeapContents}
use Rattle.ledger_state.specs.Heaps.{next_number, object_at, root, root_of}
use Rattle.ledger_state.specs.Locals.{temp_value}
use Rattle.ledger_state.specs.Values.{is_null, number_of}
use Rattle.ledger_state.specs.declared.object.Object.{Object}
use Rattle.ledger_state.specs.declared.value.Value.{Value}
use Rattle.ledger_state.specs.declared.value.Value.TheVariants as values
use Rattle.value_laws.specs.Places.{place_value}
use Rattle.value_laws.specs.Configuration.{Frame}
use Rattle.value_laws.specs.Choosing.{frame_steps}
use Rattle.value_laws.specs.Frames.{frame_after, is_made, made_place}
use Rattle.ledger_steps.specs.declared.store.Store.{Store}
use Rattle.ledger_steps.specs.InnerSteps.{heap_stored, store_of, store_unless, thrown_heap, thrown_value}
use Rattle.value_laws.specs.Heaps.{GoesOn, HasEarlierLinks}
use Rattle.value_laws.proofs.HeapLaws.{numbers_are_in_range}
use Rattle.value_laws.proofs.LibraryCallLaws.{exceptions_are_the_librarys, exceptions_keep_links-evolves}
use Rattle.value_laws.specs.PlacePlaces.{is_local}
use Rattle.value_laws.specs.Agreement.{Stands}
use Rattle.value_laws.specs.PlainForms.{HasPlainForms}
use Rattle.value_laws.specs.Outcomes.{After, IsNotNull, IsPlainRow}
use Rattle.value_laws.proofs.Going.{held_goes, other_steps}
use Rattle.value_laws.specs.Steps.{IsTrueTest}
use Rattle.value_laws.specs.PlaceFacts.{Covers, HoldAsSaid, IsCovered, IsOld, IsUnowned, OwnersBelow, gives_none, is_frame_below, is_frame_from, is_idle, is_lent, renews_none}
use Rattle.covering_laws.proofs.Births.{born_covers}
use Rattle.covering_laws.proofs.CallResults.{born_unowned, not_lent_none}
use Rattle.java_control.specs.Calls.{is_reset_of_this}
use Rattle.value_laws.specs.Chains.{HaveEnds}
use Rattle.value_laws.specs.HeapAnew.{is_field_owner}
use Rattle.value_laws.specs.Holders.{HoldersAreUnlinked, UnfinishedAreUnowned}
use Rattle.covering_laws.proofs.StepWays.{text_unowned, thrown_unowned}
use Rattle.covering_laws.proofs.Owners.{AllKeepGifts, KeepsFinished, OwnersGo, WaysGo, held_here, keeps_finished, stays, stays_apart}
use Rattle.covering_laws.proofs.StoreOwners.{thrown_below}
use Rattle.value_laws.proofs.Ready.{row_gives_none}
use Rattle.covering_laws.proofs.IdleFacts.{idle_stays}
use Rattle.covering_laws.proofs.TopSteps.{IsLocalStep, IsSureOf, top_covered, after_as}
use Rattle.covering_laws.proofs.SaidFacts.{claimed_is_said}
use Rattle.covering_laws.proofs.HeavyFields.{not_held_not_idle}
use Rattle.covering_laws.proofs.Waiting.{Carries, HoldsThere, KeepsFieldsButTexts, KeepsRoots, KeepsUnfinished, all_ready, keeps_roots, linked_roots, new_root, no_other}
use Rattle.covering_laws.proofs.LinkedExceptions.{LinkedWere}
use Rattle.covering_laws.proofs.OwnerSteps.{free_below, given_up_free}
use Rattle.covering_laws.proofs.TextStores.{left_goes_on, left_to_library, light_back, light_forward, light_unless, row_light, store_linked, unless_fields}
use Rattle.covering_laws.specs.TextUpdates.{IsLeftByText, IsLightStore, UpdatesTexts}
use Rattle.ledger_state.specs.declared.entry.Owner.TheVariants as owners
use Rattle.value_laws.proofs.ObjectLaws.{goes_on_further}
use Rattle.covering_laws.proofs.BornTruths.{read_unlent}
use Rattle.value_laws.specs.FactGoing.{GoesAs}
use Rattle.value_laws.specs.Flow.{flow}
use Rattle.value_laws.specs.PlaceRows.{places_after}

-- an object as it is goes on
pub same_goes_on : (x : Object) → GoesOn x x
same_goes_on x = record { class = refl; link = refl; finished = refl; must = refl; called = within_self x.called }

-- ---- what the step lets go on

pub no_object : (h : HeapContents) (v : Value) (o : ℕ) → is_null v ≡ true → root_of h v ≡ Some o → ⊥
no_object h values.Nothing o null is = cc
no_object h (values.Object k) o null is = true≢false (sym null)
no_object h v o null is = cc

pub not_null : (p : Program) (h : HeapContents) (frs : List Frame) (fr : Frame) (o : ℕ) (f : Fact) (a : Action) (e : Edge) → is_idle p frs fr f ≡ false → IsSmallAction p a → HoldAsSaid p h frs fr o f → IsTrueTest fr.locals a e → IsNotNull f a e
not_null p h frs fr o f actions.Skip e said small hold test = tt
not_null p h frs fr o f (actions.Test d) edges.Null said small hold test = go (has f.places (places.Temp d)) refl
  where
    go : (b : Bool) → has f.places (places.Temp d) ≡ b → has f.places (places.Temp d) ≡ false
    go true is = absurd (no_object h (temp_value fr.locals d) o test (hold said (places.Temp d) small refl is))
    go false is = is
not_null p h frs fr o f (actions.Test d) e said small hold test = tt
not_null p h frs fr o f a e said small hold test = tt

-- a step that calls nothing knows of no more calls
pub same_names : (p : Program) (b : BodyId) (a : Action) (e : Edge) (f : Fact) → IsPlainRow a → IsNotNull f a e → called_after p b a e f ≡ f.called
same_names p b actions.Skip e f row safe = refl
same_names p b (actions.Test d) edges.Null f row safe = rw safe refl
same_names p b (actions.Test d) e f row safe = refl
same_names p b (actions.Call m d n form) e f row safe = absurd row
same_names p b (actions.New m d n) e f row safe = absurd row
same_names p b (actions.Super m d n) e f row safe = absurd row
same_names p b a e f row safe = refl

-- nor does it create the obligation of `this` anew
row_resets_none : (p : Program) (a : Action) → IsPlainRow a → is_reset_of_this p a ≡ false
row_resets_none p actions.Skip row = refl
row_resets_none p (actions.Call m d n form) row = absurd row
row_resets_none p (actions.New m d n) row = absurd row
row_resets_none p (actions.Super m d n) row = absurd row
row_resets_none p a row = refl

-- the value holds no object of a class with an obligation
abbrev pub HoldsNoneHeavy : Program → HeapContents → Value → Type 0
HoldsNoneHeavy p h v = (o : ℕ) (y : Object) → root_of h v ≡ Some o → object_at h o ≡ Some y → is_heavy_class p y.class ≡ false

pub none_heavy : (p : Program) (h : HeapContents) (v : Value) → number_of v ≡ None → HoldsNoneHeavy p h v
none_heavy p h (values.Object n) none o y found at = absurd (let never : Some n ≡ None = none in cc)
none_heavy p h v none o y found at = absurd (let never : None ≡ Some o = found in cc)

-- ---- the step

module _ (p : Program) (ac : Accept p) (forms : HasPlainForms p) (h : HeapContents) (links : HasEarlierLinks h) (fr : Frame) (st : Stands p fr) (i : ℕ) (s : Step) (here : slice_get (frame_steps p fr) i ≡ Some s)
    (r : IsLocalStep p fr st s) (row : IsPlainRow s.action) (test : IsTrueTest fr.locals s.action s.edge) (e : Option ClassId) (made : Value) where
  abbrev store : Option Store
  store = store_unless e (store_of fr.locals s.action)

  abbrev pub heap : HeapContents
  heap = heap_stored p (method_at p fr.method) fr.locals store (thrown_heap p e h)

  abbrev pub value : Value
  value = thrown_value h e made

  pub linked_were : LinkedWere h heap
  linked_were n y l at some =
      let x = store_linked p (thrown_heap p e h) (method_at p fr.method) fr.locals store n y l at some in
      elim (exceptions_are_the_librarys p e h n x.0 x.1) [
        | inl old ↦ (x.0, old, x.2, x.3)
        | inr new ↦ absurd (let never : None ≡ Some l = sym new.2 ∙ x.2 in cc)
      ]

  -- the step stores into no owning field, or it stores a text
  module _ (updates : UpdatesTexts p h fr) where
    light_store : IsLightStore p (thrown_heap p e h) store
    light_store = light_unless p h e (store_of fr.locals s.action) (row_light p h fr.locals s.action row (λ f d w this is own held. updates i s f d w this here is own held))

    left : (o : ℕ) (y : Object) → object_at heap o ≡ Some y → (x : Object) × (object_at (thrown_heap p e h) o ≡ Some x) × IsLeftByText p x y
    left o y at = light_back p (method_at p fr.method) fr.locals (thrown_heap p e h) store light_store o y at

    was_there : (o : ℕ) (y : Object) → object_at heap o ≡ Some y
        → ((x : Object) × (object_at h o ≡ Some x) × IsLeftByText p x y) ⊎ ((o ≡ next_number h) × (object_at (thrown_heap p e h) o ≡ Some y) × (y.link ≡ None) × (is_frame_from 0 y.owner ≡ false))
    was_there o y at = by (left o y at)
      where
        by : (x : Object) × (object_at (thrown_heap p e h) o ≡ Some x) × IsLeftByText p x y → ((x : Object) × (object_at h o ≡ Some x) × IsLeftByText p x y) ⊎ ((o ≡ next_number h) × (object_at (thrown_heap p e h) o ≡ Some y) × (y.link ≡ None) × (is_frame_from 0 y.owner ≡ false))
        by (x, now, so) = elim (exceptions_are_the_librarys p e h o x now) [
          | inl old ↦ inl (x, old, so)
          | inr new ↦ elim so [
            | inl same ↦ inr (new.0, subst (λ (z : Object). object_at (thrown_heap p e h) o ≡ Some z) (sym same) now, ap (λ (z : Object). z.link) same ∙ new.2, ap (λ (z : Object). is_frame_from 0 z.owner) same ∙ ap (is_frame_from 0) new.1)
            | inr gone ↦ absurd (let never : owners.Library ≡ owners.Field gone.2.0 gone.2.1 = sym new.1 ∙ gone.2.2 in cc)
          ]
        ]

    forward : (n : ℕ) (x : Object) → object_at h n ≡ Some x → (y : Object) × (object_at heap n ≡ Some y) × GoesOn x y
    forward n x at =
        let y = exceptions_keep_links-evolves p e h n x at in
        let z = light_forward p (method_at p fr.method) fr.locals (thrown_heap p e h) store light_store n y.0 y.1 in
        (z.0, z.1, goes_on_further x y.0 z.0 y.2 (left_goes_on p y.0 z.0 z.2))

    pub roots : KeepsRoots h heap
    roots = linked_roots h heap links (λ n x at. let y = forward n x at in (y.0, y.1, y.2.link))

    pub classes : (n : ℕ) (x : Object) → object_at h n ≡ Some x → (y : Object) × (object_at heap n ≡ Some y) × (y.class ≡ x.class)
    classes n x at = let y = forward n x at in (y.0, y.1, y.2.class)

    next_root : root heap (next_number h) ≡ next_number h
    next_root = new_root h heap (λ y at. elim (was_there (next_number h) y at) [
      | inl old ↦ absurd (let range = numbers_are_in_range h (next_number h) old.0 old.1 in let below = range.1 in omega (arith, below))
      | inr new ↦ new.2
    ])

    -- an object that was there
    was : (o : ℕ) (x y : Object) → object_at h o ≡ Some x → object_at heap o ≡ Some y → IsLeftByText p x y
    was o x y before at = elim (was_there o y at) [
      | inl old ↦ subst (λ (z : Object). IsLeftByText p z y) (let both : Some old.0 ≡ Some x = sym old.1 ∙ before in (let one : old.0 ≡ x = cc in one)) old.2
      | inr new ↦ absurd (let number = new.0 in let range = numbers_are_in_range h o x before in let below = range.1 in omega (arith, number, below))
    ]

    pub unfinished : KeepsUnfinished h heap no_other
    unfinished o x y apart before now none = (left_goes_on p x y (was o x y before now)).finished ∙ none

    pub carries : Carries h heap
    carries o y at below = elim (was_there o y at) [
      | inl old ↦ (old.0, old.1, (left_goes_on p old.0 y old.2).class, (λ is. (left_goes_on p old.0 y old.2, left_to_library p old.0 y old.2)))
      | inr new ↦ absurd (let number = new.0 in omega (arith, number, below))
    ]

    pub finishes : KeepsFinished h heap
    finishes = keeps_finished h heap (λ n x at done. let y = forward n x at in (y.0, y.1, y.2.finished ∙ done))

    -- nobody owns what is not finished
    pub inner_nobody : UnfinishedAreUnowned h → UnfinishedAreUnowned heap
    inner_nobody before = text_unowned p (thrown_heap p e h) heap left (thrown_unowned p e h before)

    -- the ways up go on
    pub inner_ways : HaveEnds h → HoldersAreUnlinked (is_heavy_class p) h → (below : List Frame) (j : ℕ) → WaysGo p None below j h heap
    inner_ways have unlinked below j = record {
      have = have;
      unlinked = unlinked;
      objects = λ o x at. (let y = forward o x at in (y.0, y.1, y.2.class, λ done. (y.2.finished ∙ done, y.2.link)));
      unmade = λ o x y before now open'. inl (unfinished o x y (λ never. never) before now open', nobody o x y before open' (was o x y before now));
      fresh = λ o y none now. elim (was_there o y now) [
        | inl old ↦ absurd (let never : None ≡ Some old.0 = sym none ∙ old.1 in cc)
        | inr new ↦ elim (exceptions_are_the_librarys p e h o y new.1) [
          | inl old ↦ absurd (let never : None ≡ Some y = sym none ∙ old in cc)
          | inr library ↦ (ap is_field_owner library.1, λ n under. ap (is_frame_below n) library.1)
        ]
      ];
      unready = λ w never. absurd (let no : None ≡ Some w = never in cc);
    }
      where
        nobody : (o : ℕ) (x y : Object) → object_at h o ≡ Some x → x.finished ≡ false → IsLeftByText p x y → y.owner ≡ owners.Unowned
        nobody o x y before open' (inl same) = ap (λ (z : Object). z.owner) same ∙ have.unfinished o x before open'
        nobody o x y before open' (inr gone) = absurd (let never : owners.Unowned ≡ owners.Field gone.2.0 gone.2.1 = sym (have.unfinished o x before open') ∙ gone.2.2 in cc)

    -- owners of what has an obligation stay
    pub same_owner : (o : ℕ) (x y : Object) → object_at h o ≡ Some x → object_at heap o ≡ Some y → is_heavy_class p x.class ≡ true → y.owner ≡ x.owner
    same_owner o x y before at heavy = elim (was o x y before at) [
      | inl same ↦ ap (λ (z : Object). z.owner) same
      | inr gone ↦ absurd (true≢false (sym heavy ∙ gone.1))
    ]

    pub owners_go : (below : List Frame) (j : ℕ) → OwnersGo p None below j h heap
    owners_go below j o x y before at done heavy = stays (same_owner o x y before at heavy)

    pub owners_below : (n : ℕ) → OwnersBelow h n → OwnersBelow heap n
    owners_below n below o y at = by (left o y at)
      where
        by : (x : Object) × (object_at (thrown_heap p e h) o ≡ Some x) × IsLeftByText p x y → is_frame_from (n + 1) y.owner ≡ false
        by (x, now, inl same) = ap (λ (z : Object). is_frame_from (n + 1) z.owner) same ∙ thrown_below p e h n below o x now
        by (x, now, inr gone) = free_below (n + 1) y.owner (given_up_free x y gone.0).0

    pub fields : KeepsFieldsButTexts p h heap
    fields w f own = unless_fields p (method_at p fr.method) fr.locals h e (store_of fr.locals s.action) light_store w f own

    -- what is made is no object of a class with an obligation, or a fact that is not owned is born for it
    abbrev pub IsGiven : Place → Type 0
    IsGiven q = HoldsNoneHeavy p heap made ⊎ ((g : Origin) × (birth_on p s.action s.edge s.pos ≡ Some (g, fact_at q modes.None no_names true)) × (g.kind ≡ kinds.Read))

    module _ (old : ℕ → Bool) (frs : List Frame) (covered : IsCovered p h gives_none renews_none old frs fr) (aged : IsOld p h frs fr old) (gifts : AllKeepGifts p h heap frs) (ways : WaysGo p None (fr ∷ frs) (length frs + 1) h heap) (inside : HoldsThere p h fr)
        (light : (c : ClassId) (y : Object) → e ≡ Some c → object_at heap (next_number h) ≡ Some y → is_heavy_class p y.class ≡ false)
        (gives : (q : Place) → e ≡ None → source p st.body s.action s.edge q ≡ None → is_made (made_place s.action) q ≡ true → IsGiven q) where
      given : (q : Place) (o : ℕ) (y : Object) → IsSmall q → is_local q ≡ true → source p st.body s.action s.edge q ≡ None → is_made (made_place s.action) q ≡ true
          → place_value p heap fr.method (frame_after p h fr s value).locals q ≡ value → root_of heap value ≡ Some o → object_at heap o ≡ Some y → is_heavy_class p y.class ≡ true
          → IsUnowned p heap false false old frs (frame_after p h fr s value) q o y
      given q o y small local none there is found' at heavy = by e refl found'
        where
          by : (x : Option ClassId) → e ≡ x → root_of heap (thrown_value h x made) ≡ Some o → IsUnowned p heap false false old frs (frame_after p h fr s value) q o y
          by (Some c) same found =
              let number : next_number h ≡ o = sym next_root ∙ (let both : root_of heap (values.Object (next_number h)) ≡ Some o = found in cc) in
              absurd (true≢false (sym heavy ∙ light c y same (ap (object_at heap) number ∙ at)))
          by None same found = elim (gives q same none there) [
            | inl nothing ↦ absurd (true≢false (sym heavy ∙ nothing o y found at))
            | inr birth ↦ born_unowned p heap false old frs (frame_after p h fr s value) q o y birth.0 (fact_at q modes.None no_names true)
                (born_covers p heap fr st i s here (frame_after p h fr s value) old frs false q o y birth.0 modes.None true refl refl small local birth.1
                (ap (root_of heap) is ∙ found') (λ m. ap (is_lent p m) birth.2 ∙ read_unlent p m) refl not_lent_none (ap is_this_origin birth.2) (λ claimed. absurd (true≢false (sym claimed ∙ unclaimed (is_heavy_class p birth.0.class)))))
                (unclaimed (is_heavy_class p birth.0.class))
          ]
            where
              unclaimed : (b : Bool) → (b && false) ≡ false
              unclaimed true = refl
              unclaimed false = refl

      pub inner_covered : IsCovered p heap gives_none renews_none old frs (frame_after p h fr s value)
      inner_covered = top_covered p ac h heap links carries fields fr st i s here r inside (keeps_roots p h heap roots fr inside) value old frs gives_none (λ o. false) covered aged (idle_stays p ac forms fr st s r (row_resets_none p s.action row) frs) (all_ready p h heap unfinished fr)
          (stays_apart p None (fr ∷ frs) (length frs + 1) h heap ways (owners_go (fr ∷ frs) (length frs + 1)) frs fr (omega arith) gifts tt (λ w none. none.1) (λ w none this. no_object_into w none))
          (held_here p None (fr ∷ frs) (length frs + 1) h heap ways (owners_go (fr ∷ frs) (length frs + 1)) frs fr (omega arith) gifts (λ w none. none.0))
          (λ o f g. Unit {0})
          (λ o x c q is. after_as (GoesAs c.fact (places_after p st.number s.action s.edge c.fact.places) (called_after p st.number s.action s.edge c.fact))
          (λ (g : Fact). GoesAs c.fact (places_after p st.number s.action s.edge c.fact.places) (called_after p st.number s.action s.edge c.fact) g × Unit {0})
          (flow p st.number c.origin s.action s.edge c.fact) (λ g goes. (goes, tt))
          (goes_row o x c q is))
          (λ o x y c before at g more trusted sure stays done goes some owes names less was.
          ap (λ (t : Names). set.is_subset t names) (same_names p st.number s.action s.edge c.fact row (not_null p h frs fr o c.fact s.action s.edge (sure_is_said o x c sure) r.small c.places test))
          ∙ was)
          (λ o x c before some owes said gives. absurd (true≢false (sym gives ∙ row_gives_none p s.action s.edge c.fact.places row)))
          (λ o x y c key before at heavy owes g more own. (refl, (λ done mine. same_owner o x y before at heavy ∙ mine)))
          (λ q o y small out root' now heavy owes. absurd (true≢false (sym out.0 ∙ row_resets_none p s.action row)))
          (λ q o y small local none there is found' at heavy owes. inr (inl (given q o y small local none there is found' at heavy)))
        where
          no_object_into : (w : ℕ) → ◌≡◌ {A = Option ℕ} None (Some w) → ⊥
          no_object_into w none = cc

          -- a test against null leaves what a field holds
          goes_row : (o : ℕ) (x : Object) (c : Covers p h false false old frs fr o x) (q : Place) → has (places_after p st.number s.action s.edge c.fact.places) q ≡ true
              → After (GoesAs c.fact (places_after p st.number s.action s.edge c.fact.places) (called_after p st.number s.action s.edge c.fact)) (flow p st.number c.origin s.action s.edge c.fact)
          goes_row o x c q is = go (is_held c.fact.mode) refl
            where
              go : (b : Bool) → is_held c.fact.mode ≡ b
                  → After (GoesAs c.fact (places_after p st.number s.action s.edge c.fact.places) (called_after p st.number s.action s.edge c.fact)) (flow p st.number c.origin s.action s.edge c.fact)
              go true held = held_goes p st.number c.origin c.fact q s.action s.edge row held is
              go false other = other_steps p st.number c.origin s.action s.edge c.fact q row (not_null p h frs fr o c.fact s.action s.edge (not_held_not_idle p frs fr c.fact other) r.small c.places test) is

          sure_is_said : (o : ℕ) (x : Object) (c : Covers p h false false old frs fr o x) → IsSureOf p ac h heap links carries fields fr st i s here r inside (keeps_roots p h heap roots fr inside) value old frs false false o x c → is_idle p frs fr c.fact ≡ false
          sure_is_said o x c (inl owned) = claimed_is_said p frs fr c.origin c.fact owned.0.owning
          sure_is_said o x c (inr is) = is.1.3
