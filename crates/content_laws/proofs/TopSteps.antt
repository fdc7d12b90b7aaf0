-- A step of the top frame keeps what owning fields hold and own: within the frame, at the start of a call, and over a call of the library.
use Rattle.covering_laws.proofs.ClassArguments.{target_is_instance}
use Rattle.covering_laws.proofs.ContentHolders.{contents_have_holders}
use Rattle.covering_laws.proofs.LibraryTargets.{tops}
use Rattle.covering_laws.specs.Holders.{HoldersAreUnlinked}
use Rattle.std.proofs.lemmas.Bool.{or_left, and_parts}
use Rattle.std.specs.Prelude.{◌<◌, ◌≤◌, ◌||◌, ◌&&◌, not}
use Rattle.std.specs.FinSet as set
use Rattle.std.proofs.Common.{Bool, List, None, Option, Some, ap, arith, false, if◌then◌else◌, inl, inr, length, refl, slice_get, subst, sym, true, true≢false, ℕ, ◌+◌, ◌∙◌, ◌∷◌, ◌≡◌, ◌⊎◌, []}
use Rattle.std.proofs.lemmas.List.Elements.{All-head, All-tail}
use Rattle.rlc_base.specs.declared.name_id.NameId.{NameId}
use Rattle.rlc_base.specs.declared.place.Pos.{Pos}
use Rattle.program_model.specs.declared.kinds.ClassId.{ClassId}
use Rattle.program_model.specs.declared.kinds.FieldId.{FieldId}
use Rattle.program_model.specs.declared.kinds.MethodId.{MethodId}
use Rattle.program_model.specs.declared.kinds.VType.{VType}
use Rattle.program_model.specs.declared.program.Field.{Field}
use Rattle.program_model.specs.declared.program.Method.{Method}
use Rattle.program_model.specs.declared.program.Program.{Program}
use Rattle.program_model.specs.Lookups.{field_at, method_at}
use Rattle.must_call_sets.specs.Bodies.{is_field_in, reset_in, constructs, is_alias_constructor, is_class_of}
use Rattle.must_call_sets.specs.MustCallSets.{is_heavy_class, must_of, must_of_type}
use Rattle.java_control.specs.Calls.{called_method}
use Rattle.java_control.specs.Control.{Step}
use Rattle.java_control.specs.Owned.{is_owning, is_owning_field}
use Rattle.control_actions.specs.declared.action.Action.{Action}
use Rattle.control_actions.specs.declared.action.Action.TheVariants as actions
use Rattle.control_actions.specs.declared.fact.Mode.{Mode}
use Rattle.control_actions.specs.declared.fact.Mode.TheVariants as modes
use Rattle.control_actions.specs.declared.place.Place.TheVariants as places
use Rattle.covering_laws.specs.Accept.{Accept}
use Rattle.covering_laws.specs.Paths.{move_of}
use Rattle.covering_laws.specs.Outcomes.{IsPlainRow}
use Rattle.stub_conduct.specs.declared.choice.Conduct.{Conduct}
use Rattle.ledger_state.specs.Contents.{HeapContents}
use Rattle.ledger_state.specs.Heaps.{next_number, object_at, put_field}
use Rattle.ledger_state.specs.Locals.{temp_value}
use Rattle.ledger_state.specs.Values.{number_of}
use Rattle.ledger_state.specs.declared.entry.Owner.{Owner}
use Rattle.ledger_state.specs.declared.entry.Owner.TheVariants as owners
use Rattle.ledger_state.specs.declared.object.Object.{Object}
use Rattle.ledger_state.specs.declared.value.Value.{Value}
use Rattle.ledger_state.specs.declared.value.Value.TheVariants as values
use Rattle.ledger_obligations.specs.Obligations.{is_library_owner, is_unmet, lose, may_move, stored_owning, moved_in, type_of_field}
use Rattle.covering_laws.specs.Operations.{made_value, next_choice}
use Rattle.ledger_steps.specs.LedgerCallsCalls.{argument_values, begun, interest_in, object_by, reset_target}
use Rattle.ledger_steps.specs.Conducts.{arguments_shared, conduct_value, positions}
use Rattle.covering_laws.specs.Configuration.{Config, Frame, held_by}
use Rattle.covering_laws.specs.Choosing.{frame_steps}
use Rattle.covering_laws.specs.Frames.{frame_after, KeepsTargets}
use Rattle.ledger_steps.specs.CallSteps.{began_heap, library_heap, self_begun}
use Rattle.ledger_steps.specs.InnerSteps.{heap_stored, is_bound, store_into, store_of, store_unless, thrown_heap, thrown_value}
use Rattle.ledger_steps.specs.declared.store.Store.{Store}
use Rattle.covering_laws.specs.LedgerRunsSteps.{began, library_went, within}
use Rattle.covering_laws.specs.Heaps.{Evolves, HasEarlierLinks}
use Rattle.covering_laws.specs.Agreement.{Agrees, Stands, is_answering}
use Rattle.covering_laws.specs.PlainForms.{HasPlainForms, StoresPlainly}
use Rattle.covering_laws.specs.Nexts.{IsInnerStep, IsLibraryMove, IsStartMove}
use Rattle.covering_laws.proofs.NameCounts.{accepted_names}
use Rattle.covering_laws.proofs.Ready.{step_there}
use Rattle.covering_laws.proofs.Stacks.{tracked_bounded}
use Rattle.covering_laws.specs.FieldContents.{FieldsHold, is_made_in, makes_holder, FieldsOwn, AreNew, AreUnfinished}
use Rattle.covering_laws.specs.PlaceFacts.{IsCovered, gives_none, renews_none, Covers, IsKeyed, is_heavy_in, owned as is_owned_key, unowned}
use Rattle.covering_laws.specs.Renewing.{lends_this, IsLentFrom, IsMadeBy, is_declared_beside}
use Rattle.covering_laws.specs.Ranges.{FieldsInRange, LocalsInRange}
use Rattle.covering_laws.proofs.Configs.{frames_stay}
use Rattle.covering_laws.proofs.Steps.{IsFuller, owning_fuller}
use Rattle.covering_laws.proofs.RangeValues.{value_stays}
use Rattle.covering_laws.proofs.StoringThis.{IsItsField, IsReopened, its_class, its_field, storing_this}
use Rattle.covering_laws.proofs.UnlinkedThis.{unlinked_this}
use Rattle.covering_laws.proofs.StoreSteps.{temp_is_taken}
use Rattle.covering_laws.proofs.Storing.{small}
use Rattle.covering_laws.proofs.HeavyFields.{own_claims}
use Rattle.covering_laws.proofs.Unmet.{may_lies}
use Rattle.covering_laws.specs.Stores.{IsMovedIn}
use Rattle.covering_laws.specs.Linking.{LinkedAreAliases}
use Rattle.program_model.specs.SuperTests.{is_under}
use Rattle.covering_laws.specs.Facts.{has, is_held, is_own}
use Rattle.covering_laws.proofs.MadeWays.{MakesOfClass, made_below}
use Rattle.covering_laws.proofs.Cases.{same_class}
use Rattle.covering_laws.proofs.SettledFrames.{AllRenewInHand, IsOnTheWay, making_lends, way_begins, way_goes_down}
use Rattle.content_laws.proofs.Ends.{heavy_field_by}
use Rattle.content_laws.proofs.ContentFrames.{callee_dispatched, callee_fresh, callee_new, callee_unfinished}
use Rattle.content_laws.proofs.Goes.{contents_go_on, dispatched_on, goes_forth, goes_further, lose_goes, self_goes, there, unfinished_on, not_the_librarys_owes}
use Rattle.content_laws.proofs.Heaps.{call_stores_nothing, inner_goes, library_goes_by, start_goes}
use Rattle.content_laws.proofs.TextContents.{text_holds}
use Rattle.content_laws.proofs.Renewals.{CreatesAnew, linked_before, renewed_hold, Renews, dispatched_renewed, unfinished_renewed}
use Rattle.content_laws.proofs.LibraryResets.{library_renews, position_none, read_resets_nothing, same_interest}
use Rattle.covering_laws.proofs.Renewed.{says_nothing, without_reset}
use Rattle.covering_laws.specs.HeapAnew.{is_anew}
use Rattle.covering_laws.specs.Sight.{ActsInSight, AllActInSight}
use Rattle.covering_laws.specs.TextUpdates.{IsLeftByText, IsLightStore, UpdatesTexts}
use Rattle.covering_laws.proofs.TextStores.{light_back, light_fields, light_forward, light_links, row_light, store_count}
use Rattle.content_laws.proofs.Leaves.{lost_from}
use Rattle.content_laws.proofs.LinkSteps.{leads_go_on}
use Rattle.content_laws.proofs.Steps.{lost, owning_on, same_after, IsSameFrame, LocalsIn, same_dispatched, same_fresh, same_makes, same_new, same_unfinished, stepped, this_in}
use Rattle.content_laws.proofs.LibraryNotes.{no_library_note}
use Rattle.content_laws.proofs.ContentStores.{is_anew as is_anew_at, left_links, may_library, renews, store_forth, store_owning, stored_contents, stored_leads}
use Rattle.content_laws.proofs.Promised.{promises_its_own}
use Rattle.content_laws.specs.Filled.{StoresReadily, MakersLend}
use Rattle.content_laws.specs.Going.{Goes, IsNotedBy, NoName, PromisesItsOwn}

-- the name of the call is one of the table
pub small_interest : (p : Program) → Accept p → (named : MethodId) (n : NameId) → interest_in (method_at p named) ≡ Some n → n.0 < 128
small_interest p ac named n interest = go (method_at p named) refl interest
  where
    go : (x : Option Method) → method_at p named ≡ x → interest_in x ≡ Some n → n.0 < 128
    go None at is = absurd (let never : None ≡ Some n = is in cc)
    go (Some x) at is = accepted_names p ac named x n at is

or_right : (a b : Bool) → b ≡ true → (a || b) ≡ true
or_right true b is = refl
or_right false b is = is

library_stays : (p : Program) (t : VType) (x : Object) → may_move p t x ≡ true → x.owner ≡ owners.Library → ⊥
library_stays p t x may is = go x.finished (sym (ap (λ (o : Owner). x.finished && not (is_library_owner o) && set.is_subset (must_of p x.class) (must_of_type p t)) is) ∙ may)
  where
    go : (b : Bool) → (b && false && set.is_subset (must_of p x.class) (must_of_type p t)) ≡ true → ⊥
    go true same = true≢false (sym same)
    go false same = true≢false (sym same)

own_mode : (m : Mode) → is_own m ≡ true → m ≡ modes.Own
own_mode modes.Own is = refl
own_mode modes.Alias is = absurd (true≢false (sym is))
own_mode modes.Held is = absurd (true≢false (sym is))
own_mode modes.Lent is = absurd (true≢false (sym is))
own_mode modes.None is = absurd (true≢false (sym is))

-- a frame that makes the object runs a constructor of its class
made_class : (p : Program) → HasPlainForms p → (h : HeapContents) (g : Frame) → ActsInSight p h g → (w : ℕ) (self : Object) → object_at h w ≡ Some self → (c : ClassId) → self.class ≡ c → IsMadeBy p g w → is_class_of c (method_at p g.method) ≡ true
made_class p forms h g sight w self at c same made = by_field (field_at p made.field) refl made.declared
  where
    by_field : (x : Option Field) → field_at p made.field ≡ x → is_declared_beside p g.method x ≡ true → is_class_of c (method_at p g.method) ≡ true
    by_field None none never = absurd (true≢false (sym never))
    by_field (Some x) known declared = by_method (method_at p g.method) refl parts.1
      where
        parts : (x.owning ≡ true) × (is_class_of x.class (method_at p g.method) ≡ true)
        parts = and_parts x.owning (is_class_of x.class (method_at p g.method)) declared

        by_method : (m : Option Method) → method_at p g.method ≡ m → is_class_of x.class m ≡ true → is_class_of c (method_at p g.method) ≡ true
        by_method None none never = absurd (true≢false (sym never))
        by_method (Some m) found among =
            let one : x.class ≡ m.class = same_class x.class m.class among in
            let its : self.class ≡ x.class = forms.alone self.class made.field x known parts.0 (ap (is_under p self.class) one ∙ sight.stands w self m made.runs at found) in
            ap (λ (d : ClassId). is_class_of d (method_at p g.method)) (sym same ∙ its) ∙ parts.1

made_classes : (p : Program) → HasPlainForms p → (h : HeapContents) (w : ℕ) (self : Object) → object_at h w ≡ Some self → (c : ClassId) → self.class ≡ c → (gs : List Frame) → AllActInSight p h gs → MakesOfClass p w c gs
made_classes p forms h w self at c same [] sights = tt
made_classes p forms h w self at c same (g ∷ gs) sights = (made_class p forms h g sights.0 w self at c same, made_classes p forms h w self at c same gs sights.1)

module _ (p : Program) (ac : Accept p) (forms' : HasPlainForms p) (c : Config) (fr : Frame) (frs : List Frame) (agrees : Agrees p (fr ∷ frs) c.heap c.entries) (old : ℕ → Bool) (covered : IsCovered p c.heap gives_none renews_none old frs fr)
    (in' : LocalsIn c.heap (fr ∷ frs)) (ranges : FieldsInRange c.heap) (hold : FieldsHold p (fr ∷ frs) c.heap) where
  abbrev h : HeapContents
  h = c.heap

  st : Stands p fr
  st = agrees.standing.0

  links : HasEarlierLinks h
  links = agrees.links

  own : PromisesItsOwn p
  own = promises_its_own p ac

  top : LocalsInRange h fr.locals
  top = All-head (λ (x : Frame). LocalsInRange h x.locals) fr frs in'

  below : LocalsIn h frs
  below = All-tail (λ (x : Frame). LocalsInRange h x.locals) fr frs in'

  abbrev Done : Config → Type 0
  Done x = FieldsHold p x.frames x.heap

  -- ---- steps within the frame

  -- the frame after a step of its own
  abbrev stepped_frame : Option ClassId → Step → Frame
  stepped_frame e s = frame_after p h fr s (thrown_value h e (made_value p h c.arrays c.statics (next_choice c.choices c.used) fr.locals s.action))

  inner_hold : (e : Option ClassId) (i : ℕ) (s : Step) → slice_get (frame_steps p fr) i ≡ Some s → store_unless e (store_of fr.locals s.action) ≡ None → HasEarlierLinks (within p c fr frs e s).heap
      → Done (within p c fr frs e s)
  inner_hold e i s here none now =
      stepped p own h (lose (held_by (stepped_frame e s ∷ frs)) (heap_stored p (method_at p fr.method) fr.locals (store_unless e (store_of fr.locals s.action)) (thrown_heap p e h))) NoName links now
      (inner_goes p (method_at p fr.method) fr.locals e s.action (held_by (stepped_frame e s ∷ frs)) h none links) fr (stepped_frame e s) frs
      (same_after p h fr s (thrown_value h e (made_value p h c.arrays c.statics (next_choice c.choices c.used) fr.locals s.action))) in'
      (λ o x y w f at now' heavy on owner content m d' n fin there' class interest must never. absurd never) hold

  -- the step stores into no owning field, or a text
  module _ (updates : UpdatesTexts p h fr) (i : ℕ) (s : Step) (here : slice_get (frame_steps p fr) i ≡ Some s) (row : IsPlainRow s.action) where
    abbrev after_text : Frame
    after_text = stepped_frame None s

    abbrev text_heap : HeapContents
    text_heap = heap_stored p (method_at p fr.method) fr.locals (store_of fr.locals s.action) h

    light_store : IsLightStore p h (store_of fr.locals s.action)
    light_store = row_light p h fr.locals s.action row (λ f d w this is own held. updates i s f d w this here is own held)

    forward : (n : ℕ) (x : Object) → object_at h n ≡ Some x → (y : Object) × (object_at text_heap n ≡ Some y) × IsLeftByText p x y
    forward n x at = light_forward p (method_at p fr.method) fr.locals h (store_of fr.locals s.action) light_store n x at

    back : (n : ℕ) (y : Object) → object_at text_heap n ≡ Some y → (x : Object) × (object_at h n ≡ Some x) × IsLeftByText p x y
    back n y at = light_back p (method_at p fr.method) fr.locals h (store_of fr.locals s.action) light_store n y at

    text_links : HasEarlierLinks text_heap
    text_links = light_links p (method_at p fr.method) fr.locals h (store_of fr.locals s.action) light_store links

    more : next_number h ≤ next_number text_heap
    more = let same = store_count p (method_at p fr.method) fr.locals h (store_of fr.locals s.action) in omega (arith, same)

    text_hold : Done (within p c fr frs None s)
    text_hold =
        lost p own text_heap text_links (held_by (after_text ∷ frs)) after_text frs (frames_stay h text_heap more frs below) (value_stays h text_heap more fr.locals.this top.this)
        (text_holds p h text_heap links forward back (light_fields p (method_at p fr.method) fr.locals h (store_of fr.locals s.action) light_store) fr after_text frs
        (same_after p h fr s (thrown_value h None (made_value p h c.arrays c.statics (next_choice c.choices c.used) fr.locals s.action))) in' hold)

  nothing_stored : (e : Option ClassId) {r : Option Store} → r ≡ None → store_unless e r ≡ None
  nothing_stored None none = none
  nothing_stored (Some e) none = refl

  -- the step stores into no owning field, or a text into one
  row_hold : UpdatesTexts p h fr → (e : Option ClassId) (i : ℕ) (s : Step) → slice_get (frame_steps p fr) i ≡ Some s → IsPlainRow s.action → HasEarlierLinks (within p c fr frs e s).heap → Done (within p c fr frs e s)
  row_hold updates None i s here row now = text_hold updates i s here row
  row_hold updates (Some e) i s here row now = inner_hold (Some e) i s here refl now

  -- an unmet object that may move has an obligation by its class
  bounded : (o : ℕ) (x : Object) → object_at h o ≡ Some x → x.link ≡ None → is_unmet x ≡ true → (t : VType) → may_move p t x ≡ true → set.is_subset x.must (must_of p x.class) ≡ true
  bounded o x at free unmet t may = go x.owner refl (agrees.answered o x at free unmet)
    where
      go : (w : Owner) → x.owner ≡ w → is_answering x.owner ≡ true → set.is_subset x.must (must_of p x.class) ≡ true
      go (owners.Frame j) is answers = tracked_bounded p h (fr ∷ frs) o x j (agrees.tracked o x j at unmet is)
      go (owners.Field w f) is answers = (hold.contents o x w f at (or_left (is_unmet x) (is_heavy_class p x.class) unmet) is).own
      go owners.Library is answers = absurd (library_stays p t x may is)
      go owners.Released is answers = absurd (true≢false (sym answers ∙ ap is_answering is))
      go owners.Lost is answers = absurd (true≢false (sym answers ∙ ap is_answering is))
      go owners.Unowned is answers = absurd (true≢false (sym answers ∙ ap is_answering is))

  -- what owns something of a class with an obligation is linked to none
  unlinked : HoldersAreUnlinked (is_heavy_class p) h
  unlinked = contents_have_holders p ac (fr ∷ frs) h hold.contents

  -- a store into an owning field of `this`
  module _ (sight : ActsInSight p h fr) (sights : AllActInSight p h frs) (targets : KeepsTargets p fr) (owned : FieldsOwn p h) (aliases : LinkedAreAliases p h) (i : ℕ) (s : Step) (here : slice_get (frame_steps p fr) i ≡ Some s) (f : FieldId) (t : ℕ)
      (is : s.action ≡ actions.PutOwn f t) where
    abbrev v : Value
    v = thrown_value h None (made_value p h c.arrays c.statics (next_choice c.choices c.used) fr.locals s.action)

    abbrev after : Frame
    after = frame_after p h fr s v

    -- it is as the rules ask
    plainly : StoresPlainly p (method_at p fr.method) f
    plainly = sight.rules.stores i s f t here is

    owning : is_owning p f ≡ true
    owning = own_field (field_at p f) (forms'.stores st.number i (move_of s) f t st.control (step_there p fr st i s here) is)
      where
        own_field : (x : Option Field) → is_field_in p st.number x ≡ true → is_owning_field x ≡ true
        own_field None absent = absurd (true≢false (sym absent))
        own_field (Some x) has = first x.owning _ has
          where
            first : (a b : Bool) → (a && b) ≡ true → a ≡ true
            first true b one = refl
            first false b one = one

    -- the heap after the store, before objects are lost
    abbrev Stored : Option ℕ → HeapContents
    Stored w = heap_stored p (method_at p fr.method) fr.locals (store_into w f (temp_value fr.locals t)) h

    abbrev IsHeld : HeapContents → Type 0
    IsHeld k = (FieldsInRange k × (next_number h ≤ next_number k)) × HasEarlierLinks k × FieldsHold p (after ∷ frs) k

    no_store : IsHeld h
    no_store = (
      (ranges, omega arith),
      links,
      stepped p own h h NoName links links (self_goes p h NoName) fr after frs (same_after p h fr s v) in'
          (λ o x y w g at now unmet on owner content m e n fin there' class interest must never. absurd never) hold,
    )

    -- the value is the argument of an alias
    abbrev tied : Bool
    tied = is_bound h (method_at p fr.method) fr.locals (temp_value fr.locals t)

    module _ (w : ℕ) (this : fr.locals.this ≡ values.Object w) where
      self : (x : Object) × (object_at h w ≡ Some x)
      self = there h w (top.this w (ap number_of this))

      under : (m : Method) → method_at p fr.method ≡ Some m → is_under p (self.0).class m.class ≡ true
      under m at = sight.stands w self.0 m this self.1 at

      storing : (((self.0).finished ≡ false) × (constructs (method_at p fr.method) ≡ true)) ⊎ IsReopened p h frs fr w self.0
      storing = storing_this p ac forms' h links owned fr top st old frs targets covered hold.unfinished i s here f t is plainly w this self.0 self.1 under (λ opens. unlinked_this p ac forms' h aliases fr st w self.0 self.1 under opens)

      abbrev its : IsItsField p ac forms' h links owned fr top st old frs targets covered hold.unfinished i s here f t is plainly w this self.0 self.1 under (λ opens. unlinked_this p ac forms' h aliases fr st w self.0 self.1 under opens)
      its = its_field p ac forms' h links owned fr top st old frs targets covered hold.unfinished i s here f t is plainly w this self.0 self.1 under (λ opens. unlinked_this p ac forms' h aliases fr st w self.0 self.1 under opens)

      of_class : (field : Field) → field_at p f ≡ Some field → (self.0).class ≡ field.class
      of_class field at =
          its_class p ac forms' h links owned fr top st old frs targets covered hold.unfinished i s here f t is plainly w this self.0 self.1 under (λ opens. unlinked_this p ac forms' h aliases fr st w self.0 self.1 under opens)
          ∙ ap (λ (x : Field). x.class) (let both : Some its.field ≡ Some field = sym its.known ∙ at in (let one : its.field ≡ field = cc in one))

      -- what the frame owns and stores has its obligation within that of its class; so has what the field owns
      heavy_bounded : is_alias_constructor p st.number ≡ false → (o : ℕ) (x : Object) → object_at h o ≡ Some x → IsMovedIn p h f (temp_value fr.locals t) o x → is_heavy_class p x.class ≡ true
          → set.is_subset x.must (must_of p x.class) ≡ true
      heavy_bounded plain o x at moved heavy =
          by (covered (places.Temp t) o x (small p ac forms' h old frs fr st covered i t s f here is plainly).0 refl moved.root at heavy (inl (not_the_librarys_owes x (may_library p (type_of_field (field_at p f)) x moved.may))))
        where
          wide : is_heavy_in p (Some f) ≡ true
          wide = heavy_field_by p f its.field its.known x.class heavy
              (ap (λ (t' : VType). set.is_subset (must_of p x.class) (must_of_type p t')) (sym (ap type_of_field its.known)) ∙ may_lies p (type_of_field (field_at p f)) x moved.may)

          of_cover : (c : Covers p h false false old frs fr o x) → has c.fact.places (places.Temp t) ≡ true → set.is_subset x.must (must_of p x.class) ≡ true
          of_cover c in' = elim (temp_is_taken p ac forms' h old frs fr st covered i t s f here is plainly o x w this c in' wide plain) [
            | inl own ↦ (let parts = and_parts (is_heavy_class p c.origin.class) (is_own c.fact.mode) own in
                let mode = own_mode c.fact.mode parts.1 in
                (c.true' (own_claims p (method_at p fr.method) c.origin c.fact mode parts.0) refl (ap (λ (m : Mode). is_held m && lends_this p fr) mode)).bounded)
            | inr held ↦ (hold.contents o x w f at (or_right (is_unmet x) (is_heavy_class p x.class) heavy) held).own
          ]

          by : IsKeyed p h false false old frs fr (places.Temp t) o x → set.is_subset x.must (must_of p x.class) ≡ true
          by (is_owned_key c in' mine) = of_cover c in'
          by (unowned u) = of_cover u.covers u.here

      -- a frame below makes the object, where it is not finished and lent
      below_makes : (self.0).finished ≡ false → IsLentFrom p h frs w (self.0).owner → (field : Field) → field_at p f ≡ Some field → is_made_in p w field.class frs ≡ true
      below_makes open' lent field at = made_below p h agrees.ends w self.0 self.1 open' field.class frs (made_classes p forms' h w self.0 self.1 field.class (of_class field at) frs sights) lent

      same : IsSameFrame fr after
      same = same_after p h fr s v

      abbrev plain : HeapContents
      plain = put_field w f (temp_value fr.locals t) (moved_in p h w f tied (temp_value fr.locals t))

      abbrev whole : HeapContents
      whole = stored_owning p h w f tied (temp_value fr.locals t)

      forth : Evolves h plain
      forth = store_forth p ac forms' h fr frs st links old covered hold i s here f t is w this self.0 self.1 bounded owned unlinked of_class storing below_makes heavy_bounded

      abbrev anew : ℕ → Bool
      anew = is_anew_at p ac forms' h fr frs st links old covered hold i s here f t is w this self.0 self.1 bounded owned unlinked of_class storing below_makes heavy_bounded

      turned : Renews p anew plain whole
      turned = renews p ac forms' h fr frs st links old covered hold i s here f t is w this self.0 self.1 bounded owned unlinked of_class storing below_makes heavy_bounded

      full : IsFuller h whole
      full = owning_fuller p h w f tied (temp_value fr.locals t) (top.this w (ap number_of this)) (top.temps t) ranges

      store_held : IsHeld whole
      store_held = (
        (full.fields, full.count),
        left_links p ac forms' h fr frs st links old covered hold i s here f t is w this self.0 self.1 bounded owned unlinked of_class storing below_makes heavy_bounded,
        record {
          contents = stored_contents p ac forms' h fr frs st links old covered hold i s here f t is w this self.0 self.1 bounded owned unlinked of_class storing below_makes heavy_bounded own after (same_makes p fr after frs same);
          owning = store_owning p ac forms' h fr frs st links old covered hold i s here f t is w this self.0 self.1 bounded owned unlinked of_class storing below_makes heavy_bounded sight;
          leads = stored_leads p ac forms' h fr frs st links old covered hold i s here f t is w this self.0 self.1 bounded owned unlinked of_class storing below_makes heavy_bounded;
          new = same_new p fr after frs same hold.new;
          fresh = same_fresh p fr after frs same hold.fresh;
          unfinished = same_unfinished p fr after frs same whole (unfinished_renewed p anew plain whole turned (fr ∷ frs) (unfinished_on p h plain forth (fr ∷ frs) (this_in h (fr ∷ frs) in') hold.unfinished));
          dispatched = same_dispatched p fr after frs same whole (dispatched_renewed p anew plain whole turned (fr ∷ frs) (dispatched_on p h plain forth fr frs below hold.dispatched));
        },
      )

    by_this : (u : Value) → fr.locals.this ≡ u → IsHeld (Stored (number_of u))
    by_this values.Nothing this = no_store
    by_this (values.Object w) this =
        subst IsHeld (sym (ap (λ (b : Bool). if b then stored_owning p h w f tied (temp_value fr.locals t) else put_field w f (temp_value fr.locals t) h) owning)) (store_held w this)
    by_this u this = no_store

    store_hold : Done (within p c fr frs None s)
    store_hold = subst (λ (st' : Option Store). Done (record (within p c fr frs None s) { heap = lose (held_by (after ∷ frs)) (heap_stored p (method_at p fr.method) fr.locals st' h) })) (sym (ap (store_of fr.locals) is))
        (lost p own (Stored (number_of fr.locals.this)) kept.1 (held_by (after ∷ frs)) after frs (frames_stay h (Stored (number_of fr.locals.this)) kept.0.1 frs below) (value_stays h (Stored (number_of fr.locals.this)) kept.0.1 fr.locals.this top.this) kept.2)
      where
        kept : IsHeld (Stored (number_of fr.locals.this))
        kept = by_this fr.locals.this refl

  -- where the frame stores into an owning field of `this`, it runs a constructor, or `this` is finished, or the constructor that makes it lends it
  pub stores_readily : ActsInSight p h fr → AllActInSight p h frs → KeepsTargets p fr → FieldsOwn p h → LinkedAreAliases p h → AllRenewInHand p h frs → StoresReadily p h fr frs
  stores_readily sight sights targets owned aliases renews i s f d w here is this = elim (storing sight sights targets owned aliases i s here f d is w this) [
    | inl makes ↦ inl makes.1
    | inr opens ↦ inr (inr (lend opens frs hold.new.1 hold.unfinished.1 renews
        (λ opens'. way_begins p h agrees.ends unlinked w it.0 it.1 opens.heavy opens.single (inr (inr opens.stores)) frs opens.lent)))
  ]
    where
      it : (x : Object) × (object_at h w ≡ Some x)
      it = self sight sights targets owned aliases i s here f d is w this

      lend : IsReopened p h frs fr w it.0 → (gs : List Frame) → AreNew p gs → AreUnfinished p h gs → AllRenewInHand p h gs
          → ((opens : IsReopened p h frs fr w it.0) → IsOnTheWay p h agrees.ends unlinked w it.0 it.1 opens.heavy opens.single (inr (inr opens.stores)) gs) → MakersLend p w gs
      lend opens [] new open' renews' way = tt
      lend opens (g ∷ gs) new open' renews' way = (
        (λ declares makes runs. making_lends p h agrees.ends unlinked w it.0 it.1 opens.heavy opens.single (inr (inr opens.stores)) g gs (way opens) new open'.1 renews'.0 renews'.1 runs makes),
        lend opens gs new.1 open'.1 renews'.1 (λ opens'. way_goes_down p h agrees.ends unlinked w it.0 it.1 opens'.heavy opens'.single (inr (inr opens'.stores)) g gs new open' (way opens')),
      )

  pub inner_step : ActsInSight p h fr → AllActInSight p h frs → KeepsTargets p fr → FieldsOwn p h → LinkedAreAliases p h → (e : Option ClassId) (s : Step) (i : ℕ) → slice_get (frame_steps p fr) i ≡ Some s → IsInnerStep p h c.arrays fr.method fr.locals e s → HasEarlierLinks (within p c fr frs e s).heap
      → Done (within p c fr frs e s)
  inner_step sight sights targets owned aliases e s i here next now = elim next [
    | inl plain ↦ row_hold sight.updates e i s here plain.row now
    | inr more ↦ elim more [
      | inl null ↦ inner_hold e i s here (nothing_stored e (call_stores_nothing fr.locals s.action null.row)) now
      | inr store ↦ subst (λ (x : Option ClassId). Done (within p c fr frs x s)) (sym store.normal) (store_hold sight sights targets owned aliases i s here store.field store.temp store.action)
    ]
  ]

  -- ---- calls

  pub began_hold : (named runs : MethodId) (a : Action) (at : Pos) → IsStartMove p h c.arrays fr.locals (frame_steps p fr) named runs a
      → HasEarlierLinks (began p c fr frs named runs a at).heap → Done (began p c fr frs named runs a at)
  began_hold named runs a at next now = record {
    contents = contents_go_on p h k NoName goes own hold.leads (fr ∷ frs) (callee ∷ fr ∷ frs) hold.contents (λ o x y w f at' now' heavy on owner content m e n fin there' class interest must never. absurd never)
        (λ o x y w f content at' owner un' made'. or_right (makes_holder p w content.field.class callee) (is_made_in p w content.field.class (fr ∷ frs)) made');
    owning = owning_on p h k NoName goes hold.owning;
    leads = leads_go_on p h k NoName goes links hold.leads now;
    new = callee_new p ac forms' h c.arrays fr frs st in' named runs a next hold.new;
    fresh = callee_fresh p ac forms' h c.arrays fr frs st in' named runs a next hold.fresh;
    unfinished = callee_unfinished p ac forms' h c.arrays fr frs st in' named runs a next (length frames) k links from (unfinished_on p h k (goes_forth p h k NoName goes) (fr ∷ frs) (this_in h (fr ∷ frs) in') hold.unfinished);
    dispatched = dispatched_on p h k (goes_forth p h k NoName goes) callee (fr ∷ frs) in' (callee_dispatched p ac forms' h c.arrays fr frs st in' named runs a next hold.dispatched);
  }
    where
      callee : Frame
      callee = begun p runs (self_begun fr.locals a h) (argument_values fr.locals a (method_at p named))

      frames : List Frame
      frames = callee ∷ fr ∷ frs

      k : HeapContents
      k = lose (held_by frames) (began_heap p fr.locals a (method_at p named) (length frames) h)

      goes : Goes p h k NoName
      goes = start_goes p fr.locals a (method_at p named) (length frames) (held_by frames) h links

      from : (n : ℕ) (y : Object) → object_at k n ≡ Some y → (x : Object) × (object_at (began_heap p fr.locals a (method_at p named) (length frames) h) n ≡ Some x) × (y.finished ≡ x.finished)
      from n y at' = (let x = lost_from (held_by frames) (began_heap p fr.locals a (method_at p named) (length frames) h) n y at' in (x.0, x.1, x.2.finished))

  -- the frame, and the heap, after a call of the library that answers by the signature of this method
  abbrev called_frame : MethodId → MethodId → Conduct → Step → Frame
  called_frame named m x s =
      frame_after p h fr s (conduct_value (length (arguments_shared c.arrays fr.locals s.action (method_at p named))) (method_at p m) (positions fr.locals s.action (next_number h) x) (next_number h) x)

  abbrev called_heap : MethodId → MethodId → Conduct → Step → HeapContents
  called_heap named m x s = lose (held_by (called_frame named m x s ∷ frs)) (library_heap p fr.locals s.action (method_at p named) (method_at p m) x (length frs + 1) h)

  -- the call creates nothing anew, or it does so of what no field owns
  abbrev pub CreatesPlainly : MethodId → MethodId → Conduct → Step → Type 0
  CreatesPlainly named m x s =
      (reset_target (positions fr.locals s.action (next_number h) x) (method_at p named) ≡ None)
      ⊎ CreatesAnew p fr.locals s.action (method_at p named) (method_at p m) x (length frs + 1) h (called_heap named m x s)

  -- what a step creates anew it creates plainly
  pub library_creates : ActsInSight p h fr → (named m : MethodId) (x : Conduct) (s : Step) → IsLibraryMove p h c.arrays fr.locals (frame_steps p fr) named m x s → CreatesPlainly named m x s
  library_creates sight named m x s next = elim next.row [
    | inl call ↦ by_reset call.1 (reset_in (method_at p named)) refl
    | inr read ↦ inl (read_resets_nothing fr.locals s.action read (next_number h) x (method_at p named))
  ]
    where
      by_reset : called_method s.action ≡ Some named → (r : Option ℕ) → reset_in (method_at p named) ≡ r → CreatesPlainly named m x s
      by_reset call None none = inl (ap (object_by (positions fr.locals s.action (next_number h) x)) (position_none (method_at p named) none))
      by_reset call (Some n) some = inr (record {
        plain = without_reset (method_at p named);
        nothing = says_nothing (method_at p named);
        interest = same_interest (method_at p named);
        anew = is_anew p fr.locals s.action (method_at p named) (method_at p m) x h;
        renews = library_renews p fr.locals s.action (method_at p named) (method_at p m) x (length frs + 1) h (held_by (called_frame named m x s ∷ frs)) links agrees.ends unlinked
            (tops p h links fr named m x next.index s next.here call (target_is_instance p h c.arrays fr.locals s.action (method_at p named) (next.ran call).1) hold.owning sight unlinked);
      })

  -- it creates nothing anew
  plain_hold : (named m : MethodId) (x : Conduct) (s : Step) → IsLibraryMove p h c.arrays fr.locals (frame_steps p fr) named m x s → reset_target (positions fr.locals s.action (next_number h) x) (method_at p named) ≡ None
      → HasEarlierLinks (called_heap named m x s) → Done (library_went p c fr frs named m x s)
  plain_hold named m x s next none now =
      stepped p own h (called_heap named m x s) (IsNotedBy fr.locals s.action (method_at p named)) links now
      (goes_further p h made (called_heap named m x s) (IsNotedBy fr.locals s.action (method_at p named))
      (library_goes_by p fr.locals s.action (method_at p named) (method_at p m) x (length frs + 1) h none (small_interest p ac named) links)
      (lose_goes p (held_by (called_frame named m x s ∷ frs)) made (IsNotedBy fr.locals s.action (method_at p named)))) fr (called_frame named m x s) frs
      (same_after p h fr s (conduct_value (length (arguments_shared c.arrays fr.locals s.action (method_at p named))) (method_at p m) (positions fr.locals s.action (next_number h) x) (next_number h) x)) in'
      (λ o y z w f at there' heavy on owner content e d' n fin at' class interest must noted. absurd (no_library_note p forms' h c.arrays fr named m x s next (fr ∷ frs) o y w f content e d' n at' class interest must noted)) hold
    where
      made : HeapContents
      made = library_heap p fr.locals s.action (method_at p named) (method_at p m) x (length frs + 1) h

  -- it creates an obligation anew
  anew_hold : (named m : MethodId) (x : Conduct) (s : Step) → IsLibraryMove p h c.arrays fr.locals (frame_steps p fr) named m x s
      → CreatesAnew p fr.locals s.action (method_at p named) (method_at p m) x (length frs + 1) h (called_heap named m x s) → HasEarlierLinks (called_heap named m x s) → Done (library_went p c fr frs named m x s)
  anew_hold named m x s next anew now =
      renewed_hold p anew.anew made (called_heap named m x s) anew.renews now (called_frame named m x s ∷ frs)
      (stepped p own h made (IsNotedBy fr.locals s.action anew.plain) links (linked_before p anew.anew made (called_heap named m x s) anew.renews now)
      (library_goes_by p fr.locals s.action anew.plain (method_at p m) x (length frs + 1) h (ap (object_by (positions fr.locals s.action (next_number h) x)) anew.nothing)
      (λ n is. small_interest p ac named n (sym anew.interest ∙ is)) links) fr (called_frame named m x s) frs
      (same_after p h fr s (conduct_value (length (arguments_shared c.arrays fr.locals s.action (method_at p named))) (method_at p m) (positions fr.locals s.action (next_number h) x) (next_number h) x)) in'
      (λ o y z w f at there' heavy on owner content e d' n fin at' class interest must noted. absurd (no_library_note p forms' h c.arrays fr named m x s next (fr ∷ frs) o y w f content e d' n at' class interest must
      (record { chosen = noted.chosen; receiver = noted.receiver; name = noted.name; interest = sym anew.interest ∙ noted.interest; number = noted.number }))) hold)
    where
      made : HeapContents
      made = library_heap p fr.locals s.action anew.plain (method_at p m) x (length frs + 1) h

  pub library_hold : (named m : MethodId) (x : Conduct) (s : Step) → IsLibraryMove p h c.arrays fr.locals (frame_steps p fr) named m x s → CreatesPlainly named m x s
      → HasEarlierLinks (library_went p c fr frs named m x s).heap → Done (library_went p c fr frs named m x s)
  library_hold named m x s next (inl none) now = plain_hold named m x s next none now
  library_hold named m x s next (inr anew) now = anew_hold named m x s next anew now
