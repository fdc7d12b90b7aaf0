-- A store into an owning field of `this`.
use Rattle.std.proofs.Common.{◌≡◌, ◌⊎◌, inl, inr, ℕ, ◌+◌, ◌≤◌, length, eqb-true, Bool, true, false, not, ◌&&◌, Option, Some, None, List, [], ◌∷◌, ◌++◌, slice_get, nat_eq, refl, sym, ap, ◌∙◌, subst, true≢false, if◌then◌else◌, arith, eq-eqb}
use Rattle.std.specs.FinSet as set
use Rattle.std.specs.List.{All, list_any}
use Rattle.std.specs.Prelude.{MatchBool}
use Rattle.std.proofs.lemmas.Bool.{and_from, and_parts}
use Rattle.program_model.specs.declared.kinds.ClassId.{ClassId}
use Rattle.program_model.specs.declared.kinds.FieldId.{FieldId}
use Rattle.program_model.specs.declared.kinds.VType.{VType}
use Rattle.program_model.specs.declared.program.Field.{Field}
use Rattle.program_model.specs.declared.program.Method.{Method}
use Rattle.program_model.specs.declared.program.Program.{Program}
use Rattle.program_model.specs.Lookups.{field_at, method_at}
use Rattle.ledger_obligations.specs.MustCallSets.{Names, is_heavy_class, must_of, must_of_optional, must_of_type}
use Rattle.ownership_rules.specs.Signatures as signatures
use Rattle.java_control.specs.Control.{Step}
use Rattle.control_actions.specs.declared.action.Action.{Action}
use Rattle.control_actions.specs.declared.action.Action.TheVariants as actions
use Rattle.control_actions.specs.declared.place.Place.TheVariants as places
use Rattle.ownership_rules.specs.Facts.{has}
use Rattle.content_laws.specs.Accept.{Accept}
use Rattle.ledger_state.specs.Contents.{HeapContents}
use Rattle.ledger_state.specs.Heaps.{is_reached, object_at, put_field, root}
use Rattle.ledger_state.specs.Fields.{field_of}
use Rattle.ledger_state.specs.Locals.{temp_value}
use Rattle.ledger_state.specs.Values.{number_of}
use Rattle.ledger_state.specs.declared.entry.Entry.{Entry}
use Rattle.ledger_state.specs.declared.entry.LeakWord.TheVariants as words
use Rattle.ledger_state.specs.declared.entry.Owner.{Owner}
use Rattle.ledger_state.specs.declared.entry.Owner.TheVariants as owners
use Rattle.ledger_state.specs.declared.object.Link.{Link}
use Rattle.ledger_state.specs.declared.object.Object.{Object}
use Rattle.ledger_state.specs.declared.value.Value.{Value}
use Rattle.ledger_state.specs.declared.value.Value.TheVariants as values
use Rattle.ledger_obligations.specs.Obligations.{displaced, emptied, finished_in, given_up, holder_roots, is_field, is_library_owner, is_unmet, may_move, moved_in, reset_in, roots_where, stored_owning, type_of_field}
use Rattle.ledger_steps.specs.Entries.{leak_entries, owner_entries, reset_entries}
use Rattle.content_laws.specs.Configuration.{Frame, held_by}
use Rattle.content_laws.specs.Choosing.{frame_steps}
use Rattle.content_laws.specs.LedgerFramesFrames.{frame_after}
use Rattle.ledger_steps.specs.declared.store.Store.{Store}
use Rattle.ledger_steps.specs.Effects.{Effect, left}
use Rattle.ledger_steps.specs.InnerSteps.{displaced_entries, heap_stored, inner, is_bound, owning_lines, store_entries, store_into, store_unless}
use Rattle.ledger_state.specs.Leaks.{is_leak}
use Rattle.content_laws.specs.Heaps.{GoesOn, HasEarlierLinks, KeepsLinks}
use Rattle.content_laws.proofs.LibraryCallLaws.{owner_lines_leak_nothing, reset_lines_leak_nothing, roots_go_on-value}
use Rattle.content_laws.proofs.ObjectLaws.{goes_on_self}
use Rattle.content_laws.specs.Stores.{IsDisplaced, IsMovedIn, IsStored}
use Rattle.content_laws.proofs.StoredObjects.{displaced_leaks, moved_back, moved_links, moved_takes, stored_count, stored_goes_on, unfinished_stays}
use Rattle.content_laws.specs.Chains.{Ends, HaveEnds, IsLast, ends_here, of_field}
use Rattle.content_laws.specs.Agreement.{Agrees, HasMadeClasses, IsAwaited, IsTracked, Stands, Tracks, is_answering}
use Rattle.content_laws.specs.Sight.{AllActInSight}
use Rattle.content_laws.specs.Steps.{RootsStay}
use Rattle.content_laws.proofs.Chains.{IsOwnedAs, ends_on, given_up_last, owned_is_finished}
use Rattle.content_laws.proofs.Landing.{landed, no_leak_in_both}
use Rattle.soundness_laws.proofs.MadeClasses.{classes_on}
use Rattle.content_laws.proofs.Stacks.{KeepsClasses, called_on}
use Rattle.content_laws.proofs.Stores.{store_fits, tracks_store}
use Rattle.content_laws.proofs.Tracking.{stack_tracks}
use Rattle.content_laws.proofs.Unmet.{may_go}
use Rattle.content_laws.specs.FieldContents.{AreUnfinished, FieldsOwn}
use Rattle.content_laws.specs.Frames.{HaveTargets}
use Rattle.content_laws.specs.Holders.{HoldersAreUnlinked, IsWithin, by_field, itself}
use Rattle.content_laws.specs.PlaceFacts.{AreWaiting}
use Rattle.content_laws.specs.PlainForms.{HasPlainForms}
use Rattle.content_laws.specs.Ranges.{LocalsInRange}
use Rattle.content_laws.proofs.ResetHeaps.{IsResetOf, reset_forth, reset_stays, reset_was}
use Rattle.content_laws.proofs.RootLaws.{one_object, root_itself}
use Rattle.content_laws.proofs.StoreResets.{moves_on, resets, store_is_up, store_resets, store_was_up}
use Rattle.content_laws.proofs.Tops.{no_way_round}
use Rattle.content_laws.proofs.WaysUp.{within_further}
use Rattle.rlc_base.proofs.SetLaws.{within_self}
use Rattle.soundness_laws.proofs.LentTargets.{IsFieldsOrBelow, lent_awaited, lent_up}
use Rattle.soundness_laws.specs.Supports.{IsLentHolder, StoresWell}

-- the type of a field, in the words of the rules and in those of the machine
same_type : (p : Program) (x : Option Field) → must_of_optional p (signatures.type_of_field x) ≡ must_of_type p (type_of_field x)
same_type p None = refl
same_type p (Some f) = refl

-- what may move is finished
finished_by : (p : Program) (t : VType) (x : Object) → may_move p t x ≡ true → x.finished ≡ true
finished_by p t x may =
    (and_parts x.finished (not (is_library_owner x.owner)) (and_parts (x.finished && not (is_library_owner x.owner)) (set.is_subset (must_of p x.class) (must_of_type p t)) may).0).0

-- what is within an object that has an obligation, so that fields own it, has one
heavy_up : (p : Program) (h : HeapContents) → HoldersAreUnlinked (is_heavy_class p) h → (a b : ℕ) → IsWithin h a b → (x z : Object) → object_at h a ≡ Some x → is_heavy_class p x.class ≡ true → object_at h b ≡ Some z → is_heavy_class p z.class ≡ true
heavy_up p h holders a _ (itself o) x z at heavy there = ap (is_heavy_class p) (ap (λ (u : Object). u.class) (one_object z x (object_at h o) there at)) ∙ heavy
heavy_up p h holders a b (by_field o v _ g u at' owned rest) x z at heavy there =
    let holder = holders o x v g at heavy (ap (λ (t : Object). t.owner) (one_object x u (object_at h o) at at') ∙ owned) in
    heavy_up p h holders v b rest holder.0 z holder.1 holder.3 there

module _ (p : Program) (ac : Accept p) (forms : HasPlainForms p) (fr : Frame) (frs : List Frame) (h : HeapContents) (es : List Entry) (agrees : Agrees p (fr ∷ frs) h es) (i : ℕ) (s : Step)
    (here : slice_get (frame_steps p fr) i ≡ Some s) (f : FieldId) (d : ℕ) (is : s.action ≡ actions.PutOwn f d) (v : Value) (good : StoresWell p h fr f d)
    (kind : (good.object.finished ≡ false) ⊎ IsLentHolder p h fr frs d f good.holder good.object) (targets : HaveTargets p frs) (old : ℕ → Bool) (waiting : AreWaiting p h old frs) (unready : AreUnfinished p h frs)
    (lower : All (λ (u : Frame). LocalsInRange h u.locals) frs) (content : FieldsOwn p h) (holders : HoldersAreUnlinked (is_heavy_class p) h) (sight : AllActInSight p h frs) where
  abbrev after : Frame
  after = frame_after p h fr s v

  abbrev value : Value
  value = temp_value fr.locals d

  abbrev w : ℕ
  w = good.holder

  -- the value is the aliased argument of the constructor
  abbrev bound : Bool
  bound = is_bound h (method_at p fr.method) fr.locals value

  abbrev heap : HeapContents
  heap = stored_owning p h w f bound value

  -- the heap when the value has moved, before the reset
  abbrev moved : HeapContents
  moved = moved_in p h w f bound value

  abbrev roots : List ℕ
  roots = holder_roots p h w f bound value

  reset_is : IsResetOf p moved roots moved heap
  reset_is = store_resets p h w f bound value

  st : Stands p fr
  st = agrees.standing.0

  -- each object was there
  record WasThere (n : ℕ) (y : Object) : Type 0 where
    before : Object
    between : Object
    was : object_at h n ≡ Some before
    stored : IsStored p h w f value n before between
    there : object_at moved n ≡ Some between
    class : y.class ≡ between.class
    link : y.link ≡ between.link
    finished : y.finished ≡ between.finished
    owner : y.owner ≡ between.owner

  was_there : (n : ℕ) (y : Object) → object_at heap n ≡ Some y → WasThere n y
  was_there n y at =
      let z = reset_was p moved roots moved heap reset_is n y at in
      let x = moved_back p h w f value bound n z.0 z.1 in
      record { before = x.0; between = z.0; was = x.1; stored = x.2; there = z.1; class = z.2; link = z.3; finished = z.4; owner = z.5 }

  moved_goes : (n : ℕ) (y : Object) → (t : WasThere n y) → GoesOn t.before t.between
  moved_goes n y t = stored_goes_on p h w f value n t.before t.between t.stored

  forth : (n : ℕ) (x : Object) → object_at h n ≡ Some x → (y : Object) × (object_at heap n ≡ Some y) × WasThere n y
  forth n x before =
      let z = moves_on p h w f bound value n x before in
      let y = reset_in p moved roots n z.0 in
      let at = reset_forth p moved roots moved heap reset_is n z.0 z.1 in
      (y, at, was_there n y at)

  links : HasEarlierLinks heap
  links n y l now some =
      let t = was_there n y now in
      let it = moved_links p h w f bound value agrees.links n t.between l t.there (sym t.link ∙ some) in
      record { there = it.there; before = it.before; owner = t.owner ∙ it.owner; finished = t.finished ∙ it.finished }

  keeps_links : KeepsLinks h heap
  keeps_links n x before =
      let y = forth n x before in
      (y.0, y.1, y.2.link ∙ (moved_goes n y.0 y.2).link ∙ ap (λ (u : Object). u.link) (one_object y.2.before x (object_at h n) y.2.was before))

  stays : (n : ℕ) (x : Object) → object_at h n ≡ Some x → RootsStay h heap n
  stays n x before u root = roots_go_on-value h heap u n x agrees.links keeps_links root before

  -- what the field gives up is met
  not_given_up : (n : ℕ) (x y : Object) → object_at h n ≡ Some x → is_unmet y ≡ true → IsDisplaced p h w f value n x → y ≡ given_up x → ⊥
  not_given_up n x y before unmet gone same = true≢false (sym (sym (ap is_unmet same) ∙ unmet) ∙ good.met n x before gone)

  -- ---- what the reset reaches

  -- a holder that is not finished is not reset
  lent_by : (n : ℕ) → is_reached moved roots n ≡ true → IsLentHolder p h fr frs d f w good.object
  lent_by n reached = elim kind [
    | inl unfinished ↦ absurd (true≢false (sym (subst (λ (b : Bool). is_reached moved (roots_where b moved w) n ≡ true) (unfinished_stays p h w f value bound (field_of p h (values.Object w) f) (ap finished_in good.there ∙ unfinished)) reached)))
    | inr lent ↦ lent
  ]

  -- what moves in is not above a holder that is lent
  not_above : IsLentHolder p h fr frs d f w good.object → (n : ℕ) (x : Object) → object_at h n ≡ Some x → IsMovedIn p h f value n x → IsWithin h w n → ⊥
  not_above lent n x at moves up =
      by (lent_up p h agrees.ends n x at (finished_by p (type_of_field (field_at p f)) x moves.may) frs unready w good.object good.there lent.lent up)
      (lent.mine n x at moves (heavy_up p h holders w n up good.object x good.there lent.heavy at))
    where
      by : IsFieldsOrBelow frs x.owner → (x.owner ≡ owners.Frame (length frs + 1)) ⊎ (x.owner ≡ owners.Field w f) → ⊥
      by owner (inr held) = no_way_round h agrees.ends n w f x at held up
      by (inl frame) (inl own) = let less = frame.2 in let same : frame.0 ≡ length frs + 1 = (let both : owners.Frame frame.0 ≡ owners.Frame (length frs + 1) = sym frame.1 ∙ own in cc) in omega (arith, same, less)
      by (inr field) (inl own) = let never : owners.Field field.0 field.1 ≡ owners.Frame (length frs + 1) = sym field.2 ∙ own in cc

  abbrev IsSomeones : ℕ → Object → Type 0
  IsSomeones n y = ((j : ℕ) × (y.owner ≡ owners.Frame j) × IsTracked p heap (after ∷ frs) n y j) ⊎ ((u : ℕ) × (g : FieldId) × (y.owner ≡ owners.Field u g))

  -- it is that of a frame below, which tracks it, or of a field
  module _ (n : ℕ) (y : Object) (at : object_at heap n ≡ Some y) (free : y.link ≡ None) (reached : is_reached moved roots n ≡ true) where
    lent : IsLentHolder p h fr frs d f w good.object
    lent = lent_by n reached

    t : WasThere n y
    t = was_there n y at

    goes : GoesOn t.before t.between
    goes = moved_goes n y t

    alone : t.between.link ≡ None
    alone = sym t.link ∙ free

    root_moved : root moved n ≡ n
    root_moved = root_itself moved n t.between t.there alone

    risen : (resets p h w f bound value ≡ true) × IsWithin moved w (root moved n) × (finished_in (object_at moved (root moved n)) ≡ true)
    risen = store_is_up p h w f bound value agrees.links good.object good.there lent.single lent.finished (is_heavy_class p) holders lent.heavy n reached

    was_up : IsWithin h w n
    was_up = subst (IsWithin h w) (root_itself h n t.before t.was (sym goes.link ∙ alone)) (store_was_up p h w f bound value agrees.links good.object good.there lent.single lent.finished (is_heavy_class p) holders lent.heavy n t.before t.was reached)

    done : t.before.finished ≡ true
    done = sym goes.finished ∙ sym (ap finished_in (ap (object_at moved) root_moved ∙ t.there)) ∙ risen.2

    heavy : is_heavy_class p t.before.class ≡ true
    heavy = heavy_up p h holders w n was_up good.object t.before good.there lent.heavy t.was

    class : y.class ≡ t.before.class
    class = t.class ∙ goes.class

    bounded : set.is_subset y.must (must_of p y.class) ≡ true
    bounded =
        let turn : reset_in p moved roots n t.between ≡ emptied p true t.between = rw reached (ap (λ (c : Bool). emptied p c t.between) (ap (λ (k : ℕ). nat_eq k n) root_moved ∙ eq-eqb n n refl)) in
        let same : y ≡ emptied p true t.between = (let both : Some y ≡ Some (reset_in p moved roots n t.between) = sym at ∙ reset_forth p moved roots moved heap reset_is n t.between t.there in (let one : y ≡ reset_in p moved roots n t.between = cc in one)) ∙ turn in
        ap (λ (u : Names). set.is_subset u (must_of p y.class)) (ap (λ (u : Object). u.must) same ∙ ap (must_of p) (sym (ap (λ (u : Object). u.class) same))) ∙ within_self (must_of p y.class)

    owner_of : IsFieldsOrBelow frs t.before.owner
    owner_of = lent_up p h agrees.ends n t.before t.was done frs unready w good.object good.there lent.lent was_up

    below : (j : ℕ) → j ≤ length frs → IsAwaited p heap frs n y j → IsTracked p heap (after ∷ frs) n y j
    below j low awaited = go (nat_eq (length frs + 1) j) refl
      where
        go : (b : Bool) → nat_eq (length frs + 1) j ≡ b → MatchBool b (Tracks p heap after n y) (IsAwaited p heap frs n y j)
        go true here' = absurd (let same = eqb-true (length frs + 1) j here' in omega (arith, same, low))
        go false other = awaited

    by_owner : y.owner ≡ t.before.owner → IsSomeones n y
    by_owner same = elim owner_of [
      | inl frame ↦ inl (
        frame.0,
        same ∙ frame.1,
        below frame.0 frame.2
            (lent_awaited p ac forms h heap agrees.ends agrees.links content holders n t.before y t.was heavy done (stays n t.before t.was) class bounded frame.0 frame.1 fr frs agrees.standing.1 targets agrees.stacked old waiting lower unready sight
            w good.object good.there lent.lent was_up),
      )
      | inr field ↦ inr (field.0, field.1, same ∙ field.2)
    ]

    someones : IsSomeones n y
    someones = by t.stored
      where
        by : IsStored p h w f value n t.before t.between → IsSomeones n y
        by (inl same) = by_owner (t.owner ∙ ap (λ (u : Object). u.owner) same)
        by (inr (inl gone)) = absurd (no_way_round h agrees.ends n w f t.before t.was gone.0.owner was_up)
        by (inr (inr into)) = absurd (not_above lent n t.before t.was into.0 was_up)

  -- ---- what the reset does not reach

  answered : (n : ℕ) (y : Object) → object_at heap n ≡ Some y → y.link ≡ None → is_unmet y ≡ true → is_answering y.owner ≡ true
  answered n y at free unmet = go (is_reached moved roots n) refl
    where
      by : (x : Object) × (object_at h n ≡ Some x) × IsStored p h w f value n x y → is_answering y.owner ≡ true
      by (x, before, inl same) = ap (λ (z : Object). is_answering z.owner) same ∙ agrees.answered n x before (sym (ap (λ (z : Object). z.link) same) ∙ free) (sym (ap is_unmet same) ∙ unmet)
      by (x, before, inr (inl gone)) = absurd (not_given_up n x y before unmet gone.0 gone.1)
      by (x, before, inr (inr into)) = ap (λ (z : Object). is_answering z.owner) into.1

      go : (b : Bool) → is_reached moved roots n ≡ b → is_answering y.owner ≡ true
      go true reached = elim (someones n y at free reached) [ inl frame ↦ ap is_answering frame.1 | inr field ↦ ap is_answering field.2 ]
      go false out = by (moved_back p h w f value bound n y (reset_stays p moved roots moved heap reset_is n y out at))

  -- the object of a fact that has the value moves, so it is the frame's no more
  top : (n j : ℕ) (x : Object) → object_at h n ≡ Some x → object_at moved n ≡ Some x → is_unmet x ≡ true → x.owner ≡ owners.Frame j → Tracks p h fr n x → Tracks p heap after n x
  top n j x before now unmet owner t = go (has t.fact.places (places.Temp d)) refl
    where
      moves : has t.fact.places (places.Temp d) ≡ true → ⊥
      moves has' =
          let fit = store_fits p ac h fr st i s here f d is n x t unmet has' in
          let may : may_move p (type_of_field (field_at p f)) x ≡ true =
          may_go p (type_of_field (field_at p f)) x j unmet owner (ap (set.is_subset (must_of p x.class)) (sym (same_type p (field_at p f))) ∙ fit.1) in
          let free : bound ≡ false = good.free n x t unmet has' in
          let never : owners.Frame j ≡ owners.Field w f =
          sym owner ∙ moved_takes p h w f value n x x fit.0 before may (subst (λ (b : Bool). object_at (moved_in p h w f b value) n ≡ Some x) free now) in
          cc

      go : (b : Bool) → has t.fact.places (places.Temp d) ≡ b → Tracks p heap after n x
      go true has' = absurd (moves has')
      go false other = tracks_store p ac h fr st i s here f d is n x t heap v x (stays n x before) (goes_on_self x) other

  -- a frame owns nothing that is linked
  owned_free : (n j : ℕ) (y : Object) → object_at heap n ≡ Some y → y.owner ≡ owners.Frame j → y.link ≡ None
  owned_free n j y at owner = go y.link refl
    where
      go : (l : Option Link) → y.link ≡ l → y.link ≡ None
      go None none = none
      go (Some l) some = absurd (let never : owners.Frame j ≡ owners.Unowned = sym owner ∙ (links n y l at some).owner in cc)

  tracked : (n : ℕ) (y : Object) (j : ℕ) → object_at heap n ≡ Some y → is_unmet y ≡ true → y.owner ≡ owners.Frame j → IsTracked p heap (after ∷ frs) n y j
  tracked n y j at unmet owner = go (is_reached moved roots n) refl
    where
      by : object_at moved n ≡ Some y → (x : Object) × (object_at h n ≡ Some x) × IsStored p h w f value n x y → IsTracked p heap (after ∷ frs) n y j
      by now (x, before, inl same) =
          let unmet' : is_unmet x ≡ true = sym (ap is_unmet same) ∙ unmet in
          let owner' : x.owner ≡ owners.Frame j = sym (ap (λ (z : Object). z.owner) same) ∙ owner in
          subst (λ (z : Object). IsTracked p heap (after ∷ frs) n z j) (sym same)
          (stack_tracks p h heap fr after frs n x x j (stays n x before) (goes_on_self x) (top n j x before (now ∙ ap Some same) unmet' owner') (agrees.tracked n x j before unmet' owner'))
      by now (x, before, inr (inl gone)) = absurd (not_given_up n x y before unmet gone.0 gone.1)
      by now (x, before, inr (inr into)) = absurd (let never : owners.Field w f ≡ owners.Frame j = sym (ap (λ (z : Object). z.owner) into.1) ∙ owner in cc)

      go : (b : Bool) → is_reached moved roots n ≡ b → IsTracked p heap (after ∷ frs) n y j
      go true reached = elim (someones n y at (owned_free n j y at owner) reached) [
        | inl it ↦ subst (λ (c : ℕ). IsTracked p heap (after ∷ frs) n y c) (let both : owners.Frame it.0 ≡ owners.Frame j = sym it.1 ∙ owner in (let one : it.0 ≡ j = cc in one)) it.2
        | inr field ↦ absurd (let never : owners.Field field.0 field.1 ≡ owners.Frame j = sym field.2 ∙ owner in cc)
      ]
      go false out = let now = reset_stays p moved roots moved heap reset_is n y out at in by now (moved_back p h w f value bound n y now)

  keeps : KeepsClasses h heap
  keeps = record {
    count = (let same = stored_count p h w f value bound in omega (arith, same));
    class = λ n y at small. (let t = was_there n y at in (t.before, t.was, t.class ∙ (moved_goes n y t).class));
  }

  classes : HasMadeClasses p heap
  classes = classes_on p h heap agrees.classes (λ n y at. (let t = was_there n y at in inl (t.before, t.was, t.class ∙ (moved_goes n y t).class)))

  -- ---- owners

  owner_stays : (n : ℕ) (y : Object) (t : WasThere n y) (x : Object) → object_at h n ≡ Some x → t.between ≡ t.before → y.owner ≡ x.owner
  owner_stays n y t x at same = t.owner ∙ ap (λ (u : Object). u.owner) (same ∙ one_object t.before x (object_at h n) t.was at)

  -- the ways up from a holder that is lent end, as they did
  module _ (lent : IsLentHolder p h fr frs d f w good.object) where
    way_ends : (n : ℕ) (o : Owner) → Ends h o → (x : Object) → object_at h n ≡ Some x → x.owner ≡ o → IsWithin h w n → Ends heap o
    way_ends n _ (ends_here o is') x at own up = ends_here o is'
    way_ends n _ (of_field u g z at' rest) x at own up =
        let further : IsWithin h w u = within_further h w n u up (by_field n u u g x at own (itself u)) in
        let y = forth u z at' in
        of_field u g y.0 y.1 (by y.0 y.2 further y.2.stored (way_ends u z.owner rest z at' refl further))
      where
        by : (y : Object) → (t : WasThere u y) → IsWithin h w u → IsStored p h w f value u t.before t.between → Ends heap z.owner → Ends heap y.owner
        by y t further (inl same) on = subst (Ends heap) (sym (owner_stays u y t z at' same)) on
        by y t further (inr (inl gone)) on = ends_here y.owner (subst IsLast (sym (t.owner ∙ ap (λ (c : Object). c.owner) gone.1)) (given_up_last t.before))
        by y t further (inr (inr into)) on = absurd (not_above lent u t.before t.was into.0 further)

    holder_way : (y : Object) → (t : WasThere w y) → Ends heap y.owner
    holder_way y t = by t.stored
      where
        by : IsStored p h w f value w t.before t.between → Ends heap y.owner
        by (inl same) = subst (Ends heap) (sym (owner_stays w y t good.object good.there same)) (way_ends w good.object.owner (agrees.ends.ends w good.object good.there) good.object good.there refl (itself w))
        by (inr (inl gone)) = ends_here y.owner (subst IsLast (sym (t.owner ∙ ap (λ (c : Object). c.owner) gone.1)) (given_up_last t.before))
        by (inr (inr into)) = absurd (not_above lent w t.before t.was into.0 (itself w))

  -- where the holder is not finished, no field owns it
  holder_last : good.object.finished ≡ false → (y : Object) → (t : WasThere w y) → Ends heap y.owner
  holder_last unfinished y t = by t.stored
    where
      same_object : t.before ≡ good.object
      same_object = one_object t.before good.object (object_at h w) t.was good.there

      by : IsStored p h w f value w t.before t.between → Ends heap y.owner
      by (inl same) = ends_here y.owner (subst IsLast (sym (owner_stays w y t good.object good.there same ∙ agrees.ends.unfinished w good.object good.there unfinished)) tt)
      by (inr (inl gone)) = ends_here y.owner (subst IsLast (sym (t.owner ∙ ap (λ (c : Object). c.owner) gone.1)) (given_up_last t.before))
      by (inr (inr into)) = absurd (true≢false (sym (finished_by p (type_of_field (field_at p f)) t.before into.0.may) ∙ ap (λ (c : Object). c.finished) same_object ∙ unfinished))

  owned : (n : ℕ) (y : Object) → (t : WasThere n y) → IsOwnedAs h heap n y
  owned n y t = by t.stored
    where
      field_here : t.before.owner ≡ owners.Field w f → is_field t.before.owner w f ≡ true
      field_here is' = ap (λ (o : Owner). is_field o w f) is' ∙ and_from (nat_eq w w) (nat_eq f.0 f.0) (eq-eqb w w refl) (eq-eqb f.0 f.0 refl)

      by : IsStored p h w f value n t.before t.between → IsOwnedAs h heap n y
      by (inl same) = inr (inl (t.before, t.was, (t.owner ∙ ap (λ (z : Object). z.owner) same, t.finished ∙ ap (λ (z : Object). z.finished) same)))
      by (inr (inl gone)) = inl (
        subst IsLast (sym (t.owner ∙ ap (λ (z : Object). z.owner) gone.1)) (given_up_last t.before),
        inl (t.finished ∙ ap (λ (z : Object). z.finished) gone.1 ∙ owned_is_finished h agrees.ends n t.before (λ o. is_field o w f) refl t.was (field_here gone.0.owner)),
      )
      by (inr (inr into)) =
          let z = forth w good.object good.there in
          inr (inr (record {
            holder = w;
            field = f;
            owner = t.owner ∙ ap (λ (u : Object). u.owner) into.1;
            finished = t.finished ∙ ap (λ (u : Object). u.finished) into.1 ∙ finished_by p (type_of_field (field_at p f)) t.before into.0.may;
            object = z.0;
            there = z.1;
            ends = elim kind [ inl unfinished ↦ holder_last unfinished z.0 z.2 | inr lent ↦ holder_way lent z.0 z.2 ];
          }))

  ends : HaveEnds heap
  ends = ends_on h heap agrees.ends keeps.count (λ n y at. owned n y (was_there n y at))

  -- ---- the effect of the step

  abbrev held : List (List Value)
  held = held_by (after ∷ frs)

  abbrev m : Option Method
  m = method_at p fr.method

  abbrev store : Store
  store = record { holder = w; field = f; value = value }

  abbrev by_holder : Option ℕ → Effect
  by_holder n = left p s.pos held (store_entries p s.pos m fr.locals (store_unless None (store_into n f value)) h) (displaced_entries p s.pos (store_unless None (store_into n f value)) h)
      (heap_stored p m fr.locals (store_unless None (store_into n f value)) h)

  abbrev into_field : Bool → Effect
  into_field b = left p s.pos held (if b then owning_lines p s.pos store (is_bound h m fr.locals value) h else []) (if b then leak_entries p words.Overwritten s.pos h (displaced p h w f value) else [])
      (if b then stored_owning p h w f (is_bound h m fr.locals value) value else put_field w f value h)

  effect_is : inner p h fr.method fr.locals None (actions.PutOwn f d) s.pos held ≡ left p s.pos held (owning_lines p s.pos store bound h) [] heap
  effect_is =
      ap by_holder (ap number_of good.this) ∙ ap into_field good.owning
      ∙ ap (λ (leaks : List Entry). left p s.pos held (owning_lines p s.pos store bound h) leaks heap) (displaced_leaks p h w f value words.Overwritten s.pos good.met)

  lines : list_any is_leak (owning_lines p s.pos store bound h) ≡ false
  lines = no_leak_in_both (reset_entries p s.pos (holder_roots p h w f bound value) (moved_in p h w f bound value)) (owner_entries p s.pos (displaced p h w f value) (moved_in p h w f bound value))
      (reset_lines_leak_nothing p s.pos (holder_roots p h w f bound value) (moved_in p h w f bound value)) (owner_lines_leak_nothing p s.pos (displaced p h w f value) (moved_in p h w f bound value))

  pub store_agrees : (e : Option ClassId) → e ≡ None → Stands p after
      → Agrees p (after ∷ frs) (inner p h fr.method fr.locals e s.action s.pos held).heap (es ++ (inner p h fr.method fr.locals e s.action s.pos held).lines)
  store_agrees e normal stands =
      subst (λ (effect : Effect). Agrees p (after ∷ frs) effect.heap (es ++ effect.lines))
      (sym (ap (λ (x : Option ClassId). inner p h fr.method fr.locals x s.action s.pos held) normal ∙ ap (λ (a : Action). inner p h fr.method fr.locals None a s.pos held) is ∙ effect_is))
      (landed p (after ∷ frs) heap es s.pos (owning_lines p s.pos store bound h) (stands, agrees.standing.1) (called_on p h heap keeps fr after frs refl refl agrees.stacked) links ends classes tracked answered
      agrees.no_leak lines)
