-- The step by which a call ends that creates an obligation anew, of the program or of the library: the obligations of the target and of what it is within are created anew. Of each such object the facts
-- of the frame that called know nothing that a reset changes, but for the fact of the target, which goes on anew; and so it is with the frames that wait below.
use Rattle.std.proofs.Common.{◌≡◌, ◌⊎◌, inl, inr, ℕ, ◌+◌, ◌<◌, Bool, true, false, true≢false, not, ◌&&◌, None, Some, List, [], ◌∷◌, length, slice_get, refl, sym, ap, ◌∙◌, subst, arith}
use Rattle.std.specs.FinSet as set
use Rattle.program_model.specs.declared.kinds.BodyId.{BodyId}
use Rattle.program_model.specs.declared.kinds.ClassId.{ClassId}
use Rattle.program_model.specs.declared.kinds.FieldId.{FieldId}
use Rattle.program_model.specs.declared.kinds.MethodId.{MethodId}
use Rattle.program_model.specs.declared.program.Program.{Program}
use Rattle.program_model.specs.Lookups.{method_at, field_at}
use Rattle.ledger_obligations.specs.Bodies.{reset_in}
use Rattle.ledger_obligations.specs.MustCallSets.{Names, is_heavy_class, no_names}
use Rattle.ledger_obligations.specs.Obligations.{is_library_owner, is_unmet}
use Rattle.java_control.specs.Control.{Step}
use Rattle.java_control.specs.PlaceNumbers.{IsSmall}
use Rattle.control_actions.specs.declared.action.Action.{Action}
use Rattle.control_actions.specs.declared.fact.Fact.{Fact}
use Rattle.control_actions.specs.declared.fact.Mode.TheVariants as modes
use Rattle.control_actions.specs.declared.fact.Origin.{Origin}
use Rattle.control_actions.specs.declared.place.Place.{Place}
use Rattle.control_actions.specs.declared.place.Place.TheVariants as places
use Rattle.ownership_rules.specs.Callees.{callee}
use Rattle.ownership_rules.specs.Facts.{PlaceSet, has, is_own, mode_at, need, is_held}
use Rattle.ownership_rules.specs.MovesAtCalls.{moved_at_call}
use Rattle.ownership_rules.specs.declared.moved.Moved.TheVariants as moves
use Rattle.control_actions.specs.declared.fact.Mode.{Mode}
use Rattle.ledger_state.specs.Contents.{HeapContents}
use Rattle.ledger_state.specs.Heaps.{next_number, object_at, root_of}
use Rattle.ledger_state.specs.declared.entry.Owner.{Owner}
use Rattle.ledger_state.specs.declared.entry.Owner.TheVariants as owners
use Rattle.ledger_state.specs.declared.locals.Locals.{Locals}
use Rattle.ledger_state.specs.declared.object.Object.{Object}
use Rattle.ledger_state.specs.declared.value.Value.{Value}
use Rattle.ledger_state.specs.declared.value.Value.TheVariants as values
use Rattle.value_laws.specs.Accept.{Accept}
use Rattle.value_laws.specs.Agreement.{Stands}
use Rattle.value_laws.specs.Anew.{GoesAnew, MayBeAnew, fact_anew, is_target}
use Rattle.value_laws.specs.Chains.{HaveEnds}
use Rattle.value_laws.specs.Choosing.{body_id, frame_steps}
use Rattle.value_laws.specs.Configuration.{Frame}
use Rattle.value_laws.specs.FactGoing.{is_owned_in}
use Rattle.value_laws.specs.FieldContents.{AreNew, AreUnfinished, HaveContents}
use Rattle.value_laws.specs.HeapAnew.{IsEmptied}
use Rattle.value_laws.specs.Holders.{IsWithin, by_field, itself}
use Rattle.value_laws.specs.Outcomes.{IsCallRow}
use Rattle.value_laws.specs.Paths.{Reach, move_of, relation_of}
use Rattle.value_laws.specs.PlaceFacts.{AreCovered, AreWaiting, Covers, IsCovered, IsHeavyObject, IsKeyed, IsOld, IsOwned, IsTrueOf, IsUnowned, OwesOrHolds, OwnersBelow, gives_away, gives_none, is_frame_from, owned, renews_none, unowned, is_lent_place}
use Rattle.value_laws.specs.PlaceRows.{places_after}
use Rattle.value_laws.specs.Places.{place_value}
use Rattle.value_laws.specs.PlainForms.{HasPlainForms}
use Rattle.value_laws.specs.Renewing.{HasInHand, HasOwningField, IsHeldBy, IsLentFrom, IsOwnedByThis, IsWhole, answers_for_fields, fact_as, is_declared_beside, is_renewed, lends_this, makes_alone, renews, reopens}
use Rattle.value_laws.proofs.FrameFollowing.{breaks_nothing}
use Rattle.value_laws.proofs.HeapLaws.{numbers_are_in_range}
use Rattle.value_laws.proofs.Needs.{origin_needs_all}
use Rattle.value_laws.proofs.Ready.{step_there}
use Rattle.value_laws.proofs.Resetting.{answered_target}
use Rattle.value_laws.proofs.RootLaws.{one_object}
use Rattle.value_laws.proofs.SparingCalls.{lent_ends_below, made_open, made_top, not_made_here, owned_apart}
use Rattle.value_laws.proofs.SparingEnds.{made_apart}
use Rattle.value_laws.proofs.Tracking.{same_body}
use Rattle.value_laws.proofs.WaysUp.{StepsUp, ends, finished_on_the_way, goes, steps_up}
use Rattle.covering_laws.proofs.AlikeHeaps.{AreAlike, IsAlike, alike_holders, old_alike}
use Rattle.covering_laws.proofs.GivenArguments.{away_moves}
use Rattle.covering_laws.proofs.HeavyFields.{claims_by, claims_owned, answers_by}
use Rattle.covering_laws.proofs.InFields.{held_by_this}
use Rattle.covering_laws.proofs.Owners.{HoldersStay, KeepsGifts, OwnerGoes, OwnersGo, StaysApart, WaysGo, held_at, left, passed, stays, AllKeepGifts, IsNewTo, from_frame, whole_still}
use Rattle.covering_laws.proofs.ReachedAbove.{IsReachedBy, AllRenewIt, IsOwnedHere, all_renew_it, content_in_hand}
use Rattle.covering_laws.proofs.RenewedOperands.{HoldsLent, step_renews, IsHeldOrLent}
use Rattle.covering_laws.proofs.ResetCovers.{IsRenewed, Turns, bears_before, keyed_same, keyed_unmade, not_lent, owned_anew, same_held, true_anew, unowned_anew, waiting_anew}
use Rattle.covering_laws.proofs.TopSteps.{StopsOwning}
use Rattle.covering_laws.proofs.Waiting.{Carries, KeepsFields, KeepsReady, bore_before}
use Rattle.covering_laws.proofs.WaitingTargets.{target_mode, target_stays, target_temp}
use Rattle.value_laws.proofs.SettledFrames.{AllRenewInHand}
use Rattle.value_laws.proofs.Tops.{no_way_round}
use Rattle.std.proofs.lemmas.Bool.{or_right}

-- what a field owns may owe a call
pub field_owes : (x : Object) (w : ℕ) (f : FieldId) → x.owner ≡ owners.Field w f → not (x.finished && is_library_owner x.owner) ≡ true
field_owes x w f owner = ap (λ (b : Bool). not (x.finished && b)) (ap is_library_owner owner) ∙ none_left x.finished
  where
    none_left : (b : Bool) → not (b && false) ≡ true
    none_left true = refl
    none_left false = refl

-- a fact without names, of which all is needed, is read anew as it is
as_it_is : (p : Program) (g : Origin) (f : Fact) (x : Object) → (f.called ≡ no_names) × (f.full ≡ true) → (anew : Bool) → IsTrueOf p x g (fact_as anew f) → IsTrueOf p x g f
as_it_is p g f x none false truth = truth
as_it_is p g f x none true truth = record {
  finished = truth.finished;
  class = truth.class;
  bounded = truth.bounded;
  need = subst (λ (b : Bool). set.is_subset x.must (need_of b) ≡ true) (sym none.1) truth.need;
  called = ap (λ (names : Names). set.is_subset names x.called) none.0 ∙ truth.called;
}
  where
    need_of : Bool → Names
    need_of b = need g (record f { full = b })

-- the class of an object whose field owns another one declares an owning field
pub content_declares : (p : Program) (frs : List Frame) (h : HeapContents) → HaveContents p frs h → (o : ℕ) (x : Object) (w : ℕ) (f : FieldId) (y : Object) → object_at h o ≡ Some x → is_heavy_class p x.class ≡ true → x.owner ≡ owners.Field w f
    → object_at h w ≡ Some y → HasOwningField p y.class
content_declares p frs h contents o x w f y at heavy own there =
    let c = contents o x w f at (or_right (is_unmet x) (is_heavy_class p x.class) heavy) own in
    (f, c.field, c.declared, c.owning, sym c.class ∙ ap (λ (u : Object). u.class) (one_object c.holder y (object_at h w) c.at there))

-- ---- over a step without its reset, of the frame `fr`, which stands on `frs`

module _ (p : Program) (fr : Frame) (frs : List Frame) (h k : HeapContents) (ways : WaysGo p None (fr ∷ frs) (length frs + 1) h k) (go_on : OwnersGo p None (fr ∷ frs) (length frs + 1) h k) where
  -- a field goes on owning what it owned, where its object was finished, or one of these frames runs on it
  field_by : (a b : Owner) (w : ℕ) (f : FieldId) → a ≡ owners.Field w f → OwnerGoes h None (fr ∷ frs) (length frs + 1) a b → (IsNewTo h (fr ∷ frs) w → ⊥) → b ≡ a
  field_by a b w f is (stays same) other = same
  field_by a b w f is (passed from to low) other = absurd (true≢false (sym from ∙ ap (is_frame_from (length frs + 1)) is))
  field_by a b w f is (left held then' fields news) other = absurd (other (news w (held_at a w f is)))

  pub field_stays : (o : ℕ) (x y : Object) (w : ℕ) (f : FieldId) → object_at h o ≡ Some x → object_at k o ≡ Some y → IsHeavyObject p x → x.owner ≡ owners.Field w f → (z : Object) → object_at h w ≡ Some z → z.finished ≡ true
      → y.owner ≡ x.owner
  field_stays o x y w f before now heavy own z there done = field_by x.owner y.owner w f own (go_on o x y before now heavy.0 heavy.1) (λ new. true≢false (sym done ∙ new.1 z there))

  -- so does a field of the `this` of the frame
  pub this_stays : (o : ℕ) (x y : Object) (w : ℕ) (f : FieldId) → object_at h o ≡ Some x → object_at k o ≡ Some y → IsHeavyObject p x → x.owner ≡ owners.Field w f → fr.locals.this ≡ values.Object w → y.owner ≡ x.owner
  this_stays o x y w f before now heavy own this = field_by x.owner y.owner w f own (go_on o x y before now heavy.0 heavy.1) (λ new. new.0.0 this)

  pub held_stays : (o : ℕ) (x y : Object) → object_at h o ≡ Some x → object_at k o ≡ Some y → IsHeavyObject p x → IsOwnedByThis p fr x.owner → y.owner ≡ x.owner
  held_stays o x y before now heavy held = field_by x.owner y.owner held.holder held.field held.owns (go_on o x y before now heavy.0 heavy.1) (λ new. new.0.0 held.runs)

  -- what a field owns then it owned
  pub field_was : (o : ℕ) (x y : Object) (w : ℕ) (f : FieldId) → object_at h o ≡ Some x → object_at k o ≡ Some y → IsHeavyObject p x → y.owner ≡ owners.Field w f → x.owner ≡ owners.Field w f
  field_was o x y w f before now heavy own = by x.owner y.owner own (go_on o x y before now heavy.0 heavy.1)
    where
      by : (a b : Owner) → b ≡ owners.Field w f → OwnerGoes h None (fr ∷ frs) (length frs + 1) a b → a ≡ owners.Field w f
      by a b is (stays same) = sym same ∙ is
      by a b is (passed from to low) = absurd (let never : None ≡ Some w = to w (held_at b w f is) in cc)
      by a b is (left held then' fields news) = absurd (true≢false (sym (held_at b w f is) ∙ fields w))

  -- so it is with what a frame below owns
  pub frame_was : (o : ℕ) (x y : Object) (i : ℕ) → object_at h o ≡ Some x → object_at k o ≡ Some y → IsHeavyObject p x → i < length frs + 1 → y.owner ≡ owners.Frame i → x.owner ≡ owners.Frame i
  frame_was o x y i before now heavy less own = by x.owner y.owner own (go_on o x y before now heavy.0 heavy.1)
    where
      by : (a b : Owner) → b ≡ owners.Frame i → OwnerGoes h None (fr ∷ frs) (length frs + 1) a b → a ≡ owners.Frame i
      by a b is (stays same) = sym same ∙ is
      by a b is (passed from to low) = absurd (let high = low i is in omega (arith, high, less))
      by a b is (left held then' fields news) = absurd (true≢false (sym (ap (is_frame_from 0) is ∙ from_frame 0 i (omega arith)) ∙ then'))

  -- what is within a finished object stays so, where its class has an obligation
  pub within_stays : (a b : ℕ) (x z : Object) → object_at h a ≡ Some x → is_heavy_class p x.class ≡ true → object_at h b ≡ Some z → z.finished ≡ true → IsWithin h a b → IsWithin k a b
  within_stays _ b x z at heavy there done (itself o) = itself o
  within_stays _ b x z at heavy there done (by_field o v _ f x' at' own rest) =
      let same = one_object x' x (object_at h o) at' at in
      let heavy' : is_heavy_class p x'.class ≡ true = ap (λ (u : Object). is_heavy_class p u.class) same ∙ heavy in
      let y = ways.objects o x' at' in
      let w = ways.unlinked o x' v f at' heavy' own in
      let finished' = finished_on_the_way h o b x' z ways.have.unfinished (by_field o v b f x' at' own rest) at' there done in
      let holder = finished_on_the_way h v b w.0 z ways.have.unfinished rest w.1 there done in
      by_field o v b f y.0 y.1 (field_stays o x' y.0 v f at' y.1 (finished', heavy') own w.0 w.1 holder ∙ own) (within_stays v b w.0 z w.1 w.3 there done rest)

  -- the frames that wait renew the object in the heap then, where each does so that owned it before
  pub renew_it_then : (o : ℕ) (x y : Object) → object_at h o ≡ Some x → object_at k o ≡ Some y → IsHeavyObject p x → (gs : List Frame) → length gs < length frs + 1 → AllKeepGifts p h k gs → AllRenewIt p h gs o x.owner → AllRenewIt p k gs o y.owner
  renew_it_then o x y before now heavy [] less gifts all = tt
  renew_it_then o x y before now heavy (g ∷ gs) less gifts all = (
    λ owned. (gifts.0 o).1 ∙ all.0 (was owned),
    renew_it_then o x y before now heavy gs (omega (arith, less)) gifts.1 all.1,
  )
    where
      was : IsOwnedHere p gs g y.owner → IsOwnedHere p gs g x.owner
      was (inl own) = inl (frame_was o x y (length gs + 1) before now heavy (omega (arith, less)) own)
      was (inr (answers, keeps, c)) = inr (answers, keeps, record { field = c.field; declared = c.declared; holder = c.holder; runs = c.runs; owns = field_was o x y c.holder c.field before now heavy c.owns })

-- ---- the reset

-- the object is the target of the call's reset, or the target is within it
pub record IsRisen (p : Program) (h : HeapContents) (l : Locals) (a : Action) (o : ℕ) : Type 0 where
  pub target : ℕ
  pub object : Object
  pub at : object_at h target ≡ Some object
  pub heavy : IsHeavyObject p object
  pub renews : renews p h l a target ≡ true
  pub within : IsWithin h target o

-- The object `o`, which would be `z`, is `y`, its obligation created anew: it was finished, and where its class has an obligation, it is the target, or the target is within it.
pub record IsTurnedAnew (p : Program) (h : HeapContents) (l : Locals) (a : Action) (o : ℕ) (z y : Object) : Type 0 where
  pub emptied : IsEmptied p z y
  pub was : Object
  pub before : object_at h o ≡ Some was
  pub done : was.finished ≡ true
  pub risen : is_heavy_class p z.class ≡ true → IsRisen p h l a o

-- each root that a place of the heap `j` holds is as it would be in the heap `k`, or is turned anew
abbrev pub AllTurned : Program → HeapContents → HeapContents → HeapContents → Locals → Action → Type 0
AllTurned p h k j l a = (o : ℕ) (y : Object) (v : Value) → root_of j v ≡ Some o → object_at j o ≡ Some y → (z : Object) × (object_at k o ≡ Some z) × IsAlike z y × ((y ≡ z) ⊎ IsTurnedAnew p h l a o z y)

-- `h` is the heap before the step by which the call ends, `k` the heap that it would leave without the reset, and `j` the one that it leaves; `fr` is the frame that called, which stands on `frs`.
-- `gives` says what the call gives away, and `renewed` which facts the frame read anew till then.
module _ (p : Program) (ac : Accept p) (forms : HasPlainForms p) (h k j : HeapContents) (fr after : Frame) (frs : List Frame) (st : Stands p fr) (index : ℕ) (t : Step) (here : slice_get (frame_steps p fr) index ≡ Some t)
    (row : IsCallRow t.action) (same : (v : Value) → root_of j v ≡ root_of k v) (fields : KeepsFields p k j) (alike : AreAlike k j)
    (gives : ℕ → ClassId → Bool) (renewed : ℕ → Bool) (old : ℕ → Bool) (at_step : (o : ℕ) (c : ClassId) → gives o c ≡ true → gives_away p h fr.locals t.action o c ≡ true)
    (read : (o : ℕ) → renewed o ≡ true → (renews p h fr.locals t.action o ≡ true) × (o < next_number h))
    (covered : IsCovered p h gives (λ o owner. renewed o) old frs fr) (holds : HoldsLent p h old frs fr st)
    (ways : WaysGo p None (fr ∷ frs) (length frs + 1) h k) (go_on : OwnersGo p None (fr ∷ frs) (length frs + 1) h k) (others : StaysApart p h k frs fr) (gift : KeepsGifts p h k fr) (gifts : AllKeepGifts p h k frs)
    (carries : Carries h k) (ready : KeepsReady p h k fr)
    (mine : (o : ℕ) (x y : Object) → object_at h o ≡ Some x → object_at k o ≡ Some y → x.finished ≡ true → is_heavy_class p x.class ≡ true → gives_away p h fr.locals t.action o x.class ≡ false
    → x.owner ≡ owners.Frame (length frs + 1) → y.owner ≡ owners.Frame (length frs + 1))
    (later : HaveEnds k) (new : AreNew p (fr ∷ frs)) (unready : AreUnfinished p h (fr ∷ frs)) (unready' : AreUnfinished p k (fr ∷ frs)) (aged : IsOld p k frs after old)
    (opened : reopens (method_at p fr.method) ≡ true → (w : ℕ) (y : Object) → fr.locals.this ≡ values.Object w → object_at h w ≡ Some y → is_heavy_class p y.class ≡ true → OwesOrHolds p h w y → y.link ≡ None → IsWhole p y
    → IsLentFrom p h frs w y.owner)
    (renews' : AllRenewInHand p h frs)
    (declares : (o : ℕ) (x : Object) (w : ℕ) (f : FieldId) (y : Object) → object_at h o ≡ Some x → is_heavy_class p x.class ≡ true → x.owner ≡ owners.Field w f → object_at h w ≡ Some y → HasOwningField p y.class)
    (after_method : after.method ≡ fr.method) (after_this : after.locals.this ≡ fr.locals.this) where
  abbrev at : ℕ
  at = length frs + 1

  -- the fact's place in the frame after the call
  abbrev held_after : PlaceSet → PlaceSet
  held_after held = places_after p st.number t.action t.edge held

  -- how a fact of the frame goes on over the call
  abbrev pub Goes : Origin → Fact → Fact → Type 0
  Goes o f g = (moved_at_call p o t.action t.edge f ≡ moves.Moves → is_owned_in g.mode ≡ false) × (is_target p t.action f.places ≡ true → GoesAnew p st.number o t.action f (places_after p st.number t.action t.edge f.places) g)

  -- a fact of the frame after the call that claims the object claimed it before; or it says that the frame owns it, and no other fact goes on owning it; or it knows of no calls, and all that its
  -- class asks for is needed
  abbrev pub IsFromOwned : ℕ → Origin → Fact → Type 0
  IsFromOwned o origin g =
      ((x : Object) × (object_at h o ≡ Some x) × (c : Covers p h (gives o x.class) (renewed o) old frs fr o x) × IsOwned p h (gives o x.class) (renewed o) old frs fr o x c × (origin ≡ c.origin) × Goes c.origin c.fact g)
      ⊎ ((StopsOwning p h fr old frs gives renewed Goes o × (is_own g.mode ≡ true)) ⊎ ((g.called ≡ no_names) × (g.full ≡ true)))

  abbrev pub IsKeyedAfter : Place → ℕ → Object → Type 0
  IsKeyedAfter q o y =
      ((c : Covers p k false (renewed o) old frs after o y) × (has c.fact.places q ≡ true) × IsOwned p k false (renewed o) old frs after o y c × IsFromOwned o c.origin c.fact)
      ⊎ IsUnowned p k false (renewed o) old frs after q o y

  bore : (o : ℕ) (x z : Object) → object_at h o ≡ Some x → object_at k o ≡ Some z → OwesOrHolds p k o z → OwesOrHolds p h o x
  bore o x z before now owes =
      let c = carries o z now (numbers_are_in_range h o x before).1 in
      let one = one_object c.0 x (object_at h o) c.1 before in
      subst (OwesOrHolds p h o) one (bore_before p h k others.holders o c.0 z c.1 c.3 owes)

  -- the rules let the call create the obligation anew of what a fact of the frame has for the target
  answer : (away anew : Bool) (o : ℕ) (x : Object) (c : Covers p h away anew old frs fr o x) → is_target p t.action c.fact.places ≡ true
      → (m : ℕ) × (reset_in (callee p t.action) ≡ Some m) × MayBeAnew p st.number c.origin t.action m c.fact × (moved_at_call p c.origin t.action t.edge c.fact ≡ moves.Moves → ⊥)
  answer away anew o x c target = elim (answered_target p st.number c.origin t.action t.edge c.fact row target) [
    | inl fault ↦ absurd (breaks_nothing p ac st.number c.origin index (move_of t) c.fact
        (subst (λ (b : BodyId). Reach p b (relation_of p b) c.origin fr.control c.fact) (same_body c.body st.number (body_id p fr.method) c.id st.id) c.reached) (step_there p fr st index t here) fault)
    | inr is ↦ is
  ]

  -- ---- an object that a reset reaches

  module _ (o : ℕ) (x : Object) (before : object_at h o ≡ Some x) (done : x.finished ≡ true) (heavy : is_heavy_class p x.class ≡ true) (owes : OwesOrHolds p h o x) (risen : IsRisen p h fr.locals t.action o) where
    abbrev anew : Bool
    anew = renewed o

    abbrev goal : ℕ
    goal = risen.target

    owes_goal : OwesOrHolds p h goal risen.object
    owes_goal = go (steps_up h goal o risen.within)
      where
        go : StepsUp h goal o → OwesOrHolds p h goal risen.object
        go (ends one) = subst (λ (m : ℕ). OwesOrHolds p h m risen.object) (sym one) (subst (OwesOrHolds p h o) (one_object x risen.object (object_at h o) before (ap (object_at h) (sym one) ∙ risen.at)) owes)
        go (goes v f y there own rest) = inl (field_owes risen.object v f (ap (λ (u : Object). u.owner) (one_object risen.object y (object_at h goal) risen.at there) ∙ own))

    renews_goal : is_renewed p h fr goal ≡ true
    renews_goal = step_renews p h fr index t goal here risen.renews

    pub temp : (d : ℕ) × IsSmall (places.Temp d) × (root_of h (place_value p h fr.method fr.locals (places.Temp d)) ≡ Some goal) × ((held : PlaceSet) → has held (places.Temp d) ≡ true → is_target p t.action held ≡ true)
    temp = target_temp p ac h fr old frs st index t here row goal risen.renews

    -- the frame owns the target, and the fact that says so has it
    abbrev pub OwnsHere : Type 0
    OwnsHere = (c : Covers p h (gives goal risen.object.class) (renewed goal) old frs fr goal risen.object) × (has c.fact.places (places.Temp temp.0) ≡ true)
        × IsOwned p h (gives goal risen.object.class) (renewed goal) old frs fr goal risen.object c × (is_own c.fact.mode ≡ true)

    -- the target is in the frame's hand
    pub hand : OwnsHere ⊎ IsHeldOrLent p h frs fr goal risen.object.owner
    hand = by (covered (places.Temp temp.0) goal risen.object temp.1 refl temp.2 risen.at risen.heavy.1 owes_goal)
      where
        by : IsKeyed p h (gives goal risen.object.class) (renewed goal) old frs fr (places.Temp temp.0) goal risen.object → OwnsHere ⊎ IsHeldOrLent p h frs fr goal risen.object.owner
        by (owned c in' key) = elim (claims_by p (method_at p fr.method) c.origin c.fact key.owning) [
          | inl own ↦ inl (c, in', key, own)
          | inr held ↦ inr (holds goal risen.object risen.at risen.heavy.1 owes_goal (inl risen.heavy.0) renews_goal (gives goal risen.object.class) (renewed goal) c held.0 held.1
              (claims_owned p (method_at p fr.method) c.origin c.fact key.owning).0)
        ]
        by (unowned u) =
            elim (target_mode p ac h fr old frs st index t here row (gives goal risen.object.class) (renewed goal) goal risen.object u.covers (temp.3 u.covers.fact.places u.here)) [
              | inl claimed ↦ absurd (true≢false (sym claimed ∙ u.unowned))
              | inr lends ↦ inr (inl (u.covers.lends lends risen.heavy.0).1)
            ]

    -- what the frame owns so is not given away
    not_given : OwnsHere → gives_away p h fr.locals t.action goal risen.object.class ≡ false
    not_given (c, in', key, own) = go (gives_away p h fr.locals t.action goal risen.object.class) refl
      where
        go : (b : Bool) → gives_away p h fr.locals t.action goal risen.object.class ≡ b → gives_away p h fr.locals t.action goal risen.object.class ≡ false
        go false none = none
        go true is =
            absurd (target_stays p ac h fr old frs st index t here row (gives goal risen.object.class) (renewed goal) goal risen.object c (temp.3 c.fact.places in')
            (away_moves p ac h fr st old frs index t here row (gives goal risen.object.class) (renewed goal) goal risen.object c key risen.heavy.1 is))

    pub its_owner : OwnsHere → risen.object.owner ≡ owners.Frame at
    its_owner owns = owns.2.owner (go (gives goal risen.object.class) refl) owns.3
      where
        go : (b : Bool) → gives goal risen.object.class ≡ b → gives goal risen.object.class ≡ false
        go false none = none
        go true is = absurd (true≢false (sym (at_step goal risen.object.class is) ∙ not_given owns))

    pub in_hand : HasInHand p h (IsLentFrom p h frs) at fr goal risen.object.owner
    in_hand = elim hand [ inl owns ↦ inl (its_owner owns) | inr other ↦ inr other ]

    reached_here : IsReachedBy p h frs o
    reached_here =
        record { mid = fr ∷ []; target = goal; object = risen.object; at = risen.at; heavy = risen.heavy; lent = (renews_goal, in_hand); within = risen.within; new = new; unfinished = unready }

    -- ---- the target in the heap that the step would leave

    next : (y : Object) × (object_at k goal ≡ Some y) × (y.class ≡ risen.object.class) × (risen.object.finished ≡ true → (y.finished ≡ true) × (y.link ≡ risen.object.link))
    next = ways.objects goal risen.object risen.at

    heavy_next : IsHeavyObject p next.0
    heavy_next = ((next.3 risen.heavy.0).0, ap (is_heavy_class p) next.2 ∙ risen.heavy.1)

    -- what the frame does not own keeps its owner
    other_next : IsHeldOrLent p h frs fr goal risen.object.owner → (next.0.owner ≡ risen.object.owner) × IsHeldOrLent p k frs fr goal next.0.owner
    other_next (inl lent) = let kept = others.keeps goal risen.object next.0 risen.at next.1 (inl risen.heavy.0, risen.heavy.1) lent in (kept.0, inl kept.1)
    other_next (inr (inl held)) =
        let stay = held_stays p fr frs h k ways go_on goal risen.object next.0 risen.at next.1 risen.heavy held.1 in (stay, inr (inl (subst (IsHeldBy p fr) (sym stay) held)))
    other_next (inr (inr (inl held))) = (
      stay,
      inr (inr (inl (record {
        holder = held.holder;
        field = held.field;
        owns = stay ∙ held.owns;
        runs = held.runs;
        method = held.method;
        object = y.0;
        at = y.1;
        whole = whole_still p held.object y.0 y.2 (λ was. (y.3 was).0) held.whole;
        unlinked = λ now. link held.object.finished refl now;
        heavy = ap (is_heavy_class p) y.2 ∙ held.heavy;
        lends = (others.keeps held.holder held.object y.0 held.at y.1 (held.whole, held.heavy) held.lends).1;
      }))),
    )
      where
        y : (z : Object) × (object_at k held.holder ≡ Some z) × (z.class ≡ held.object.class) × (held.object.finished ≡ true → (z.finished ≡ true) × (z.link ≡ held.object.link))
        y = ways.objects held.holder held.object held.at

        stay : next.0.owner ≡ risen.object.owner
        stay =
            field_by p fr frs h k ways go_on risen.object.owner next.0.owner held.holder held.field held.owns (go_on goal risen.object next.0 risen.at next.1 risen.heavy.0 risen.heavy.1)
            (λ new'. new'.0.0 held.runs)

        link : (b : Bool) → held.object.finished ≡ b → y.0.finished ≡ true → y.0.link ≡ None
        link true was now = (y.3 was).1 ∙ held.unlinked was
        link false open' now = elim (ways.unmade held.holder held.object y.0 held.at y.1 open') [ inl still ↦ absurd (true≢false (sym now ∙ still.0)) | inr away ↦ absurd (away.0.0 held.runs) ]
    other_next (inr (inr (inr made))) = absurd (true≢false (sym risen.heavy.0 ∙ made_open p h ways.have fr frs unready goal risen.object risen.at made.0))

    in_hand_next : HasInHand p k (IsLentFrom p k frs) at fr goal next.0.owner
    in_hand_next = elim hand [
      | inl owns ↦ inl (mine goal risen.object next.0 risen.at next.1 risen.heavy.0 risen.heavy.1 (not_given owns) (its_owner owns))
      | inr other ↦ inr (other_next other).1
    ]

    within_next : IsWithin k goal o
    within_next = within_stays p fr frs h k ways go_on goal o risen.object x risen.at risen.heavy.1 before done risen.within

    reached : IsReachedBy p k frs o
    reached = record {
      mid = fr ∷ [];
      target = goal;
      object = next.0;
      at = next.1;
      heavy = heavy_next;
      lent = ((gift goal).1 ∙ renews_goal, in_hand_next);
      within = within_next;
      new = new;
      unfinished = unready';
    }

    -- each frame below that owns the object renews it
    renewed_below : (z : Object) → object_at k o ≡ Some z → AllRenewIt p k frs o z.owner
    renewed_below z now =
        renew_it_then p fr frs h k ways go_on o x z before now (done, heavy) frs (omega arith) gifts
        (all_renew_it p h ways.have ways.unlinked o x before (done, heavy) (λ w f y own there. declares o x w f y before heavy own there) frs reached_here renews')

    -- ---- the fact that claims the object

    -- where the object is the target, and it is not lent, a fact that claims it has the target
    has_target : goal ≡ o → (IsLentFrom p h frs o x.owner → ⊥) → (c : Covers p h (gives o x.class) anew old frs fr o x) → IsOwned p h (gives o x.class) anew old frs fr o x c → is_target p t.action c.fact.places ≡ true
    has_target one no_lent c key = elim (key.others (places.Temp temp.0) temp.1 refl (temp.2 ∙ ap Some one)) [
      | inl in' ↦ temp.3 c.fact.places in'
      | inr u ↦ absurd (elim (target_mode p ac h fr old frs st index t here row (gives o x.class) anew o x u.covers (temp.3 u.covers.fact.places u.here)) [
        | inl claimed ↦ true≢false (sym claimed ∙ u.unowned)
        | inr lends ↦ no_lent (u.covers.lends lends done).1
      ])
    ]

    own_after : (m : Mode) (held : PlaceSet) → is_own m ≡ true → is_own (mode_at m held) ≡ true
    own_after modes.Own held own = refl
    own_after m held own = absurd (true≢false (sym own))

    -- where the frame owns the object after the call, it is the target
    module _ (z : Object) (now : object_at k o ≡ Some z) (own : z.owner ≡ owners.Frame at) where
      owned_goal : goal ≡ o
      owned_goal = owned_apart p k later fr frs new unready' o goal z next.0 now own next.1 in_hand_next (inl within_next)

      owned_next : next.0.owner ≡ owners.Frame at
      owned_next = ap (λ (u : Object). u.owner) (one_object next.0 z (object_at k o) (ap (object_at k) (sym owned_goal) ∙ next.1) now) ∙ own

      owned_not_lent : IsLentFrom p h frs o x.owner → ⊥
      owned_not_lent lent = not_lent p h frs o x.owner (sym (others.keeps o x z before now (inl done, heavy) lent).0 ∙ own) lent

      -- a fact goes on owning it
      goes_on : StopsOwning p h fr old frs gives renewed Goes o → ⊥
      goes_on stops = elim hand [
        | inl owns ↦ still (subst (λ (m : ℕ). StopsOwning p h fr old frs gives renewed Goes m) (sym owned_goal) stops) owns
        | inr other ↦ not_own (sym (other_next other).0 ∙ owned_next) other
      ]
        where
          not_own : risen.object.owner ≡ owners.Frame at → IsHeldOrLent p h frs fr goal risen.object.owner → ⊥
          not_own its (inl lent) = not_lent p h frs goal risen.object.owner its lent
          not_own its (inr (inl held)) = let never : owners.Field held.1.holder held.1.field ≡ owners.Frame at = sym held.1.owns ∙ its in cc
          not_own its (inr (inr (inl held))) = let never : owners.Field held.holder held.field ≡ owners.Frame at = sym held.owns ∙ its in cc
          not_own its (inr (inr (inr made))) = let never : ◌≡◌ {A = Owner} owners.Unowned (owners.Frame at) = sym made.1 ∙ its in cc

          still : StopsOwning p h fr old frs gives renewed Goes goal → OwnsHere → ⊥
          still ends' (c, in', key, own') =
              true≢false (sym (own_after c.fact.mode (held_after c.fact.places) own')
              ∙ ends' risen.object risen.at (places.Temp temp.0) temp.1 temp.2 c key own' (fact_anew c.fact (held_after c.fact.places))
              ((λ moved. absurd (stays' moved)), (λ is. record { position = answer'.0; target = answer'.1; may = answer'.2; anew = refl })))
            where
              stays' : moved_at_call p c.origin t.action t.edge c.fact ≡ moves.Moves → ⊥
              stays' = target_stays p ac h fr old frs st index t here row (gives goal risen.object.class) (renewed goal) goal risen.object c (temp.3 c.fact.places in')

              answer' : (m : ℕ) × (reset_in (callee p t.action) ≡ Some m) × MayBeAnew p st.number c.origin t.action m c.fact × (moved_at_call p c.origin t.action t.edge c.fact ≡ moves.Moves → ⊥)
              answer' = answer (gives goal risen.object.class) (renewed goal) goal risen.object c (temp.3 c.fact.places in')

    -- so it is where a field of `this` owns it, for which the frame answers
    module _ (answers : answers_for_fields (method_at p fr.method) ≡ true) (held : IsOwnedByThis p fr x.owner) where
      held_not_lent : makes_alone (method_at p fr.method) ≡ true → IsLentFrom p h frs o x.owner → ⊥
      held_not_lent alone lent =
          not_made_here p h ways.have fr frs new unready o o x (lent_ends_below p h ways.have frs unready.1 o x before lent) before (alone, held) (made_top p h ways.have fr frs unready o x before (alone, held))

      module _ (opens : reopens (method_at p fr.method) ≡ true) where
        this : (y : Object) × (object_at h held.holder ≡ Some y) × (y.link ≡ None) × (is_heavy_class p y.class ≡ true)
        this = ways.unlinked o x held.holder held.field before heavy held.owns

        bears : OwesOrHolds p h held.holder this.0
        bears = inr (inl (o, x, before, done, heavy, held_at x.owner held.holder held.field held.owns))

        whole : IsWhole p this.0
        whole = inr (declares o x held.holder held.field this.0 before heavy held.owns this.1)

        lends : IsLentFrom p h frs held.holder this.0.owner
        lends = opened opens held.holder this.0 held.runs this.1 this.3 bears this.2 whole

        content_goal : goal ≡ o
        content_goal =
            content_in_hand p h ways.have fr frs o x before ways.unlinked held.holder held.field held.owns held.runs this.0 this.1 (whole, this.3) this.2 bears opens lends goal risen.object risen.at risen.within renews' in_hand

        -- one object is lent
        content_not_lent : IsLentFrom p h frs o x.owner → ⊥
        content_not_lent lent = no_way_round h ways.have o held.holder held.field x before held.owns (subst (λ (m : ℕ). IsWithin h m o) (lent_once frs renews' lent lends) (itself o))
          where
            lent_once : (gs : List Frame) → AllRenewInHand p h gs → IsLentFrom p h gs o x.owner → IsLentFrom p h gs held.holder this.0.owner → o ≡ held.holder
            lent_once [] all never second = absurd never
            lent_once (c ∷ gs) all first second = (all.0).one o held.holder first.0 second.0

      held_goal : (goal ≡ o) × (IsLentFrom p h frs o x.owner → ⊥)
      held_goal = elim (answers_by (method_at p fr.method) answers) [
        | inl alone ↦ (made_apart p h ways.have fr frs new unready o goal x risen.object before (alone, held) (λ same. no_way_round h ways.have o held.holder held.field x before held.owns (subst (λ (m : ℕ). IsWithin h m o) same risen.within)) risen.at in_hand (inl risen.within), held_not_lent alone)
        | inr opens ↦ (content_goal opens, content_not_lent opens)
      ]

    -- what goes on of a fact that claims the object knows no names, and needs all
    module _ (one : goal ≡ o) (no_lent : IsLentFrom p h frs o x.owner → ⊥) where
      goes_emptied : (origin : Origin) (g : Fact)
          → (w : Object) × (object_at h o ≡ Some w) × (d : Covers p h (gives o w.class) anew old frs fr o w) × IsOwned p h (gives o w.class) anew old frs fr o w d × (origin ≡ d.origin) × Goes d.origin d.fact g
          → (g.called ≡ no_names) × (g.full ≡ true)
      goes_emptied origin g (w, there, d, own, same', goes') = (ap (λ (f : Fact). f.called) is, ap (λ (f : Fact). f.full) is)
        where
          target : is_target p t.action d.fact.places ≡ true
          target =
              subst (λ (u : Object). (e : Covers p h (gives o u.class) anew old frs fr o u) → IsOwned p h (gives o u.class) anew old frs fr o u e → is_target p t.action e.fact.places ≡ true)
              (one_object x w (object_at h o) before there) (has_target one no_lent) d own

          is : g ≡ fact_anew d.fact (held_after d.fact.places)
          is = (goes'.1 target).anew

    -- what claims the object after the call, but for what is lent with `this`
    emptied : (z : Object) → object_at k o ≡ Some z → (c : Covers p k false anew old frs after o z) → IsOwned p k false anew old frs after o z c → (is_held c.fact.mode && lends_this p after) ≡ false → IsFromOwned o c.origin c.fact
        → (c.fact.called ≡ no_names) × (c.fact.full ≡ true)
    emptied z now c key keeps from = elim (claims_by p (method_at p after.method) c.origin c.fact key.owning) [
      | inl own ↦ by_own own from
      | inr held ↦ by_held held.0 held.1 from
    ]
      where
        by_own : is_own c.fact.mode ≡ true → IsFromOwned o c.origin c.fact → (c.fact.called ≡ no_names) × (c.fact.full ≡ true)
        by_own own (inl was) = goes_emptied (owned_goal z now (key.owner refl own)) (owned_not_lent z now (key.owner refl own)) c.origin c.fact was
        by_own own (inr (inl (stops, own'))) = absurd (goes_on z now (key.owner refl own) stops)
        by_own own (inr (inr none)) = none

        by_held : is_held c.fact.mode ≡ true → answers_for_fields (method_at p after.method) ≡ true → IsFromOwned o c.origin c.fact → (c.fact.called ≡ no_names) × (c.fact.full ≡ true)
        by_held held answers (inr (inl (stops, own'))) = absurd (not_both c.fact.mode held own')
          where
            not_both : (m : Mode) → is_held m ≡ true → is_own m ≡ true → ⊥
            not_both modes.Own is own = true≢false (sym is)
            not_both m is own = true≢false (sym own)
        by_held held answers (inr (inr none)) = none
        by_held held answers (inl was) = let its = held_goal answers' in_field in goes_emptied its.0 its.1 c.origin c.fact was
          where
            answers' : answers_for_fields (method_at p fr.method) ≡ true
            answers' = ap (λ (m : MethodId). answers_for_fields (method_at p m)) (sym after_method) ∙ answers

            done' : z.finished ≡ true
            done' = let w = ways.objects o x before in ap (λ (u : Object). u.finished) (one_object z w.0 (object_at k o) now w.1) ∙ (w.3 done).0

            by_this : IsOwnedByThis p after z.owner
            by_this = held_by_this p k false anew old frs after o z c done' held answers (ap (λ (b : Bool). b && lends_this p after) (sym held) ∙ keeps) (claims_owned p (method_at p after.method) c.origin c.fact key.owning).0

            in_field : IsOwnedByThis p fr x.owner
            in_field = record {
              field = by_this.field;
              declared = ap (λ (m : MethodId). is_declared_beside p m (field_at p by_this.field)) (sym after_method) ∙ by_this.declared;
              holder = by_this.holder;
              runs = sym after_this ∙ by_this.runs;
              owns = field_was p fr frs h k ways go_on o x z by_this.holder by_this.field before now (done, heavy) by_this.owns;
            }

    -- the frame's place after the reset
    keyed_anew : (q : Place) (z y : Object) → object_at k o ≡ Some z → IsAlike z y → (y ≡ z) ⊎ IsEmptied p z y → IsKeyedAfter q o z → IsKeyed p j false false old frs after q o y
    keyed_anew q z y now like turn key = by key
      where
        wide : is_heavy_class p z.class ≡ true
        wide = let w = ways.objects o x before in ap (is_heavy_class p) (ap (λ (u : Object). u.class) (one_object z w.0 (object_at k o) now w.1) ∙ w.2) ∙ heavy

        by : IsKeyedAfter q o z → IsKeyed p j false false old frs after q o y
        by (inr u) = unowned (unowned_anew p k j same fields alike later false anew false old frs after aged o z y now wide like.class like.finished like.owner reached q u)
        by (inl (c, in', key', from)) =
            owned_anew p k j same fields alike later false anew false old frs after aged o z y now wide like.class like.finished like.owner reached q c in' key'
            (λ claimed apart keeps. true_after (emptied z now c key' keeps from) (as_it_is p c.origin c.fact z (emptied z now c key' keeps from) anew (c.true' claimed apart keeps)))
          where
            true_after : (c.fact.called ≡ no_names) × (c.fact.full ≡ true) → IsTrueOf p z c.origin c.fact → IsTrueOf p y c.origin c.fact
            true_after none truth = elim turn [
              | inl it ↦ subst (λ (u : Object). IsTrueOf p u c.origin c.fact) (sym it) truth
              | inr em ↦ true_anew p c.origin c.fact z y (origin_needs_all p c.body c.origin after.control c.fact c.reached) none like.class like.finished em.called em.must truth
            ]

  -- ---- all frames

  module _ (turns : AllTurned p h k j fr.locals t.action) where
    stay : HoldersStay p k j
    stay = alike_holders p k j alike

    -- the frame that called
    pub covered_anew : ((q : Place) (o : ℕ) (y : Object) → IsSmall q → is_lent_place p after q ≡ false → root_of k (place_value p k after.method after.locals q) ≡ Some o → object_at k o ≡ Some y → is_heavy_class p y.class ≡ true → OwesOrHolds p k o y → IsKeyedAfter q o y)
        → IsCovered p j gives_none renews_none old frs after
    covered_anew from q o y small open' held now heavy owes = by (renewed o) refl
      where
        turned : (z : Object) × (object_at k o ≡ Some z) × IsAlike z y × ((y ≡ z) ⊎ IsTurnedAnew p h fr.locals t.action o z y)
        turned = turns o y (place_value p j after.method after.locals q) held now

        like : IsAlike turned.0 y
        like = turned.2

        owes' : OwesOrHolds p k o turned.0
        owes' = bears_before p k j stay o turned.0 y like.class like.finished like.owner owes

        heavy' : is_heavy_class p turned.0.class ≡ true
        heavy' = ap (is_heavy_class p) (sym like.class) ∙ heavy

        key : IsKeyedAfter q o turned.0
        key = from q o turned.0 small open' (sym (same_held p k j same fields alike after.method after.locals q) ∙ held) turned.1 heavy' owes'

        as_keyed : IsKeyed p k false (renewed o) old frs after q o turned.0
        as_keyed = elim key [ inl is ↦ owned is.0 is.1 is.2 | inr u ↦ unowned u ]

        -- it is a target
        by_done : (w : Object) → object_at h o ≡ Some w → turned.0.class ≡ w.class → renewed o ≡ true → (b : Bool) → w.finished ≡ b → IsKeyed p j false false old frs after q o y
        by_done w before class is true done =
            keyed_anew o w before done wide (bore o w turned.0 before turned.1 owes') (record { target = o; object = w; at = before; heavy = (done, wide); renews = (read o is).0; within = itself o }) q turned.0 y turned.1 like
            (elim turned.3 [ inl it ↦ inl it | inr em ↦ inr em.emptied ]) key
          where
            wide : is_heavy_class p w.class ≡ true
            wide = ap (is_heavy_class p) (sym class) ∙ heavy'
        by_done w before class is false unmade = by_made turned.0.finished refl
          where
            place : (d : ℕ) × IsSmall (places.Temp d) × (root_of h (place_value p h fr.method fr.locals (places.Temp d)) ≡ Some o) × ((held : PlaceSet) → has held (places.Temp d) ≡ true → is_target p t.action held ≡ true)
            place = target_temp p ac h fr old frs st index t here row o (read o is).0

            by_made : (b : Bool) → turned.0.finished ≡ b → IsKeyed p j false false old frs after q o y
            by_made true made = absurd (true≢false (sym (ready (places.Temp place.0) o w turned.0 place.1 place.2 before turned.1 (ap (is_heavy_class p) (sym class) ∙ heavy') made) ∙ unmade))
            by_made false still = keyed_unmade p k j same fields alike (renewed o) false old frs after q o turned.0 y like.class like.finished like.owner still as_keyed

        by : (b : Bool) → renewed o ≡ b → IsKeyed p j false false old frs after q o y
        by true is = let w = carries o turned.0 turned.1 (read o is).1 in by_done w.0 w.1 w.2 is w.0.finished refl
        by false none = elim turned.3 [
          | inl it ↦ subst (λ (w : Object). IsKeyed p j false false old frs after q o w) (sym it)
              (keyed_same p k j same fields alike false false old frs after o turned.0 q (subst (λ (b : Bool). IsKeyed p k false b old frs after q o turned.0) none as_keyed))
          | inr em ↦ keyed_anew o em.was em.before em.done
              (let w = ways.objects o em.was em.before in ap (is_heavy_class p) (sym (ap (λ (u : Object). u.class) (one_object turned.0 w.0 (object_at k o) turned.1 w.1) ∙ w.2)) ∙ heavy')
              (bore o em.was turned.0 em.before turned.1 owes') (em.risen heavy') q turned.0 y turned.1 like (inr em.emptied) key
        ]

    -- the frames that wait below it
    pub rest_anew : AreWaiting p k old frs → AreWaiting p j old frs
    rest_anew waits = waiting_anew p k j same fields alike later old frs below_turns waits
      where
        below_turns : Turns p k j same fields alike frs
        below_turns o y v root now = (turned.0, turned.1, elim turned.3 [ inl it ↦ inl it | inr em ↦ inr (renewed' em) ])
          where
            turned : (z : Object) × (object_at k o ≡ Some z) × IsAlike z y × ((y ≡ z) ⊎ IsTurnedAnew p h fr.locals t.action o z y)
            turned = turns o y v root now

            renewed' : IsTurnedAnew p h fr.locals t.action o turned.0 y → IsRenewed p k frs o turned.0 y
            renewed' em = record {
              class = turned.2.class;
              finished = turned.2.finished;
              owner = turned.2.owner;
              called = em.emptied.called;
              must = em.emptied.must;
              reached = λ heavy owes.
                  let heavy' : is_heavy_class p turned.0.class ≡ true = ap (is_heavy_class p) (sym turned.2.class) ∙ heavy in
                  let w = ways.objects o em.was em.before in
                  let wide : is_heavy_class p em.was.class ≡ true = ap (is_heavy_class p) (sym (ap (λ (u : Object). u.class) (one_object turned.0 w.0 (object_at k o) turned.1 w.1) ∙ w.2)) ∙ heavy' in
                  let bears' = bore o em.was turned.0 em.before turned.1 owes in
                  (reached o em.was em.before em.done wide bears' (em.risen heavy'), renewed_below o em.was em.before em.done wide bears' (em.risen heavy') turned.0 turned.1);
            }

    -- all of them
    pub all_anew : ((q : Place) (o : ℕ) (y : Object) → IsSmall q → is_lent_place p after q ≡ false → root_of k (place_value p k after.method after.locals q) ≡ Some o → object_at k o ≡ Some y → is_heavy_class p y.class ≡ true → OwesOrHolds p k o y → IsKeyedAfter q o y)
        → AreWaiting p k old frs → OwnersBelow j (length frs + 1) → AreCovered p j (after ∷ frs)
    all_anew from waits low = (old, old_alike p k j alike frs after old aged, covered_anew from, rest_anew waits, low)
