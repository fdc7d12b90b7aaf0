-- A method's store into an owning field of `this`, to its end: where what moves in is unmet, the obligation of `this` is created anew, and that of each finished object on the way up. The frames below wait for calls that create
-- anew what they have of these, and the top frame says nothing of what was called on them.
use Rattle.covering_laws.specs.Sight.{AllActInSight}
use Rattle.std.specs.Prelude.{◌&&◌, not}
use Rattle.std.proofs.Common.{◌≡◌, ◌⊎◌, inl, inr, ℕ, ◌+◌, ◌<◌, Bool, true, false, Some, None, List, ◌∷◌, length, slice_get, nat_eq, eq-eqb, eqb-true, refl, sym, ap, ◌∙◌, subst, true≢false, arith, Option, [], not, ◌&&◌, if◌then◌else◌}
use Rattle.std.proofs.lemmas.List.Elements.{All-head, All-tail}
use Rattle.program_model.specs.declared.kinds.FieldId.{FieldId}
use Rattle.program_model.specs.declared.program.Field.{Field}
use Rattle.program_model.specs.declared.program.Program.{Program}
use Rattle.program_model.specs.Lookups.{field_at, method_at}
use Rattle.ledger_obligations.specs.Bodies.{reset_in}
use Rattle.ledger_obligations.specs.MustCallSets.{is_heavy_class}
use Rattle.ownership_rules.specs.Signatures.{type_of_field}
use Rattle.java_control.specs.Control.{Step}
use Rattle.control_actions.specs.declared.place.Place.TheVariants as places
use Rattle.control_actions.specs.declared.action.Action.TheVariants as actions
use Rattle.value_laws.specs.Accept.{Accept}
use Rattle.ledger_state.specs.Contents.{HeapContents}
use Rattle.ledger_state.specs.Fields.{field_value}
use Rattle.ledger_state.specs.Heaps.{object_at, unfinished, root_of, root, has_number, is_reached, next_number}
use Rattle.ledger_state.specs.declared.entry.Owner.TheVariants as owners
use Rattle.ledger_state.specs.declared.object.Object.{Object}
use Rattle.ledger_state.specs.declared.value.Value.{Value}
use Rattle.ledger_state.specs.declared.value.Value.TheVariants as values
use Rattle.ledger_obligations.specs.Obligations as obligations
use Rattle.value_laws.specs.Configuration.{Frame}
use Rattle.value_laws.specs.Choosing.{frame_steps}
use Rattle.value_laws.specs.Chains.{HaveEnds}
use Rattle.value_laws.specs.Heaps.{HasEarlierLinks, GoesOn}
use Rattle.value_laws.specs.Holders.{HoldersAreUnlinked, UnfinishedAreUnowned, IsWithin, by_field, itself, FieldsOwnOneMore}
use Rattle.value_laws.specs.Agreement.{Stands, AllStand, IsCalledFrom}
use Rattle.value_laws.specs.PlainForms.{HasPlainForms, StoresPlainly}
use Rattle.value_laws.proofs.StoredObjects.{stored_goes_on, moved_count, moved_links}
use Rattle.value_laws.specs.Stores.{IsMovedIn, IsStored}
use Rattle.value_laws.proofs.RootLaws.{one_object}
use Rattle.value_laws.specs.FieldContents.{FieldsHold, FieldsOwn, IsFieldOfClass, MakersOwn, AreUnfinished}
use Rattle.value_laws.specs.PlaceFacts.{IsCovered, gives_none, renews_none, is_heavy_in, OwesOrHolds, owned, IsOld, AreWaiting, OwnersBelow, Covers, IsKeyed, is_frame_from, unowned, AreCovered, EndsBelow, IsHeavyObject, IsOwned, claims}
use Rattle.value_laws.specs.Ranges.{FieldsInRange, LocalsInRange}
use Rattle.covering_laws.proofs.LocalSteps.{LocalsIn, holds_there}
use Rattle.covering_laws.proofs.FieldOwners.{fields_own_kept}
use Rattle.covering_laws.proofs.Owners.{AllKeepGifts, from_frame, HoldersStay}
use Rattle.covering_laws.proofs.Waiting.{HoldsThere, value_root, KeepsUnfinished, no_other, AllHeldBefore, KeepsFields, HeldBefore, held_before_further, open_owes}
use Rattle.covering_laws.proofs.StoreMoves.{after, back, bound, forth, holds_other', moved_unfinished, roots, v, holds_here', room, heap_is, store_heap, was, IsJoined, moved_linked, moved_nobody, moved_classes, makes_on, value_is}
use Rattle.value_laws.specs.Frames.{HaveTargets}
use Rattle.covering_laws.proofs.StoringThis.{IsReopened}
use Rattle.covering_laws.specs.Texts.{TextsAreLight}
use Rattle.value_laws.specs.Types.{KeepsTypes, is_text}
use Rattle.value_laws.specs.Renewing.{IsLentFrom, lends_this}
use Rattle.covering_laws.proofs.BeingMade.{StayOfClass}
use Rattle.ledger_state.specs.declared.entry.Owner.{Owner}
use Rattle.ledger_obligations.specs.Obligations.{may_move, stored_owning, moved_in, finished_in, roots_where, holder_roots, is_unmet}
use Rattle.value_laws.specs.Places.{field_place_value, owning_field_beside, place_value}
use Rattle.covering_laws.proofs.StepWays.{BirthsAreFree, ends_by}
use Rattle.value_laws.proofs.HeapLaws.{roots_of_links-itself, roots_go_on-root}
use Rattle.covering_laws.proofs.HeavyFields.{claims_by, claims_owned}
use Rattle.covering_laws.proofs.Storing.{small}
use Rattle.ownership_rules.specs.Facts.{is_held}
use Rattle.covering_laws.proofs.LinkedExceptions.{LinkedWere}
use Rattle.value_laws.proofs.StoreResets.{moved_owner, resets, resets_when, store_is_up, store_resets, store_was_up}
use Rattle.covering_laws.proofs.MethodMoves.{moved_makers, all_renew, gifts, not_aliased, opens_no_constructor, apart, k, mine, moved_below, moved_covered, moved_old, moved_owns, moved_waits, unmade}
use Rattle.covering_laws.proofs.ResetCovers.{IsRenewed, Turns, bears_before, keyed_same, owned_anew, same_held, unowned_anew, waiting_anew}
use Rattle.covering_laws.proofs.ReachedAbove.{AllRenewIt, IsReachedBy, all_renew_it}
use Rattle.covering_laws.proofs.AlikeHeaps.{AreAlike, IsAlike, alike_holders, old_alike}
use Rattle.covering_laws.proofs.AnewAtEnds.{content_declares}
use Rattle.covering_laws.proofs.UnfinishedHolders.{unfinished_kept}
use Rattle.covering_laws.proofs.InFields.{held_by_this}
use Rattle.value_laws.proofs.ResetHeaps.{IsResetOf, reset_empties, reset_forth, reset_root, reset_stays, reset_was}
use Rattle.value_laws.proofs.Tops.{ends_with_one_more, no_way_round}
use Rattle.value_laws.proofs.WaysUp.{one_top, within_goes_on}
use Rattle.value_laws.proofs.SparingCalls.{lent_ends_below}
use Rattle.value_laws.specs.HeapAnew.{is_field_owner}
use Rattle.java_control.specs.PlaceNumbers.{IsSmall}
use Rattle.control_actions.specs.declared.place.Place.{Place}

-- what holds an object with an obligation has one
up_heavy : (p : Program) (h : HeapContents) → HoldersAreUnlinked (is_heavy_class p) h → (a b : ℕ) → IsWithin h a b → (x y : Object) → object_at h a ≡ Some x → object_at h b ≡ Some y → is_heavy_class p x.class ≡ true → is_heavy_class p y.class ≡ true
up_heavy p h unlinked _ _ (itself o) x y at there heavy = ap (λ (u : Object). is_heavy_class p u.class) (sym (one_object x y (object_at h o) at there)) ∙ heavy
up_heavy p h unlinked _ _ (by_field o m b f z now mine' rest) x y at there heavy =
    let u = unlinked o z m f now (ap (λ (u : Object). is_heavy_class p u.class) (sym (one_object x z (object_at h o) at now)) ∙ heavy) mine' in
    up_heavy p h unlinked m b rest u.0 y u.1 there u.3

-- what a frame owns at this position, and the way up of which ends below it, does not have a lent object within it
owned_apart : (p : Program) (h : HeapContents) → (frs : List Frame) (w o : ℕ) (x : Object) → EndsBelow h frs w → object_at h o ≡ Some x → IsWithin h w o → x.owner ≡ owners.Frame (length frs + 1) → ⊥
owned_apart p h frs w o x ends at up own =
    let same = one_top h w ends.end o ends.top (record { within = up; object = x; at = at; unheld = ap is_field_owner own }) in
    let one = one_object ends.top.object x (object_at h o) (ap (object_at h) (sym same) ∙ ends.top.at) at in
    true≢false (sym (from_frame (length frs + 1) (length frs + 1) (omega arith)) ∙ ap (is_frame_from (length frs + 1)) (sym own ∙ ap (λ (u : Object). u.owner) (sym one)) ∙ ends.below)

module _ (p : Program) (ac : Accept p) (forms : HasPlainForms p) (h : HeapContents) (links : HasEarlierLinks h) (ranges : FieldsInRange h) (fr : Frame) (frs : List Frame) (st : Stands p fr) (standing : AllStand p frs) (stacked : IsCalledFrom p h fr frs)
    (targets : HaveTargets p frs) (hold : FieldsHold p (fr ∷ frs) h) (i : ℕ) (s : Step) (here : slice_get (frame_steps p fr) i ≡ Some s) (f : FieldId) (d : ℕ) (is : s.action ≡ actions.PutOwn f d) (plainly : StoresPlainly p (method_at p fr.method) f) (made : Value) (w : ℕ)
    (this : fr.locals.this ≡ values.Object w) (self : Object) (there : object_at h w ≡ Some self) (reopened : IsReopened p h frs fr w self) (class : IsFieldOfClass p f self.class) (have : HaveEnds h) (unlinked : HoldersAreUnlinked (is_heavy_class p) h)
    (in' : LocalsIn h (fr ∷ frs)) (holders : FieldsOwn p h) (texts : TextsAreLight p h) (types : KeepsTypes (is_text p h) p fr) (old : ℕ → Bool) (is_old : IsOld p h frs fr old) (covered : IsCovered p h gives_none renews_none old frs fr)
    (waits : AreWaiting p h old frs) (below : OwnersBelow h (length frs + 1)) (sights : AllActInSight p h frs) where
  abbrev g : HeapContents
  g = k p ac forms h links ranges fr frs st standing stacked targets hold i s here f d is plainly made w this self there reopened class have unlinked in' holders texts types old is_old covered waits below sights

  abbrev j : HeapContents
  j = stored_owning p h w f (bound p ac forms h links fr frs st i s here f d is plainly made w this self there (unmade p ac forms h links ranges fr frs st standing stacked targets hold i s here f d is plainly made w this self there reopened class have unlinked in' holders texts types old is_old covered waits below sights)) (v p ac forms h links fr frs st i s here f d is plainly made w this self there (unmade p ac forms h links ranges fr frs st standing stacked targets hold i s here f d is plainly made w this self there reopened class have unlinked in' holders texts types old is_old covered waits below sights))

  abbrev n : ℕ
  n = length frs

  -- ---- the heap in which the value has moved

  self_now : (y : Object) × (object_at g w ≡ Some y) × GoesOn self y
  self_now = forth p ac forms h links fr frs st i s here f d is plainly made w this self there (unmade p ac forms h links ranges fr frs st standing stacked targets hold i s here f d is plainly made w this self there reopened class have unlinked in' holders texts types old is_old covered waits below sights) w self there

  heavy_now : self.finished ≡ true → IsHeavyObject p self_now.0
  heavy_now done = (self_now.2.finished ∙ done, ap (is_heavy_class p) self_now.2.class ∙ reopened.heavy.1)

  others_in : LocalsIn h frs
  others_in = All-tail (λ (x : Frame). LocalsInRange h x.locals) fr frs in'

  count : next_number g ≡ next_number h
  count = moved_count p h w f (v p ac forms h links fr frs st i s here f d is plainly made w this self there (unmade p ac forms h links ranges fr frs st standing stacked targets hold i s here f d is plainly made w this self there reopened class have unlinked in' holders texts types old is_old covered waits below sights)) (bound p ac forms h links fr frs st i s here f d is plainly made w this self there (unmade p ac forms h links ranges fr frs st standing stacked targets hold i s here f d is plainly made w this self there reopened class have unlinked in' holders texts types old is_old covered waits below sights))

  ends_of_this : EndsBelow h frs w
  ends_of_this = lent_ends_below p h have frs hold.unfinished.1 w self there reopened.lent

  -- what moves in does not have `this` within it
  not_around : (o : ℕ) (x : Object) → object_at h o ≡ Some x → IsMovedIn p h f (v p ac forms h links fr frs st i s here f d is plainly made w this self there (unmade p ac forms h links ranges fr frs st standing stacked targets hold i s here f d is plainly made w this self there reopened class have unlinked in' holders texts types old is_old covered waits below sights)) o x → IsWithin h w o → ⊥
  not_around o x at into up = elim (mine p ac forms h links ranges fr frs st standing stacked targets hold i s here f d is plainly made w this self there reopened class have unlinked in' holders texts types old is_old covered waits below sights o x at into (up_heavy p h unlinked w o up self x there at reopened.heavy.1)) [
    | inl frame ↦ owned_apart p h frs w o x ends_of_this at up frame
    | inr field ↦ no_way_round h have o w f x at field up
  ]

  unowned_now : UnfinishedAreUnowned g
  unowned_now = moved_nobody p ac forms h links fr frs st i s here f d is plainly made w this self there (unmade p ac forms h links ranges fr frs st standing stacked targets hold i s here f d is plainly made w this self there reopened class have unlinked in' holders texts types old is_old covered waits below sights) have.unfinished

  -- where nothing moves in
  ends_unmoved : ((o : ℕ) (x : Object) → object_at h o ≡ Some x → IsMovedIn p h f (v p ac forms h links fr frs st i s here f d is plainly made w this self there (unmade p ac forms h links ranges fr frs st standing stacked targets hold i s here f d is plainly made w this self there reopened class have unlinked in' holders texts types old is_old covered waits below sights)) o x → ⊥) → HaveEnds g
  ends_unmoved none = ends_by (n + 1) h g have (let same = count in omega (arith, same)) births unowned_now goes
    where
      births : BirthsAreFree (n + 1) h g
      births o y now done = let x = back p ac forms h links fr frs st i s here f d is plainly made w this self there (unmade p ac forms h links ranges fr frs st standing stacked targets hold i s here f d is plainly made w this self there reopened class have unlinked in' holders texts types old is_old covered waits below sights) o y now in inl (x.0, x.1, sym (stored_goes_on p h w f (v p ac forms h links fr frs st i s here f d is plainly made w this self there (unmade p ac forms h links ranges fr frs st standing stacked targets hold i s here f d is plainly made w this self there reopened class have unlinked in' holders texts types old is_old covered waits below sights)) o x.0 y x.2).finished ∙ done)

      goes : (o : ℕ) (x y : Object) → object_at h o ≡ Some x → object_at g o ≡ Some y → x.finished ≡ true → (y.owner ≡ x.owner) ⊎ (is_field_owner y.owner ≡ false)
      goes o x y at now done = by (was p ac forms h links fr frs st i s here f d is plainly made w this self there (unmade p ac forms h links ranges fr frs st standing stacked targets hold i s here f d is plainly made w this self there reopened class have unlinked in' holders texts types old is_old covered waits below sights) o x y at now)
        where
          by : IsStored p h w f (v p ac forms h links fr frs st i s here f d is plainly made w this self there (unmade p ac forms h links ranges fr frs st standing stacked targets hold i s here f d is plainly made w this self there reopened class have unlinked in' holders texts types old is_old covered waits below sights)) o x y → (y.owner ≡ x.owner) ⊎ (is_field_owner y.owner ≡ false)
          by (inl same) = inl (ap (λ (u : Object). u.owner) same)
          by (inr (inl gone)) = inr (ap (λ (u : Object). is_field_owner u.owner) gone.1 ∙ given (is_unmet x))
            where
              given : (b : Bool) → is_field_owner (if b then owners.Lost else owners.Released) ≡ false
              given true = refl
              given false = refl
          by (inr (inr into)) = absurd (none o x at into.0)

  -- fields own what they owned, and the field of the store what moves in
  one_more : (m : ℕ) → root_of h (v p ac forms h links fr frs st i s here f d is plainly made w this self there (unmade p ac forms h links ranges fr frs st standing stacked targets hold i s here f d is plainly made w this self there reopened class have unlinked in' holders texts types old is_old covered waits below sights)) ≡ Some m → FieldsOwnOneMore m w h g
  one_more m value o y u x now owned' = elim (moved_owner p h w f (bound p ac forms h links fr frs st i s here f d is plainly made w this self there (unmade p ac forms h links ranges fr frs st standing stacked targets hold i s here f d is plainly made w this self there reopened class have unlinked in' holders texts types old is_old covered waits below sights)) (v p ac forms h links fr frs st i s here f d is plainly made w this self there (unmade p ac forms h links ranges fr frs st standing stacked targets hold i s here f d is plainly made w this self there reopened class have unlinked in' holders texts types old is_old covered waits below sights)) o u x y now owned') [
    | inl was' ↦ inl was'
    | inr into ↦ inr ((let both : Some o ≡ Some m = sym into.2.root ∙ value in (let one : o ≡ m = cc in one)), into.3)
  ]

  ends_now : HaveEnds g
  ends_now = by (root_of h (v p ac forms h links fr frs st i s here f d is plainly made w this self there (unmade p ac forms h links ranges fr frs st standing stacked targets hold i s here f d is plainly made w this self there reopened class have unlinked in' holders texts types old is_old covered waits below sights))) refl
    where
      moves : (o : ℕ) → root_of h (v p ac forms h links fr frs st i s here f d is plainly made w this self there (unmade p ac forms h links ranges fr frs st standing stacked targets hold i s here f d is plainly made w this self there reopened class have unlinked in' holders texts types old is_old covered waits below sights)) ≡ Some o → (x : Object) → object_at h o ≡ Some x → (b : Bool) → may_move p (obligations.type_of_field (field_at p f)) x ≡ b → HaveEnds g
      moves o root x at true may =
          ends_with_one_more h g o w (one_more o root) (λ m y there'. let z = forth p ac forms h links fr frs st i s here f d is plainly made w this self there (unmade p ac forms h links ranges fr frs st standing stacked targets hold i s here f d is plainly made w this self there reopened class have unlinked in' holders texts types old is_old covered waits below sights) m y there' in (z.0, z.1)) (not_around o x at (record { root = root; may = may })) self there have unowned_now
      moves o root x at false not = ends_unmoved (λ o' x' at' into.
          true≢false (sym into.may ∙ ap (may_move p (obligations.type_of_field (field_at p f))) (one_object x' x (object_at h o) (ap (object_at h) (let both : Some o ≡ Some o' = sym root ∙ into.root in (let one : o ≡ o' = cc in one)) ∙ at') at) ∙ not))

      at_root : (o : ℕ) → root_of h (v p ac forms h links fr frs st i s here f d is plainly made w this self there (unmade p ac forms h links ranges fr frs st standing stacked targets hold i s here f d is plainly made w this self there reopened class have unlinked in' holders texts types old is_old covered waits below sights)) ≡ Some o → (x : Option Object) → object_at h o ≡ x → HaveEnds g
      at_root o root (Some x) at = moves o root x at (may_move p (obligations.type_of_field (field_at p f)) x) refl
      at_root o root None none = ends_unmoved (λ o' x' at' into.
          (let never : None ≡ Some x' = sym none ∙ ap (object_at h) (let both : Some o ≡ Some o' = sym root ∙ into.root in (let one : o ≡ o' = cc in one)) ∙ at' in cc))

      by : (r : Option ℕ) → root_of h (v p ac forms h links fr frs st i s here f d is plainly made w this self there (unmade p ac forms h links ranges fr frs st standing stacked targets hold i s here f d is plainly made w this self there reopened class have unlinked in' holders texts types old is_old covered waits below sights)) ≡ r → HaveEnds g
      by None none = ends_unmoved (λ o x at into. (let never : None ≡ Some o = sym none ∙ into.root in cc))
      by (Some o) root = at_root o root (object_at h o) refl

  links_now : HasEarlierLinks g
  links_now = moved_links p h w f (bound p ac forms h links fr frs st i s here f d is plainly made w this self there (unmade p ac forms h links ranges fr frs st standing stacked targets hold i s here f d is plainly made w this self there reopened class have unlinked in' holders texts types old is_old covered waits below sights)) (v p ac forms h links fr frs st i s here f d is plainly made w this self there (unmade p ac forms h links ranges fr frs st standing stacked targets hold i s here f d is plainly made w this self there reopened class have unlinked in' holders texts types old is_old covered waits below sights)) links

  unfinished_now : AreUnfinished p g frs
  unfinished_now = unfinished_kept p h g (λ o x y before now open'. moved_unfinished p ac forms h links fr frs st i s here f d is plainly made w this self there (unmade p ac forms h links ranges fr frs st standing stacked targets hold i s here f d is plainly made w this self there reopened class have unlinked in' holders texts types old is_old covered waits below sights) o x y (λ never. never) before now open') frs others_in hold.unfinished.1

  lent_now : IsLentFrom p g frs w (self_now.0).owner
  lent_now = ((apart p ac forms h links ranges fr frs st standing stacked targets hold i s here f d is plainly made w this self there reopened class have unlinked in' holders texts types old is_old covered waits below sights).keeps w self self_now.0 there self_now.1 reopened.heavy reopened.lent).1

  -- ---- the reset

  reset : IsResetOf p (moved_in p h w f (bound p ac forms h links fr frs st i s here f d is plainly made w this self there (unmade p ac forms h links ranges fr frs st standing stacked targets hold i s here f d is plainly made w this self there reopened class have unlinked in' holders texts types old is_old covered waits below sights)) (v p ac forms h links fr frs st i s here f d is plainly made w this self there (unmade p ac forms h links ranges fr frs st standing stacked targets hold i s here f d is plainly made w this self there reopened class have unlinked in' holders texts types old is_old covered waits below sights))) (holder_roots p h w f (bound p ac forms h links fr frs st i s here f d is plainly made w this self there (unmade p ac forms h links ranges fr frs st standing stacked targets hold i s here f d is plainly made w this self there reopened class have unlinked in' holders texts types old is_old covered waits below sights)) (v p ac forms h links fr frs st i s here f d is plainly made w this self there (unmade p ac forms h links ranges fr frs st standing stacked targets hold i s here f d is plainly made w this self there reopened class have unlinked in' holders texts types old is_old covered waits below sights))) g j
  reset = let it = store_resets p h w f (bound p ac forms h links fr frs st i s here f d is plainly made w this self there (unmade p ac forms h links ranges fr frs st standing stacked targets hold i s here f d is plainly made w this self there reopened class have unlinked in' holders texts types old is_old covered waits below sights)) (v p ac forms h links fr frs st i s here f d is plainly made w this self there (unmade p ac forms h links ranges fr frs st standing stacked targets hold i s here f d is plainly made w this self there reopened class have unlinked in' holders texts types old is_old covered waits below sights)) in record { count = it.count; objects = λ m. it.objects m }

  same : (u : Value) → root_of j u ≡ root_of g u
  same u = reset_root p (moved_in p h w f (bound p ac forms h links fr frs st i s here f d is plainly made w this self there (unmade p ac forms h links ranges fr frs st standing stacked targets hold i s here f d is plainly made w this self there reopened class have unlinked in' holders texts types old is_old covered waits below sights)) (v p ac forms h links fr frs st i s here f d is plainly made w this self there (unmade p ac forms h links ranges fr frs st standing stacked targets hold i s here f d is plainly made w this self there reopened class have unlinked in' holders texts types old is_old covered waits below sights))) (holder_roots p h w f (bound p ac forms h links fr frs st i s here f d is plainly made w this self there (unmade p ac forms h links ranges fr frs st standing stacked targets hold i s here f d is plainly made w this self there reopened class have unlinked in' holders texts types old is_old covered waits below sights)) (v p ac forms h links fr frs st i s here f d is plainly made w this self there (unmade p ac forms h links ranges fr frs st standing stacked targets hold i s here f d is plainly made w this self there reopened class have unlinked in' holders texts types old is_old covered waits below sights))) g j reset u

  fields : KeepsFields p g j
  fields u x own = refl

  back_now : (o : ℕ) (y : Object) → object_at j o ≡ Some y → (z : Object) × (object_at g o ≡ Some z) × IsAlike z y
  back_now o y now =
      let z = reset_was p (moved_in p h w f (bound p ac forms h links fr frs st i s here f d is plainly made w this self there (unmade p ac forms h links ranges fr frs st standing stacked targets hold i s here f d is plainly made w this self there reopened class have unlinked in' holders texts types old is_old covered waits below sights)) (v p ac forms h links fr frs st i s here f d is plainly made w this self there (unmade p ac forms h links ranges fr frs st standing stacked targets hold i s here f d is plainly made w this self there reopened class have unlinked in' holders texts types old is_old covered waits below sights))) (holder_roots p h w f (bound p ac forms h links fr frs st i s here f d is plainly made w this self there (unmade p ac forms h links ranges fr frs st standing stacked targets hold i s here f d is plainly made w this self there reopened class have unlinked in' holders texts types old is_old covered waits below sights)) (v p ac forms h links fr frs st i s here f d is plainly made w this self there (unmade p ac forms h links ranges fr frs st standing stacked targets hold i s here f d is plainly made w this self there reopened class have unlinked in' holders texts types old is_old covered waits below sights))) g j reset o y now in
      (z.0, z.1, record { class = z.2; link = z.3; finished = z.4; owner = z.5 })

  abbrev emptied_now : ℕ → Object → Object
  emptied_now o z = obligations.reset_in p (moved_in p h w f (bound p ac forms h links fr frs st i s here f d is plainly made w this self there (unmade p ac forms h links ranges fr frs st standing stacked targets hold i s here f d is plainly made w this self there reopened class have unlinked in' holders texts types old is_old covered waits below sights)) (v p ac forms h links fr frs st i s here f d is plainly made w this self there (unmade p ac forms h links ranges fr frs st standing stacked targets hold i s here f d is plainly made w this self there reopened class have unlinked in' holders texts types old is_old covered waits below sights))) (holder_roots p h w f (bound p ac forms h links fr frs st i s here f d is plainly made w this self there (unmade p ac forms h links ranges fr frs st standing stacked targets hold i s here f d is plainly made w this self there reopened class have unlinked in' holders texts types old is_old covered waits below sights)) (v p ac forms h links fr frs st i s here f d is plainly made w this self there (unmade p ac forms h links ranges fr frs st standing stacked targets hold i s here f d is plainly made w this self there reopened class have unlinked in' holders texts types old is_old covered waits below sights))) o z

  alike : AreAlike g j
  alike = record {
    forth = λ o z at.
        let now = reset_forth p (moved_in p h w f (bound p ac forms h links fr frs st i s here f d is plainly made w this self there (unmade p ac forms h links ranges fr frs st standing stacked targets hold i s here f d is plainly made w this self there reopened class have unlinked in' holders texts types old is_old covered waits below sights)) (v p ac forms h links fr frs st i s here f d is plainly made w this self there (unmade p ac forms h links ranges fr frs st standing stacked targets hold i s here f d is plainly made w this self there reopened class have unlinked in' holders texts types old is_old covered waits below sights))) (holder_roots p h w f (bound p ac forms h links fr frs st i s here f d is plainly made w this self there (unmade p ac forms h links ranges fr frs st standing stacked targets hold i s here f d is plainly made w this self there reopened class have unlinked in' holders texts types old is_old covered waits below sights)) (v p ac forms h links fr frs st i s here f d is plainly made w this self there (unmade p ac forms h links ranges fr frs st standing stacked targets hold i s here f d is plainly made w this self there reopened class have unlinked in' holders texts types old is_old covered waits below sights))) g j reset o z at in
        let u = back_now o (emptied_now o z) now in
        (emptied_now o z, now, subst (λ (x : Object). IsAlike x (emptied_now o z)) (one_object u.0 z (object_at g o) u.1 at) u.2);
    back = back_now;
  }

  -- it reaches something where `this` is finished
  this_done : (o : ℕ) → is_reached (moved_in p h w f (bound p ac forms h links fr frs st i s here f d is plainly made w this self there (unmade p ac forms h links ranges fr frs st standing stacked targets hold i s here f d is plainly made w this self there reopened class have unlinked in' holders texts types old is_old covered waits below sights)) (v p ac forms h links fr frs st i s here f d is plainly made w this self there (unmade p ac forms h links ranges fr frs st standing stacked targets hold i s here f d is plainly made w this self there reopened class have unlinked in' holders texts types old is_old covered waits below sights))) (holder_roots p h w f (bound p ac forms h links fr frs st i s here f d is plainly made w this self there (unmade p ac forms h links ranges fr frs st standing stacked targets hold i s here f d is plainly made w this self there reopened class have unlinked in' holders texts types old is_old covered waits below sights)) (v p ac forms h links fr frs st i s here f d is plainly made w this self there (unmade p ac forms h links ranges fr frs st standing stacked targets hold i s here f d is plainly made w this self there reopened class have unlinked in' holders texts types old is_old covered waits below sights))) o ≡ true → self.finished ≡ true
  this_done o is' = by (resets p h w f (bound p ac forms h links fr frs st i s here f d is plainly made w this self there (unmade p ac forms h links ranges fr frs st standing stacked targets hold i s here f d is plainly made w this self there reopened class have unlinked in' holders texts types old is_old covered waits below sights)) (v p ac forms h links fr frs st i s here f d is plainly made w this self there (unmade p ac forms h links ranges fr frs st standing stacked targets hold i s here f d is plainly made w this self there reopened class have unlinked in' holders texts types old is_old covered waits below sights))) refl is'
    where
      by : (b : Bool) → resets p h w f (bound p ac forms h links fr frs st i s here f d is plainly made w this self there (unmade p ac forms h links ranges fr frs st standing stacked targets hold i s here f d is plainly made w this self there reopened class have unlinked in' holders texts types old is_old covered waits below sights)) (v p ac forms h links fr frs st i s here f d is plainly made w this self there (unmade p ac forms h links ranges fr frs st standing stacked targets hold i s here f d is plainly made w this self there reopened class have unlinked in' holders texts types old is_old covered waits below sights)) ≡ b
          → has_number (roots_where b (moved_in p h w f (bound p ac forms h links fr frs st i s here f d is plainly made w this self there (unmade p ac forms h links ranges fr frs st standing stacked targets hold i s here f d is plainly made w this self there reopened class have unlinked in' holders texts types old is_old covered waits below sights)) (v p ac forms h links fr frs st i s here f d is plainly made w this self there (unmade p ac forms h links ranges fr frs st standing stacked targets hold i s here f d is plainly made w this self there reopened class have unlinked in' holders texts types old is_old covered waits below sights))) w) (root (moved_in p h w f (bound p ac forms h links fr frs st i s here f d is plainly made w this self there (unmade p ac forms h links ranges fr frs st standing stacked targets hold i s here f d is plainly made w this self there reopened class have unlinked in' holders texts types old is_old covered waits below sights)) (v p ac forms h links fr frs st i s here f d is plainly made w this self there (unmade p ac forms h links ranges fr frs st standing stacked targets hold i s here f d is plainly made w this self there reopened class have unlinked in' holders texts types old is_old covered waits below sights))) o) ≡ true → self.finished ≡ true
      by false none has' = absurd (true≢false (sym has'))
      by true all has' = ap finished_in (sym there) ∙ (resets_when p h w f (bound p ac forms h links fr frs st i s here f d is plainly made w this self there (unmade p ac forms h links ranges fr frs st standing stacked targets hold i s here f d is plainly made w this self there reopened class have unlinked in' holders texts types old is_old covered waits below sights)) (v p ac forms h links fr frs st i s here f d is plainly made w this self there (unmade p ac forms h links ranges fr frs st standing stacked targets hold i s here f d is plainly made w this self there reopened class have unlinked in' holders texts types old is_old covered waits below sights)) all).3

  -- and that is on the way up from `this`
  above : (o : ℕ) (z : Object) → object_at g o ≡ Some z → z.link ≡ None → is_reached (moved_in p h w f (bound p ac forms h links fr frs st i s here f d is plainly made w this self there (unmade p ac forms h links ranges fr frs st standing stacked targets hold i s here f d is plainly made w this self there reopened class have unlinked in' holders texts types old is_old covered waits below sights)) (v p ac forms h links fr frs st i s here f d is plainly made w this self there (unmade p ac forms h links ranges fr frs st standing stacked targets hold i s here f d is plainly made w this self there reopened class have unlinked in' holders texts types old is_old covered waits below sights))) (holder_roots p h w f (bound p ac forms h links fr frs st i s here f d is plainly made w this self there (unmade p ac forms h links ranges fr frs st standing stacked targets hold i s here f d is plainly made w this self there reopened class have unlinked in' holders texts types old is_old covered waits below sights)) (v p ac forms h links fr frs st i s here f d is plainly made w this self there (unmade p ac forms h links ranges fr frs st standing stacked targets hold i s here f d is plainly made w this self there reopened class have unlinked in' holders texts types old is_old covered waits below sights))) o ≡ true → IsWithin g w o × (z.finished ≡ true)
  above o z at single is' =
      let up = store_is_up p h w f (bound p ac forms h links fr frs st i s here f d is plainly made w this self there (unmade p ac forms h links ranges fr frs st standing stacked targets hold i s here f d is plainly made w this self there reopened class have unlinked in' holders texts types old is_old covered waits below sights)) (v p ac forms h links fr frs st i s here f d is plainly made w this self there (unmade p ac forms h links ranges fr frs st standing stacked targets hold i s here f d is plainly made w this self there reopened class have unlinked in' holders texts types old is_old covered waits below sights)) links self there reopened.single (this_done o is') (is_heavy_class p) unlinked reopened.heavy.1 o is' in
      let itself' : root (moved_in p h w f (bound p ac forms h links fr frs st i s here f d is plainly made w this self there (unmade p ac forms h links ranges fr frs st standing stacked targets hold i s here f d is plainly made w this self there reopened class have unlinked in' holders texts types old is_old covered waits below sights)) (v p ac forms h links fr frs st i s here f d is plainly made w this self there (unmade p ac forms h links ranges fr frs st standing stacked targets hold i s here f d is plainly made w this self there reopened class have unlinked in' holders texts types old is_old covered waits below sights))) o ≡ o = roots_of_links-itself (moved_in p h w f (bound p ac forms h links fr frs st i s here f d is plainly made w this self there (unmade p ac forms h links ranges fr frs st standing stacked targets hold i s here f d is plainly made w this self there reopened class have unlinked in' holders texts types old is_old covered waits below sights)) (v p ac forms h links fr frs st i s here f d is plainly made w this self there (unmade p ac forms h links ranges fr frs st standing stacked targets hold i s here f d is plainly made w this self there reopened class have unlinked in' holders texts types old is_old covered waits below sights))) o z at single in
      (subst (IsWithin g w) itself' (within_goes_on (moved_in p h w f (bound p ac forms h links fr frs st i s here f d is plainly made w this self there (unmade p ac forms h links ranges fr frs st standing stacked targets hold i s here f d is plainly made w this self there reopened class have unlinked in' holders texts types old is_old covered waits below sights)) (v p ac forms h links fr frs st i s here f d is plainly made w this self there (unmade p ac forms h links ranges fr frs st standing stacked targets hold i s here f d is plainly made w this self there reopened class have unlinked in' holders texts types old is_old covered waits below sights))) g w (root (moved_in p h w f (bound p ac forms h links fr frs st i s here f d is plainly made w this self there (unmade p ac forms h links ranges fr frs st standing stacked targets hold i s here f d is plainly made w this self there reopened class have unlinked in' holders texts types old is_old covered waits below sights)) (v p ac forms h links fr frs st i s here f d is plainly made w this self there (unmade p ac forms h links ranges fr frs st standing stacked targets hold i s here f d is plainly made w this self there reopened class have unlinked in' holders texts types old is_old covered waits below sights))) o) (λ m x u x' at' own. (x, at', own)) up.1), sym (ap (λ (m : ℕ). finished_in (object_at g m)) itself' ∙ ap finished_in at) ∙ up.2)

  reached_by : self.finished ≡ true → (o : ℕ) → IsWithin g w o → IsReachedBy p g frs o
  reached_by done o up = record { mid = []; target = w; object = self_now.0; at = self_now.1; heavy = heavy_now done; lent = lent_now; within = up; new = hold.new.1; unfinished = unfinished_now }

  -- what is above `this` keeps its owner, and the frames below renew it
  owner_above : (o : ℕ) (x z : Object) → object_at h o ≡ Some x → object_at g o ≡ Some z → IsWithin h w o → z.owner ≡ x.owner
  owner_above o x z at now up = by (was p ac forms h links fr frs st i s here f d is plainly made w this self there (unmade p ac forms h links ranges fr frs st standing stacked targets hold i s here f d is plainly made w this self there reopened class have unlinked in' holders texts types old is_old covered waits below sights) o x z at now)
    where
      by : IsStored p h w f (v p ac forms h links fr frs st i s here f d is plainly made w this self there (unmade p ac forms h links ranges fr frs st standing stacked targets hold i s here f d is plainly made w this self there reopened class have unlinked in' holders texts types old is_old covered waits below sights)) o x z → z.owner ≡ x.owner
      by (inl one) = ap (λ (u : Object). u.owner) one
      by (inr (inl gone)) = absurd (no_way_round h have o w f x at gone.0.owner up)
      by (inr (inr into)) = absurd (not_around o x at into.0 up)

  renewed_on : (gs : List Frame) → AllKeepGifts p h g gs → (o : ℕ) (a : Owner) → AllRenewIt p h gs o a → AllRenewIt p g gs o a
  renewed_on [] gives o a all = tt
  renewed_on (x ∷ xs) gives o a all = ((λ here'. (gives.0 o).1 ∙ all.0 here'), renewed_on xs gives.1 o a all.1)

  renew_it : (o : ℕ) (z : Object) → object_at g o ≡ Some z → z.link ≡ None → is_heavy_class p z.class ≡ true → is_reached (moved_in p h w f (bound p ac forms h links fr frs st i s here f d is plainly made w this self there (unmade p ac forms h links ranges fr frs st standing stacked targets hold i s here f d is plainly made w this self there reopened class have unlinked in' holders texts types old is_old covered waits below sights)) (v p ac forms h links fr frs st i s here f d is plainly made w this self there (unmade p ac forms h links ranges fr frs st standing stacked targets hold i s here f d is plainly made w this self there reopened class have unlinked in' holders texts types old is_old covered waits below sights))) (holder_roots p h w f (bound p ac forms h links fr frs st i s here f d is plainly made w this self there (unmade p ac forms h links ranges fr frs st standing stacked targets hold i s here f d is plainly made w this self there reopened class have unlinked in' holders texts types old is_old covered waits below sights)) (v p ac forms h links fr frs st i s here f d is plainly made w this self there (unmade p ac forms h links ranges fr frs st standing stacked targets hold i s here f d is plainly made w this self there reopened class have unlinked in' holders texts types old is_old covered waits below sights))) o ≡ true → AllRenewIt p g frs o z.owner
  renew_it o z at single heavy is' = subst (AllRenewIt p g frs o) (sym (owner_above o x.0 z x.1 at up)) (renewed_on frs (gifts p ac forms h links ranges fr frs st standing stacked targets hold i s here f d is plainly made w this self there reopened class have unlinked in' holders texts types old is_old covered waits below sights) o (x.0).owner
      (all_renew_it p h have unlinked o x.0 x.1 (sym on.finished ∙ (above o z at single is').1, wide) (λ u x' y' own there'. content_declares p (fr ∷ frs) h hold.contents o x.0 u x' y' x.1 wide own there') frs
      (record { mid = []; target = w; object = self; at = there; heavy = (this_done o is', reopened.heavy.1); lent = reopened.lent; within = up; new = hold.new.1; unfinished = hold.unfinished.1 }) (all_renew p ac forms h links ranges fr frs st standing stacked targets hold i s here f d is plainly made w this self there reopened class have unlinked in' holders texts types old is_old covered waits below sights)))
    where
      x : (x : Object) × (object_at h o ≡ Some x) × IsStored p h w f (v p ac forms h links fr frs st i s here f d is plainly made w this self there (unmade p ac forms h links ranges fr frs st standing stacked targets hold i s here f d is plainly made w this self there reopened class have unlinked in' holders texts types old is_old covered waits below sights)) o x z
      x = back p ac forms h links fr frs st i s here f d is plainly made w this self there (unmade p ac forms h links ranges fr frs st standing stacked targets hold i s here f d is plainly made w this self there reopened class have unlinked in' holders texts types old is_old covered waits below sights) o z at

      on : GoesOn x.0 z
      on = stored_goes_on p h w f (v p ac forms h links fr frs st i s here f d is plainly made w this self there (unmade p ac forms h links ranges fr frs st standing stacked targets hold i s here f d is plainly made w this self there reopened class have unlinked in' holders texts types old is_old covered waits below sights)) o x.0 z x.2

      wide : is_heavy_class p (x.0).class ≡ true
      wide = ap (is_heavy_class p) (sym on.class) ∙ heavy

      up : IsWithin h w o
      up = subst (IsWithin h w) (roots_of_links-itself h o x.0 x.1 (sym on.link ∙ single))
          (store_was_up p h w f (bound p ac forms h links fr frs st i s here f d is plainly made w this self there (unmade p ac forms h links ranges fr frs st standing stacked targets hold i s here f d is plainly made w this self there reopened class have unlinked in' holders texts types old is_old covered waits below sights)) (v p ac forms h links fr frs st i s here f d is plainly made w this self there (unmade p ac forms h links ranges fr frs st standing stacked targets hold i s here f d is plainly made w this self there reopened class have unlinked in' holders texts types old is_old covered waits below sights)) links self there reopened.single (this_done o is') (is_heavy_class p) unlinked reopened.heavy.1 o x.0 x.1 is')

  turned : (o : ℕ) (y : Object) (u : Value) → root_of j u ≡ Some o → object_at j o ≡ Some y → (x : Object) × (object_at g o ≡ Some x) × ((y ≡ x) ⊎ (IsRenewed p g frs o x y × IsWithin g w o))
  turned o y u root' now = (z.0, z.1, go (is_reached (moved_in p h w f (bound p ac forms h links fr frs st i s here f d is plainly made w this self there (unmade p ac forms h links ranges fr frs st standing stacked targets hold i s here f d is plainly made w this self there reopened class have unlinked in' holders texts types old is_old covered waits below sights)) (v p ac forms h links fr frs st i s here f d is plainly made w this self there (unmade p ac forms h links ranges fr frs st standing stacked targets hold i s here f d is plainly made w this self there reopened class have unlinked in' holders texts types old is_old covered waits below sights))) (holder_roots p h w f (bound p ac forms h links fr frs st i s here f d is plainly made w this self there (unmade p ac forms h links ranges fr frs st standing stacked targets hold i s here f d is plainly made w this self there reopened class have unlinked in' holders texts types old is_old covered waits below sights)) (v p ac forms h links fr frs st i s here f d is plainly made w this self there (unmade p ac forms h links ranges fr frs st standing stacked targets hold i s here f d is plainly made w this self there reopened class have unlinked in' holders texts types old is_old covered waits below sights))) o) refl)
    where
      z : (z : Object) × (object_at g o ≡ Some z) × IsAlike z y
      z = back_now o y now

      single : (z.0).link ≡ None
      single = roots_go_on-root g u o z.0 links_now (sym (same u) ∙ root') z.1

      go : (b : Bool) → is_reached (moved_in p h w f (bound p ac forms h links fr frs st i s here f d is plainly made w this self there (unmade p ac forms h links ranges fr frs st standing stacked targets hold i s here f d is plainly made w this self there reopened class have unlinked in' holders texts types old is_old covered waits below sights)) (v p ac forms h links fr frs st i s here f d is plainly made w this self there (unmade p ac forms h links ranges fr frs st standing stacked targets hold i s here f d is plainly made w this self there reopened class have unlinked in' holders texts types old is_old covered waits below sights))) (holder_roots p h w f (bound p ac forms h links fr frs st i s here f d is plainly made w this self there (unmade p ac forms h links ranges fr frs st standing stacked targets hold i s here f d is plainly made w this self there reopened class have unlinked in' holders texts types old is_old covered waits below sights)) (v p ac forms h links fr frs st i s here f d is plainly made w this self there (unmade p ac forms h links ranges fr frs st standing stacked targets hold i s here f d is plainly made w this self there reopened class have unlinked in' holders texts types old is_old covered waits below sights))) o ≡ b → (y ≡ z.0) ⊎ (IsRenewed p g frs o z.0 y × IsWithin g w o)
      go false out = inl (sym (one_object z.0 y (object_at g o) z.1 (reset_stays p (moved_in p h w f (bound p ac forms h links fr frs st i s here f d is plainly made w this self there (unmade p ac forms h links ranges fr frs st standing stacked targets hold i s here f d is plainly made w this self there reopened class have unlinked in' holders texts types old is_old covered waits below sights)) (v p ac forms h links fr frs st i s here f d is plainly made w this self there (unmade p ac forms h links ranges fr frs st standing stacked targets hold i s here f d is plainly made w this self there reopened class have unlinked in' holders texts types old is_old covered waits below sights))) (holder_roots p h w f (bound p ac forms h links fr frs st i s here f d is plainly made w this self there (unmade p ac forms h links ranges fr frs st standing stacked targets hold i s here f d is plainly made w this self there reopened class have unlinked in' holders texts types old is_old covered waits below sights)) (v p ac forms h links fr frs st i s here f d is plainly made w this self there (unmade p ac forms h links ranges fr frs st standing stacked targets hold i s here f d is plainly made w this self there reopened class have unlinked in' holders texts types old is_old covered waits below sights))) g j reset o y out now)))
      go true is' =
          let up = above o z.0 z.1 single is' in
          let it = reset_empties p (moved_in p h w f (bound p ac forms h links fr frs st i s here f d is plainly made w this self there (unmade p ac forms h links ranges fr frs st standing stacked targets hold i s here f d is plainly made w this self there reopened class have unlinked in' holders texts types old is_old covered waits below sights)) (v p ac forms h links fr frs st i s here f d is plainly made w this self there (unmade p ac forms h links ranges fr frs st standing stacked targets hold i s here f d is plainly made w this self there reopened class have unlinked in' holders texts types old is_old covered waits below sights))) (holder_roots p h w f (bound p ac forms h links fr frs st i s here f d is plainly made w this self there (unmade p ac forms h links ranges fr frs st standing stacked targets hold i s here f d is plainly made w this self there reopened class have unlinked in' holders texts types old is_old covered waits below sights)) (v p ac forms h links fr frs st i s here f d is plainly made w this self there (unmade p ac forms h links ranges fr frs st standing stacked targets hold i s here f d is plainly made w this self there reopened class have unlinked in' holders texts types old is_old covered waits below sights))) g j reset o z.0 y is' z.1 now in
          inr (
            record {
              class = z.2.class;
              finished = z.2.finished;
              owner = z.2.owner;
              called = it.called;
              must = it.must;
              reached = λ heavy owes. (
                reached_by (this_done o is') o up.0,
                renew_it o z.0 z.1 single (ap (is_heavy_class p) (sym z.2.class) ∙ heavy) is',
              );
            },
            up.0,
          )

  turns : Turns p g j same fields alike frs
  turns o y u root' now = let t = turned o y u root' now in (t.0, t.1, elim t.2 [ inl it ↦ inl it | inr it ↦ inr it.0 ])

  -- the top frame claims nothing of what the reset reaches
  abbrev top : Frame
  top = after p ac forms h links fr frs st i s here f d is plainly made w this self there (unmade p ac forms h links ranges fr frs st standing stacked targets hold i s here f d is plainly made w this self there reopened class have unlinked in' holders texts types old is_old covered waits below sights)

  ends_of_this_now : EndsBelow g frs w
  ends_of_this_now = lent_ends_below p g ends_now frs unfinished_now w self_now.0 self_now.1 lent_now

  claims_none : (o : ℕ) (z : Object) (c : Covers p g false false old frs top o z) → IsOwned p g false false old frs top o z c → object_at g o ≡ Some z → IsWithin g w o → claims p (method_at p top.method) c.origin c.fact ≡ true
      → (is_held c.fact.mode && lends_this p top) ≡ false → ⊥
  claims_none o z c key at up claimed keeps = elim (claims_by p (method_at p top.method) c.origin c.fact claimed) [
    | inl own ↦ owned_apart p g frs w o z ends_of_this_now at up (key.owner refl own)
    | inr held ↦
        (let lends = ap (λ (b : Bool). b && lends_this p top) (sym held.0) ∙ keeps in
        let field = held_by_this p g false false old frs top o z c (c.true' claimed refl keeps).finished held.0 held.1 lends (claims_owned p (method_at p top.method) c.origin c.fact claimed).0 in
        let holder : field.holder ≡ w = (let both : values.Object field.holder ≡ values.Object w = sym field.runs ∙ this in (let one : field.holder ≡ w = cc in one)) in
        no_way_round g ends_now o w field.field z at (field.owns ∙ ap (λ (m : ℕ). owners.Field m field.field) holder) up)
  ]

  stay : HoldersStay p g j
  stay = alike_holders p g j alike

  top_covered : IsCovered p j gives_none renews_none old frs top
  top_covered q o y less kept held at heavy owes = go (turned o y (place_value p j top.method top.locals q) held at)
    where
      was_held : root_of g (place_value p g top.method top.locals q) ≡ Some o
      was_held = sym (same_held p g j same fields alike top.method top.locals q) ∙ held

      go : (x : Object) × (object_at g o ≡ Some x) × ((y ≡ x) ⊎ (IsRenewed p g frs o x y × IsWithin g w o)) → IsKeyed p j false false old frs top q o y
      go (x, before, inl it) =
          subst (λ (z : Object). IsKeyed p j false false old frs top q o z) (sym it)
          (keyed_same p g j same fields alike false false old frs top o x q
          (moved_covered p ac forms h links ranges fr frs st standing stacked targets hold i s here f d is plainly made w this self there reopened class have unlinked in' holders texts types old is_old covered waits below sights q o x less kept was_held before (ap (λ (z : Object). is_heavy_class p z.class) (sym it) ∙ heavy)
          (bears_before p g j stay o x y (ap (λ (z : Object). z.class) it) (ap (λ (z : Object). z.finished) it) (ap (λ (z : Object). z.owner) it) owes)))
      go (x, before, inr (anew, up)) = by (moved_covered p ac forms h links ranges fr frs st standing stacked targets hold i s here f d is plainly made w this self there reopened class have unlinked in' holders texts types old is_old covered waits below sights q o x less kept was_held before wide owes')
        where
          wide : is_heavy_class p x.class ≡ true
          wide = ap (is_heavy_class p) (sym anew.class) ∙ heavy

          owes' : OwesOrHolds p g o x
          owes' = bears_before p g j stay o x y anew.class anew.finished anew.owner owes

          reached : IsReachedBy p g frs o
          reached = (anew.reached heavy owes').0

          by : IsKeyed p g false false old frs top q o x → IsKeyed p j false false old frs top q o y
          by (unowned u) = unowned (unowned_anew p g j same fields alike ends_now false false false old frs top (moved_old p ac forms h links ranges fr frs st standing stacked targets hold i s here f d is plainly made w this self there reopened class have unlinked in' holders texts types old is_old covered waits below sights) o x y before wide anew.class anew.finished anew.owner reached q u)
          by (owned c in'' key) = owned_anew p g j same fields alike ends_now false false false old frs top (moved_old p ac forms h links ranges fr frs st standing stacked targets hold i s here f d is plainly made w this self there reopened class have unlinked in' holders texts types old is_old covered waits below sights) o x y before wide anew.class anew.finished anew.owner reached q c in'' key
              (λ claimed apart' keeps. absurd (claims_none o x c key before up claimed keeps))

  reset_below : OwnersBelow j (n + 1)
  reset_below o y now = let z = back_now o y now in ap (is_frame_from (n + 1 + 1)) z.2.owner ∙ moved_below p ac forms h links ranges fr frs st standing stacked targets hold i s here f d is plainly made w this self there reopened class have unlinked in' holders texts types old is_old covered waits below sights o z.0 z.1

  reset_covered : AreCovered p j (top ∷ frs)
  reset_covered = (old, old_alike p g j alike frs top old (moved_old p ac forms h links ranges fr frs st standing stacked targets hold i s here f d is plainly made w this self there reopened class have unlinked in' holders texts types old is_old covered waits below sights), top_covered, waiting_anew p g j same fields alike ends_now old frs turns (moved_waits p ac forms h links ranges fr frs st standing stacked targets hold i s here f d is plainly made w this self there reopened class have unlinked in' holders texts types old is_old covered waits below sights), reset_below)

  reset_owns : FieldsOwn p j
  reset_owns = fields_own_kept p g j fields same (λ o y now. let z = back_now o y now in (z.0, z.1, z.2.class, z.2.link, z.2.finished, z.2.owner)) (moved_owns p ac forms h links ranges fr frs st standing stacked targets hold i s here f d is plainly made w this self there reopened class have unlinked in' holders texts types old is_old covered waits below sights)

  reset_linked : LinkedWere h j
  reset_linked o y l now some =
      let z = back_now o y now in
      let x = moved_linked p ac forms h links fr frs st i s here f d is plainly made w this self there (unmade p ac forms h links ranges fr frs st standing stacked targets hold i s here f d is plainly made w this self there reopened class have unlinked in' holders texts types old is_old covered waits below sights) o z.0 l z.1 (sym z.2.link ∙ some) in
      (x.0, x.1, x.2, z.2.class ∙ x.3)

  reset_nobody : UnfinishedAreUnowned j
  reset_nobody o y now open' = let z = back_now o y now in z.2.owner ∙ unowned_now o z.0 z.1 (sym z.2.finished ∙ open')

  reset_unfinished : KeepsUnfinished h j no_other
  reset_unfinished o x y apart' before now none = let z = back_now o y now in z.2.finished ∙ moved_unfinished p ac forms h links fr frs st i s here f d is plainly made w this self there (unmade p ac forms h links ranges fr frs st standing stacked targets hold i s here f d is plainly made w this self there reopened class have unlinked in' holders texts types old is_old covered waits below sights) o x z.0 apart' before z.1 none

  -- the field's type has an obligation
  field_heavy : is_heavy_in p (Some f) ≡ true
  field_heavy = elim plainly [
    | inl makes ↦ absurd (true≢false (sym makes ∙ opens_no_constructor (method_at p fr.method) reopened.opens))
    | inr opens ↦ opens.2
  ]

  -- ---- what is being made

  -- what moved into the field was finished
  not_made : (o : ℕ) (y : Object) → object_at g o ≡ Some y → is_heavy_class p y.class ≡ true → y.finished ≡ false → root_of g (field_value p g w f) ≡ Some o → ⊥
  not_made o y now heavy open' found = elim (value_is p ac forms h links fr frs st i s here f d is plainly made w this self there (unmade p ac forms h links ranges fr frs st standing stacked targets hold i s here f d is plainly made w this self there reopened class have unlinked in' holders texts types old is_old covered waits below sights) old covered (not_aliased p ac forms h links ranges fr frs st standing stacked targets hold i s here f d is plainly made w this self there reopened class have unlinked in' holders texts types old is_old covered waits below sights) field_heavy o x.0 root_before x.1 (ap (is_heavy_class p) (sym on.class) ∙ heavy) (inl (open_owes x.0 unfinished'))) [
    | inl own ↦ true≢false (sym own.1 ∙ unfinished')
    | inr field ↦ (let never : owners.Unowned ≡ owners.Field w f = sym (have.unfinished o x.0 x.1 unfinished') ∙ field in cc)
  ]
    where
      x : (x : Object) × (object_at h o ≡ Some x) × IsStored p h w f (v p ac forms h links fr frs st i s here f d is plainly made w this self there (unmade p ac forms h links ranges fr frs st standing stacked targets hold i s here f d is plainly made w this self there reopened class have unlinked in' holders texts types old is_old covered waits below sights)) o x y
      x = back p ac forms h links fr frs st i s here f d is plainly made w this self there (unmade p ac forms h links ranges fr frs st standing stacked targets hold i s here f d is plainly made w this self there reopened class have unlinked in' holders texts types old is_old covered waits below sights) o y now

      on : GoesOn x.0 y
      on = stored_goes_on p h w f (v p ac forms h links fr frs st i s here f d is plainly made w this self there (unmade p ac forms h links ranges fr frs st standing stacked targets hold i s here f d is plainly made w this self there reopened class have unlinked in' holders texts types old is_old covered waits below sights)) o x.0 y x.2

      unfinished' : (x.0).finished ≡ false
      unfinished' = sym on.finished ∙ open'

      root_before : root_of h (v p ac forms h links fr frs st i s here f d is plainly made w this self there (unmade p ac forms h links ranges fr frs st standing stacked targets hold i s here f d is plainly made w this self there reopened class have unlinked in' holders texts types old is_old covered waits below sights)) ≡ Some o
      root_before = sym (value_root h g (roots p ac forms h links fr frs st i s here f d is plainly made w this self there (unmade p ac forms h links ranges fr frs st standing stacked targets hold i s here f d is plainly made w this self there reopened class have unlinked in' holders texts types old is_old covered waits below sights)) (v p ac forms h links fr frs st i s here f d is plainly made w this self there (unmade p ac forms h links ranges fr frs st standing stacked targets hold i s here f d is plainly made w this self there reopened class have unlinked in' holders texts types old is_old covered waits below sights)) (holds_there p h ranges fr (All-head (λ (u : Frame). LocalsInRange h u.locals) fr frs in') (places.Temp d) (room p ac forms h links fr frs st i s here f d is plainly made w this self there (unmade p ac forms h links ranges fr frs st standing stacked targets hold i s here f d is plainly made w this self there reopened class have unlinked in' holders texts types old is_old covered waits below sights) old covered))) ∙ ap (root_of g) (sym (holds_here' p ac forms h links fr frs st i s here f d is plainly made w this self there (unmade p ac forms h links ranges fr frs st standing stacked targets hold i s here f d is plainly made w this self there reopened class have unlinked in' holders texts types old is_old covered waits below sights))) ∙ found

  -- a place of a frame below that holds an object that is being made, with an obligation, held it
  held_before : (fr' : Frame) → HoldsThere p h fr' → HeldBefore p h g fr'
  held_before fr' inside q o y small root' now heavy open' = go q small root'
    where
      there' : (q' : Place) → IsSmall q' → place_value p g fr'.method fr'.locals q' ≡ place_value p h fr'.method fr'.locals q' → root_of g (place_value p g fr'.method fr'.locals q') ≡ Some o
          → root_of h (place_value p h fr'.method fr'.locals q') ≡ Some o
      there' q' less value found = sym (value_root h g (roots p ac forms h links fr frs st i s here f d is plainly made w this self there (unmade p ac forms h links ranges fr frs st standing stacked targets hold i s here f d is plainly made w this self there reopened class have unlinked in' holders texts types old is_old covered waits below sights)) (place_value p h fr'.method fr'.locals q') (inside q' less)) ∙ ap (root_of g) (sym value) ∙ found

      at_field : (m : ℕ) → m < 16 → (x : Option FieldId) → owning_field_beside p fr'.method m ≡ x → (u : Value) → fr'.locals.this ≡ u → root_of g (place_value p g fr'.method fr'.locals (places.Field m)) ≡ Some o
          → root_of h (place_value p h fr'.method fr'.locals (places.Field m)) ≡ Some o
      at_field m less None beside u runs found = there' (places.Field m) less (ap (field_place_value p g fr'.locals.this) beside ∙ sym (ap (field_place_value p h fr'.locals.this) beside)) found
      at_field m less (Some x) beside (values.Object u) runs found = by (nat_eq u w) refl (nat_eq x.0 f.0) refl
        where
          value : (a : HeapContents) → place_value p a fr'.method fr'.locals (places.Field m) ≡ field_value p a u x
          value a = ap (field_place_value p a fr'.locals.this) beside ∙ ap (λ (t : Value). field_place_value p a t (Some x)) runs

          other : ((u ≡ w) × (x ≡ f) → ⊥) → root_of h (place_value p h fr'.method fr'.locals (places.Field m)) ≡ Some o
          other off = there' (places.Field m) less (value g ∙ holds_other' p ac forms h links fr frs st i s here f d is plainly made w this self there (unmade p ac forms h links ranges fr frs st standing stacked targets hold i s here f d is plainly made w this self there reopened class have unlinked in' holders texts types old is_old covered waits below sights) u x off ∙ sym (value h)) found

          by : (a : Bool) → nat_eq u w ≡ a → (b : Bool) → nat_eq x.0 f.0 ≡ b → root_of h (place_value p h fr'.method fr'.locals (places.Field m)) ≡ Some o
          by true one true both = absurd (not_made o y now heavy open'
              (ap (root_of g) (ap (λ (t : ℕ). field_value p g t f) (sym (eqb-true u w one)) ∙ ap (field_value p g u) (sym (ap (λ (t : ℕ). (let z : FieldId = record { 0 = t } in z)) (eqb-true x.0 f.0 both))) ∙ sym (value g)) ∙ found))
          by true one false off = other (λ is'. true≢false (sym (eq-eqb x.0 f.0 (ap (λ (t : FieldId). t.0) is'.1)) ∙ off))
          by false off b both = other (λ is'. true≢false (sym (eq-eqb u w is'.0) ∙ off))
      at_field m less (Some x) beside values.Nothing runs found =
          there' (places.Field m) less (ap (field_place_value p g fr'.locals.this) beside ∙ ap (λ (t : Value). field_place_value p g t (Some x)) runs ∙ sym (ap (field_place_value p h fr'.locals.this) beside ∙ ap (λ (t : Value). field_place_value p h t (Some x)) runs)) found
      at_field m less (Some x) beside u runs found =
          there' (places.Field m) less (ap (field_place_value p g fr'.locals.this) beside ∙ ap (λ (t : Value). field_place_value p g t (Some x)) runs ∙ sym (ap (field_place_value p h fr'.locals.this) beside ∙ ap (λ (t : Value). field_place_value p h t (Some x)) runs)) found

      go : (q' : Place) → IsSmall q' → root_of g (place_value p g fr'.method fr'.locals q') ≡ Some o → root_of h (place_value p h fr'.method fr'.locals q') ≡ Some o
      go (places.Var m) less found = there' (places.Var m) less refl found
      go (places.Temp m) less found = there' (places.Temp m) less refl found
      go places.This less found = there' places.This less refl found
      go places.Super less found = there' places.Super less refl found
      go (places.Field m) less found = at_field m less (owning_field_beside p fr'.method m) refl fr'.locals.this refl found

  each_held_before : (gs : List Frame) → LocalsIn h gs → AllHeldBefore p h g gs
  each_held_before [] all = tt
  each_held_before (x ∷ xs) all = (held_before x (holds_there p h ranges x (All-head (λ (u : Frame). LocalsInRange h u.locals) x xs all)), each_held_before xs (All-tail (λ (u : Frame). LocalsInRange h u.locals) x xs all))

  after_reset : (gs : List Frame) → AllHeldBefore p g j gs
  after_reset [] = tt
  after_reset (x ∷ xs) = ((λ q o y less root' now heavy open'. sym (same_held p g j same fields alike x.method x.locals q) ∙ root'), after_reset xs)

  reset_held_before : AllHeldBefore p h j frs
  reset_held_before = held_before_further p h g j (λ o y now. let z = back_now o y now in (z.0, z.1, z.2.class, z.2.finished)) frs (each_held_before frs others_in) (after_reset frs)

  reset_classes : StayOfClass h j
  reset_classes o x y before now = let z = back_now o y now in z.2.class ∙ moved_classes p ac forms h links fr frs st i s here f d is plainly made w this self there (unmade p ac forms h links ranges fr frs st standing stacked targets hold i s here f d is plainly made w this self there reopened class have unlinked in' holders texts types old is_old covered waits below sights) o x z.0 before z.1

  -- ---- the heap of the step

  -- what frames make
  reset_makers : (gs : List Frame) → MakersOwn p g gs → MakersOwn p j gs
  reset_makers [] owned' = tt
  reset_makers (x ∷ xs) owned' = (
    (λ u x' o y maker owning heavy found now wide owes. (let z = back_now o y now in
        z.2.owner ∙ owned'.0 u x' o z.0 maker owning heavy (sym (same (field_value p g u x')) ∙ found) z.1 (ap (is_heavy_class p) (sym z.2.class) ∙ wide) (bears_before p g j stay o z.0 y z.2.class z.2.finished z.2.owner owes))),
    reset_makers xs owned'.1,
  )

  pub reset_joined : MakersOwn p h (fr ∷ frs) → IsJoined p h (store_heap p ac forms h links fr frs st i s here f d is plainly made w this self there (unmade p ac forms h links ranges fr frs st standing stacked targets hold i s here f d is plainly made w this self there reopened class have unlinked in' holders texts types old is_old covered waits below sights)) top frs
  reset_joined makers = subst (λ (a : HeapContents). IsJoined p h a top frs) (sym (heap_is p ac forms h links fr frs st i s here f d is plainly made w this self there (unmade p ac forms h links ranges fr frs st standing stacked targets hold i s here f d is plainly made w this self there reopened class have unlinked in' holders texts types old is_old covered waits below sights))) (record { covered' = reset_covered; held = reset_held_before; owns = reset_owns; makers = makes_on p j fr top frs refl refl (reset_makers (fr ∷ frs) (moved_makers p ac forms h links ranges fr frs st standing stacked targets hold i s here f d is plainly made w this self there reopened class have unlinked in' holders texts types old is_old covered waits below sights makers)); were = reset_linked; classes = reset_classes; nobody = reset_nobody; unready = reset_unfinished })
