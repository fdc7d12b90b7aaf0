-- A store into a field of a finished object that is lent to the frame which stores: what the field held leaves the way up, and is given up, and what the frame owned joins it. What ends below frames does so
-- still; what they spare they spared, where it was not given up; what is lent to them is lent to them still; and what was old when they began is as it was.
use Rattle.std.proofs.Common.{◌≡◌, ◌⊎◌, inl, inr, ℕ, ◌+◌, ◌≤◌, Bool, true, false, Some, None, List, [], ◌∷◌, length, refl, sym, ap, ◌∙◌, subst, true≢false, arith}
use Rattle.program_model.specs.declared.kinds.FieldId.{FieldId}
use Rattle.program_model.specs.declared.program.Program.{Program}
use Rattle.program_model.specs.Lookups.{method_at}
use Rattle.ownership_rules.specs.MustCallSets.{is_heavy_class}
use Rattle.ledger_state.specs.Contents.{HeapContents}
use Rattle.ledger_state.specs.Heaps.{object_at}
use Rattle.ledger_state.specs.declared.entry.Owner.{Owner}
use Rattle.ledger_state.specs.declared.entry.Owner.TheVariants as owners
use Rattle.ledger_state.specs.declared.object.Object.{Object}
use Rattle.ledger_state.specs.declared.value.Value.TheVariants as values
use Rattle.heap_laws.specs.Anew.{is_field_owner}
use Rattle.heap_laws.specs.Holders.{HasTop, HoldersAreUnlinked, IsComparable, IsWithin, by_field, itself}
use Rattle.heap_laws.proofs.RootLaws.{one_object}
use Rattle.heap_laws.proofs.WaysUp.{holder_has_top, one_top, own_top, within_further}
use Rattle.ledger_runs.specs.Configuration.{Frame}
use Rattle.agreement.specs.Chains.{HaveEnds}
use Rattle.agreement.specs.FieldContents.{AreNew, AreUnfinished}
use Rattle.agreement.specs.PlaceFacts.{EndsBelow, IsAnswered, IsContentOfThis, IsHeavyObject, IsInFieldBelow, IsOld, IsOwnedBelow, IsSpared, OwesOrHolds, Spares, is_frame_below, is_frame_from, is_given_up, leaves_all}
use Rattle.agreement.specs.Renewing.{HasInHand, HasOwningField, IsLentFrom, IsOwnedByThis, IsWhole, IsWholeObject, is_renewed}
use Rattle.agreement.proofs.SettledFrames.{IsOnTheWay, way_goes_down}
use Rattle.agreement.proofs.Spared.{from_here}
use Rattle.agreement.proofs.SparingCalls.{lent_ends_below}
use Rattle.agreement.proofs.Tops.{no_way_round}

-- The owner after the store: as it was; or a field of `w` was, and the object is given up; or the frame at position `m + 1` was, and a field of `w` is.
pub data StoredOwner (m w : ℕ) (a b : Owner) : Type 0 where
  stays : b ≡ a → StoredOwner m w a b
  leaves : (f : FieldId) → a ≡ owners.Field w f → is_given_up b ≡ true → StoredOwner m w a b
  joins : (f : FieldId) → a ≡ owners.Frame (m + 1) → b ≡ owners.Field w f → StoredOwner m w a b

-- From the heap `h` to the heap `k` objects stay as they were but for their owners, and for what was called on them and must be. The owners of finished objects with an obligation go so, and those of objects that are
-- not finished stay.
pub record StoresInto (p : Program) (h k : HeapContents) (m w : ℕ) : Type 0 where
  pub objects : (o : ℕ) (x : Object) → object_at h o ≡ Some x → (z : Object) × (object_at k o ≡ Some z) × (z.class ≡ x.class) × (z.finished ≡ x.finished) × (z.link ≡ x.link)
  pub back : (o : ℕ) (z : Object) → object_at k o ≡ Some z → (x : Object) × (object_at h o ≡ Some x)
  pub owner : (o : ℕ) (x z : Object) → object_at h o ≡ Some x → object_at k o ≡ Some z → IsHeavyObject p x → StoredOwner m w x.owner z.owner
  pub unmade : (o : ℕ) (x z : Object) → object_at h o ≡ Some x → object_at k o ≡ Some z → x.finished ≡ false → z.owner ≡ x.owner

-- what is given up no frame owns, nor a field
given_up_parts : (a : Owner) (n : ℕ) → is_given_up a ≡ true → (is_field_owner a ≡ false) × (is_frame_from n a ≡ false) × (is_frame_below n a ≡ false)
given_up_parts owners.Released n is = (refl, refl, refl)
given_up_parts owners.Lost n is = (refl, refl, refl)
given_up_parts (owners.Frame i) n is = absurd (true≢false (sym is))
given_up_parts (owners.Field v f) n is = absurd (true≢false (sym is))
given_up_parts owners.Library n is = absurd (true≢false (sym is))
given_up_parts owners.Unowned n is = absurd (true≢false (sym is))

module _ (p : Program) (h k : HeapContents) (have : HaveEnds h) (unlinked : HoldersAreUnlinked (is_heavy_class p) h) (m w : ℕ) (y : Object) (there : object_at h w ≡ Some y) (heavy : IsWholeObject p y) (single : y.link ≡ None) (bears : OwesOrHolds p h w y) (stores : StoresInto p h k m w) where
  -- what a field owns is finished
  owned_done : (o : ℕ) (x : Object) (v : ℕ) (f : FieldId) → object_at h o ≡ Some x → x.owner ≡ owners.Field v f → x.finished ≡ true
  owned_done o x v f at owned = go x.finished refl
    where
      go : (b : Bool) → x.finished ≡ b → x.finished ≡ true
      go true done = done
      go false open' = absurd (let never : ◌≡◌ {A = Owner} owners.Unowned (owners.Field v f) = sym (have.unfinished o x at open') ∙ owned in cc)

  -- a field of `w` owned what is on the way, which was given up: so the way ends there now
  pub record IsCut (a b : ℕ) : Type 0 where
    pub end : ℕ
    pub object : Object
    pub field : FieldId
    pub at : object_at h end ≡ Some object
    pub owns : object.owner ≡ owners.Field w field
    pub now : HasTop k a end
    pub gone : is_given_up now.object.owner ≡ true
    pub before : IsWithin h a end
    pub rest : IsWithin h w b

  -- what such an object is within is such an object, but that it need not be finished
  pub heavy_above : (a b : ℕ) (x z : Object) → object_at h a ≡ Some x → is_heavy_class p x.class ≡ true → object_at h b ≡ Some z → IsWithin h a b → is_heavy_class p z.class ≡ true
  heavy_above _ _ x z at wide there' (itself o) = ap (λ (u : Object). is_heavy_class p u.class) (one_object z x (object_at h o) there' at) ∙ wide
  heavy_above _ _ x z at wide there' (by_field o v b f x' at' owned rest) =
      let u = unlinked o x' v f at' (ap (λ (u : Object). is_heavy_class p u.class) (one_object x' x (object_at h o) at' at) ∙ wide) owned in
      heavy_above v b u.0 z u.1 u.3 there' rest

  pub way_or_cut : (a b : ℕ) (x : Object) → object_at h a ≡ Some x → is_heavy_class p x.class ≡ true → IsWithin h a b → IsWithin k a b ⊎ IsCut a b
  way_or_cut _ _ x at wide (itself o) = inl (itself o)
  way_or_cut _ _ y' there' wide' (by_field o v b f x at owned rest) =
      let wide : is_heavy_class p x.class ≡ true = ap (λ (u : Object). is_heavy_class p u.class) (one_object x y' (object_at h o) at there') ∙ wide' in
      let z = stores.objects o x at in
      let u = unlinked o x v f at wide owned in
      go z.0 z.1 (stores.owner o x z.0 at z.1 (owned_done o x v f at owned, wide)) (way_or_cut v b u.0 u.1 u.3 rest)
    where
      go : (z : Object) → object_at k o ≡ Some z → StoredOwner m w x.owner z.owner → IsWithin k v b ⊎ IsCut v b → IsWithin k o b ⊎ IsCut o b
      go z now (stays same) (inl on) = inl (by_field o v b f z now (same ∙ owned) on)
      go z now (stays same) (inr cut) =
          inr (record {
            end = cut.end;
            object = cut.object;
            field = cut.field;
            at = cut.at;
            owns = cut.owns;
            now = record { within = by_field o v cut.end f z now (same ∙ owned) cut.now.within; object = cut.now.object; at = cut.now.at; unheld = cut.now.unheld };
            gone = cut.gone;
            before = by_field o v cut.end f x at owned cut.before;
            rest = cut.rest;
          })
      go z now (leaves g was gone) on =
          inr (record {
            end = o;
            object = x;
            field = g;
            at = at;
            owns = was;
            now = record { within = itself o; object = z; at = now; unheld = (given_up_parts z.owner 0 gone).0 };
            gone = gone;
            before = itself o;
            rest = subst (λ (n : ℕ). IsWithin h n b) (let both : ◌≡◌ {A = Owner} (owners.Field v f) (owners.Field w g) = sym owned ∙ was in (let one : v ≡ w = cc in one)) rest;
          })
      go z now (joins g was is) on = absurd (let never : ◌≡◌ {A = Owner} (owners.Field v f) (owners.Frame (m + 1)) = sym owned ∙ was in cc)

  -- what ends below frames ends there still
  pub ends_below_after : (frs : List Frame) → length frs ≤ m → (o : ℕ) (x : Object) → object_at h o ≡ Some x → is_heavy_class p x.class ≡ true → EndsBelow h frs o → EndsBelow k frs o
  ends_below_after frs low o x at wide ends = elim (way_or_cut o ends.end x at wide ends.top.within) [
    | inr cut ↦ record {
      end = cut.end;
      top = cut.now;
      below = (given_up_parts cut.now.object.owner (length frs + 1) cut.gone).1;
      older = λ open'.
          absurd (true≢false (sym (owned_done cut.end cut.object w cut.field cut.at cut.owns)
          ∙ sym (let z = stores.objects cut.end cut.object cut.at in ap (λ (u : Object). u.finished) (one_object cut.now.object z.0 (object_at k cut.end) cut.now.at z.1) ∙ z.3) ∙ open'));
    }
    | inl on ↦ (let z = stores.objects ends.end ends.top.object ends.top.at in last on z.0 z.1 z.3 (goes z.0 z.1 ends.top.object.finished refl))
  ]
    where
      goes : (z : Object) → object_at k ends.end ≡ Some z → (b : Bool) → ends.top.object.finished ≡ b → StoredOwner m w ends.top.object.owner z.owner
      goes z now true done = stores.owner ends.end ends.top.object z ends.top.at now (done, heavy_above o ends.end x ends.top.object at wide ends.top.at ends.top.within)
      goes z now false open' = stays (stores.unmade ends.end ends.top.object z ends.top.at now open')

      last : IsWithin k o ends.end → (z : Object) → object_at k ends.end ≡ Some z → z.finished ≡ ends.top.object.finished → StoredOwner m w ends.top.object.owner z.owner → EndsBelow k frs o
      last on z now alike (stays same) = record {
        end = ends.end;
        top = record { within = on; object = z; at = now; unheld = ap is_field_owner same ∙ ends.top.unheld };
        below = ap (is_frame_from (length frs + 1)) same ∙ ends.below;
        older = λ open'. ends.older (sym alike ∙ open');
      }
      last on z now alike (leaves g was gone) = absurd (true≢false (sym (ap is_field_owner was) ∙ ends.top.unheld))
      last on z now alike (joins g was is) = absurd (true≢false (sym (from_here (length frs) m low) ∙ ap (is_frame_from (length frs + 1)) (sym was) ∙ ends.below))

  -- ---- what frames that wait spare, and have lent

  -- the call at which a frame waits renews one object at most, and the same before the store and after it
  pub record RenewsAlike (g : Frame) : Type 0 where
    pub alike : (o : ℕ) → is_renewed p k g o ≡ is_renewed p h g o
    pub one : (u v : ℕ) → is_renewed p h g u ≡ true → is_renewed p h g v ≡ true → u ≡ v

  abbrev pub AllRenewAlike : List Frame → Type 0
  AllRenewAlike [] = Unit {0}
  AllRenewAlike (g ∷ gs) = RenewsAlike g × AllRenewAlike gs

  -- what `w` is within ends where it does
  end_of_within : (frs : List Frame) (o : ℕ) → IsWithin h w o → EndsBelow h frs o → EndsBelow h frs w
  end_of_within frs o up ends = record {
    end = ends.end;
    top = record { within = within_further h w o ends.end up ends.top.within; object = ends.top.object; at = ends.top.at; unheld = ends.top.unheld };
    below = ends.below;
    older = ends.older;
  }

  end_of_holder : (frs : List Frame) (o : ℕ) (x : Object) (f : FieldId) → object_at h o ≡ Some x → x.owner ≡ owners.Field w f → EndsBelow h frs o → EndsBelow h frs w
  end_of_holder frs o x f at was ends = record {
    end = ends.end;
    top = record { within = (holder_has_top h o w ends.end f x at was ends.top).within; object = ends.top.object; at = ends.top.at; unheld = ends.top.unheld };
    below = ends.below;
    older = ends.older;
  }

  -- a frame on the way renews nothing that is within what a field of `w` owns
  inner_not_renewed : (g : Frame) (gs : List Frame) → IsOnTheWay p h have unlinked w y there heavy single bears (g ∷ gs) → ((u v : ℕ) → is_renewed p h g u ≡ true → is_renewed p h g v ≡ true → u ≡ v) → EndsBelow h (g ∷ gs) w
      → (u c : ℕ) (x : Object) (f : FieldId) → IsWithin h u c → object_at h c ≡ Some x → x.owner ≡ owners.Field w f → is_renewed p h g u ≡ true → ⊥
  inner_not_renewed g gs way one ends u c x f inner at owned anew = way ends (λ o z up at' wide lent.
      no_way_round h have c w f x at owned (within_further h w o c up (subst (λ (n : ℕ). IsWithin h n c) (one u o anew lent.0) inner)))

  whole_then : (z x : Object) → z.class ≡ x.class → z.finished ≡ x.finished → IsWhole p x → IsWhole p z
  whole_then z x class done (inl is) = inl (done ∙ is)
  whole_then z x class done (inr fields) = inr (subst (HasOwningField p) (sym class) fields)

  spared_by_one : (g : Frame) (gs : List Frame) → IsOnTheWay p h have unlinked w y there heavy single bears (g ∷ gs) → RenewsAlike g → (o : ℕ) (x' : Object) → object_at h o ≡ Some x' → is_heavy_class p x'.class ≡ true → EndsBelow h (g ∷ gs) o → IsAnswered k o → Spares p k g o → Spares p h g o
  spared_by_one g gs way alike o x' at'' wide'' ends answered spared u x at wide comes = by comes
    where
      now : (z : Object) × (object_at k u ≡ Some z) × (z.class ≡ x.class) × (z.finished ≡ x.finished) × (z.link ≡ x.link)
      now = stores.objects u x at

      wide_now : IsWholeObject p now.0
      wide_now = (whole_then now.0 x now.2 now.3 wide.0, ap (is_heavy_class p) now.2 ∙ wide.1)

      still : IsComparable k u o → is_renewed p h g u ≡ false
      still comes' = sym (alike.alike u) ∙ spared u now.0 now.1 wide_now comes'

      by : IsComparable h u o → is_renewed p h g u ≡ false
      by (inl up) = elim (way_or_cut u o x at wide.1 up) [
        | inl on ↦ still (inl on)
        | inr cut ↦ unrenewed (is_renewed p h g u) refl cut
      ]
        where
          unrenewed : (b : Bool) → is_renewed p h g u ≡ b → IsCut u o → is_renewed p h g u ≡ false
          unrenewed false is cut = is
          unrenewed true is cut = absurd (inner_not_renewed g gs way alike.one (end_of_within (g ∷ gs) o cut.rest ends) u cut.end cut.object cut.field cut.before cut.at cut.owns is)
      by (inr down) = elim (way_or_cut o u x' at'' wide'' down) [
        | inl on ↦ still (inr on)
        | inr cut ↦ (let same = one_top k o cut.end answered.0 cut.now answered.1 in
            let one = one_object cut.now.object answered.1.object (object_at k answered.0) (ap (object_at k) (sym same) ∙ cut.now.at) answered.1.at in
            absurd (true≢false (sym cut.gone ∙ ap (λ (z : Object). is_given_up z.owner) one ∙ answered.2)))
      ]

  -- what is spared, and was not given up, was spared
  pub spared_before : (frs : List Frame) → IsOnTheWay p h have unlinked w y there heavy single bears frs → AllRenewAlike frs → (o : ℕ) (x : Object) → object_at h o ≡ Some x → is_heavy_class p x.class ≡ true → EndsBelow h frs o → IsAnswered k o
      → IsSpared p k frs o → IsSpared p h frs o
  spared_before [] way alike o x at wide ends answered spared = tt
  spared_before (g ∷ gs) way alike o x at wide ends answered spared = λ u x' at' wide' comes. spared_by_one g gs way alike.0 o x at wide ends answered spared u x' at' wide' comes

  -- where the owner of an object of a class with an obligation goes
  goes_whole : (o : ℕ) (x z : Object) → object_at h o ≡ Some x → object_at k o ≡ Some z → is_heavy_class p x.class ≡ true → StoredOwner m w x.owner z.owner
  goes_whole o x z at now wide = go x.finished refl
    where
      go : (b : Bool) → x.finished ≡ b → StoredOwner m w x.owner z.owner
      go true done = stores.owner o x z at now (done, wide)
      go false open' = stays (stores.unmade o x z at now open')

  -- what is lent to frames on the way stays so, and keeps its owner
  abbrev pub StaysLent : List Frame → Type 0
  StaysLent gs = (o : ℕ) (x z : Object) → object_at h o ≡ Some x → object_at k o ≡ Some z → IsWholeObject p x → IsLentFrom p h gs o x.owner → (z.owner ≡ x.owner) × IsLentFrom p k gs o z.owner

  lent_to_one : (g : Frame) (gs : List Frame) → length (g ∷ gs) ≤ m → AreUnfinished p h (g ∷ gs) → RenewsAlike g → IsOnTheWay p h have unlinked w y there heavy single bears (g ∷ gs) → StaysLent gs → StaysLent (g ∷ gs)
  lent_to_one g gs low unfinished alike way lower o x z at now wide lent = by_owner (goes_whole o x z at now wide.1)
    where
      ends : EndsBelow h (g ∷ gs) o
      ends = lent_ends_below p h have (g ∷ gs) unfinished o x at lent

      by_hand : z.owner ≡ x.owner → HasInHand p h (IsLentFrom p h gs) (length gs + 1) g o x.owner → HasInHand p k (IsLentFrom p k gs) (length gs + 1) g o z.owner
      by_hand same (inl owner) = inl (same ∙ owner)
      by_hand same (inr (inl lent')) = inr (inl (lower o x z at now wide lent').1)
      by_hand same (inr (inr (inl held))) = inr (inr (inl (held.0, subst (IsOwnedByThis p g) (sym same) held.1)))
      by_hand same (inr (inr (inr (inr made)))) = inr (inr (inr (inr (made.0, same ∙ made.1))))
      by_hand same (inr (inr (inr (inl held)))) =
          let v = stores.objects held.holder held.object held.at in
          inr (inr (inr (inl (record {
            holder = held.holder;
            field = held.field;
            owns = same ∙ held.owns;
            runs = held.runs;
            method = held.method;
            object = v.0;
            at = v.1;
            whole = whole_then v.0 held.object v.2 v.3 held.whole;
            unlinked = λ done. v.4 ∙ held.unlinked (sym v.3 ∙ done);
            heavy = ap (is_heavy_class p) v.2 ∙ held.heavy;
            lends = (lower held.holder held.object v.0 held.at v.1 (held.whole, held.heavy) held.lends).1;
          }))))

      by_owner : StoredOwner m w x.owner z.owner → (z.owner ≡ x.owner) × IsLentFrom p k (g ∷ gs) o z.owner
      by_owner (stays same) = (same, (alike.alike o ∙ lent.0, by_hand same lent.1))
      by_owner (leaves f was gone) =
          absurd (inner_not_renewed g gs way alike.one
          (end_of_holder (g ∷ gs) o x f at was ends)
          o o x f (itself o) at was lent.0)
      by_owner (joins f was is) =
          let same = one_top h o ends.end o ends.top (own_top h o x at (ap is_field_owner was)) in
          let one = one_object ends.top.object x (object_at h o) (ap (object_at h) (sym same) ∙ ends.top.at) at in
          absurd (true≢false (sym (from_here (length (g ∷ gs)) m low) ∙ ap (is_frame_from (length (g ∷ gs) + 1)) (sym was ∙ ap (λ (u : Object). u.owner) (sym one)) ∙ ends.below))

  pub lent_after : (frs : List Frame) → length frs ≤ m → AreNew p frs → AreUnfinished p h frs → AllRenewAlike frs → IsOnTheWay p h have unlinked w y there heavy single bears frs → StaysLent frs
  lent_after [] low new unfinished alike way = λ o x z at now wide lent. absurd lent
  lent_after (g ∷ gs) low new unfinished alike way =
      lent_to_one g gs low unfinished alike.0 way
      (lent_after gs (let less : length gs ≤ m = omega (arith, low) in less) new.1 unfinished.1 alike.1 (way_goes_down p h have unlinked w y there heavy single bears g gs new unfinished way))

  -- ---- what is old

  -- What was old when the frame `fr` began, which stands on these, is so after the store. `others` says that nothing is claimed of the fields of `w` by the frame that waits for `fr`, and `apart` that where `fr`
  -- runs on `w` it does not leave all as it is.
  module _ (frs : List Frame) (low : length frs ≤ m) (fr : Frame) (old : ℕ → Bool) (is : IsOld p h frs fr old) (others : (f : FieldId) → IsInFieldBelow p frs (owners.Field w f) → ⊥)
      (apart : fr.locals.this ≡ values.Object w → leaves_all p (method_at p fr.method) ≡ false) where
    was : (o : ℕ) (z : Object) → object_at k o ≡ Some z → IsHeavyObject p z → (x : Object) × (object_at h o ≡ Some x) × IsHeavyObject p x
    was o z now wide =
        let x = stores.back o z now in
        let goes = stores.objects o x.0 x.1 in
        let same = one_object goes.0 z (object_at k o) goes.1 now in
        (x.0, x.1, (sym goes.3 ∙ ap (λ (u : Object). u.finished) same ∙ wide.0, ap (is_heavy_class p) (sym goes.2 ∙ ap (λ (u : Object). u.class) same) ∙ wide.1))

    field_below : (gs : List Frame) (a : Owner) → IsInFieldBelow p gs a → is_field_owner a ≡ true
    field_below [] a never = absurd never
    field_below (g ∷ gs) a held = ap is_field_owner (held.2).owns

    old_below : (o : ℕ) (x z : Object) → object_at h o ≡ Some x → IsHeavyObject p x → StoredOwner m w x.owner z.owner → IsOwnedBelow p frs z.owner → old o ≡ true
    old_below o x z at wide (stays same) owned = is.below o x at wide (subst (IsOwnedBelow p frs) same owned)
    old_below o x z at wide (leaves f before gone) (inl low') = absurd (true≢false (sym low' ∙ (given_up_parts z.owner (length frs + 1) gone).2))
    old_below o x z at wide (leaves f before gone) (inr held) = absurd (true≢false (sym (field_below frs z.owner held) ∙ (given_up_parts z.owner 0 gone).0))
    old_below o x z at wide (joins f before now) (inl low') = absurd (true≢false (sym (subst (λ (a : Owner). is_frame_below (length frs + 1) a ≡ true) now low')))
    old_below o x z at wide (joins f before now) (inr held) = absurd (others f (subst (IsInFieldBelow p frs) now held))

    old_content : (o : ℕ) (x z : Object) → object_at h o ≡ Some x → IsHeavyObject p x → StoredOwner m w x.owner z.owner → IsContentOfThis p fr z.owner → leaves_all p (method_at p fr.method) ≡ true → old o ≡ true
    old_content o x z at wide (stays same) content leaves' = is.contents o x at wide (subst (IsContentOfThis p fr) same content) leaves'
    old_content o x z at wide (leaves f before gone) content leaves' = absurd (true≢false (sym (ap is_field_owner content.owns) ∙ (given_up_parts z.owner 0 gone).0))
    old_content o x z at wide (joins f before now) content leaves' =
        let same : content.holder ≡ w = (let both : ◌≡◌ {A = Owner} (owners.Field content.holder content.field) (owners.Field w f) = sym content.owns ∙ now in cc) in
        absurd (true≢false (sym leaves' ∙ apart (content.runs ∙ ap values.Object same)))

    pub old_after : IsOld p k frs fr old
    old_after = record {
      there = λ o has. (let x = is.there o has in let z = stores.objects o x.0 x.1 in (z.0, z.1, z.3 ∙ x.2));
      ends = λ o z now wide has. (let x = was o z now wide in ends_below_after frs low o x.0 x.1 x.2.1 (is.ends o x.0 x.1 x.2 has));
      below = λ o z now wide owned. (let x = was o z now wide in old_below o x.0 z x.1 x.2 (stores.owner o x.0 z x.1 now x.2) owned);
      contents = λ o z now wide content leaves'. (let x = was o z now wide in old_content o x.0 z x.1 x.2 (stores.owner o x.0 z x.1 now x.2) content leaves');
      self = λ v z this now wide single settled. (let x = was v z now wide in let goes = stores.objects v x.0 x.1 in
          is.self v x.0 this x.1 x.2 (sym goes.4 ∙ ap (λ (u : Object). u.link) (one_object goes.0 z (object_at k v) goes.1 now) ∙ single) settled);
    }
