-- Over a store into a field of a finished object, which is lent to the frame that stores: what frames below own, have lent and answer for stays so, and the places of theirs of which something is said hold what they
-- held. A frame that runs on the same object lends it, or says nothing of its fields.
use Rattle.std.proofs.Common.{◌≡◌, ◌⊎◌, inl, inr, ℕ, ◌+◌, ◌<◌, ◌≤◌, Bool, true, false, not, Some, None, List, [], ◌∷◌, length, refl, sym, ap, ◌∙◌, subst, true≢false, arith, eqb-true}
use Rattle.std.proofs.lemmas.Bool.{and_parts}
use Rattle.program_model.specs.declared.kinds.ClassId.{ClassId}
use Rattle.program_model.specs.declared.kinds.FieldId.{FieldId}
use Rattle.program_model.specs.declared.program.Program.{Program}
use Rattle.program_model.specs.Lookups.{method_at}
use Rattle.ledger_obligations.specs.Bodies.{alias_in, constructs}
use Rattle.ledger_obligations.specs.MustCallSets.{is_heavy_class}
use Rattle.ledger_obligations.specs.Obligations.{is_held_by}
use Rattle.ownership_rules.specs.Signatures.{is_present}
use Rattle.ledger_state.specs.Contents.{HeapContents}
use Rattle.ledger_state.specs.Heaps.{object_at}
use Rattle.ledger_state.specs.declared.entry.Owner.{Owner}
use Rattle.ledger_state.specs.declared.entry.Owner.TheVariants as owners
use Rattle.ledger_state.specs.declared.object.Object.{Object}
use Rattle.ledger_state.specs.declared.value.Value.TheVariants as values
use Rattle.value_laws.specs.Chains.{HaveEnds}
use Rattle.value_laws.specs.Configuration.{Frame}
use Rattle.value_laws.specs.FieldContents.{AreNew, AreUnfinished}
use Rattle.value_laws.specs.HeapAnew.{is_field_owner}
use Rattle.value_laws.specs.Holders.{HasTop, HoldersAreUnlinked}
use Rattle.value_laws.specs.PlaceFacts.{IsAnswered, IsHolder, IsInFieldBelow, IsOwnedBelow, MayStore, OwesOrHolds, is_frame_below, is_frame_from, is_given, is_given_up, leaves_all}
use Rattle.value_laws.specs.Renewing.{IsWholeObject, answers_for_fields, lends_this}
use Rattle.value_laws.proofs.RootLaws.{one_object}
use Rattle.value_laws.proofs.SettledFrames.{AllRenewInHand, IsOnTheWay, RenewsInHand, is_lending, is_unsettled, making_lends, way_goes_down}
use Rattle.value_laws.proofs.StoreWays.{AllRenewAlike, StoredOwner, StoresInto, ends_below_after, heavy_above, joins, leaves, lent_after, spared_before, stays, way_or_cut}
use Rattle.value_laws.proofs.Tops.{has_top}
use Rattle.value_laws.proofs.WaysUp.{one_top}
use Rattle.covering_laws.proofs.HeavyFields.{answers_by}
use Rattle.covering_laws.proofs.Owners.{AllKeepOwners, HoldersWere, KeepsHeld, KeepsOwn, KeepsOwners, StaysApart, from_frame}
use Rattle.covering_laws.proofs.SaidFacts.{leaves_settles}

-- no frame owns what was given up, nor does a field
gone_parts : (a : Owner) → is_given_up a ≡ true → (is_field_owner a ≡ false) × ((n : ℕ) → (is_frame_from n a ≡ false) × (is_frame_below n a ≡ false)) × ((v : ℕ) → is_held_by a v ≡ false)
gone_parts owners.Released is = (refl, (λ n. (refl, refl)), λ v. refl)
gone_parts owners.Lost is = (refl, (λ n. (refl, refl)), λ v. refl)
gone_parts (owners.Frame i) is = absurd (true≢false (sym is))
gone_parts (owners.Field v f) is = absurd (true≢false (sym is))
gone_parts owners.Library is = absurd (true≢false (sym is))
gone_parts owners.Unowned is = absurd (true≢false (sym is))

-- a field has one object
same_holder : (v w : ℕ) (f g : FieldId) → ◌≡◌ {A = Owner} (owners.Field v f) (owners.Field w g) → v ≡ w
same_holder v w f g both = cc

module _ (p : Program) (h k : HeapContents) (have : HaveEnds h) (unlinked : HoldersAreUnlinked (is_heavy_class p) h) (m w : ℕ) (y : Object) (there : object_at h w ≡ Some y) (heavy : IsWholeObject p y) (single : y.link ≡ None)
    (bears : OwesOrHolds p h w y) (may : MayStore p y.class) (stores : StoresInto p h k m w) where
  abbrev OnWay : List Frame → Type 0
  OnWay gs = IsOnTheWay p h have unlinked w y there heavy single bears gs

  abbrev RenewAlike : List Frame → Type 0
  RenewAlike gs = AllRenewAlike p h k have unlinked m w y there heavy single bears stores gs

  abbrev Goes : Owner → Owner → Type 0
  Goes a b = StoredOwner m w a b

  goes : (o : ℕ) (x z : Object) → object_at h o ≡ Some x → object_at k o ≡ Some z → x.finished ≡ true → is_heavy_class p x.class ≡ true → Goes x.owner z.owner
  goes o x z at now done wide = stores.owner o x z at now (done, wide)

  -- a frame at the position from which something is stored, or above it
  high : (n : ℕ) → n ≤ m + 1 → is_frame_from n (owners.Frame (m + 1)) ≡ true
  high n low = from_frame n (m + 1) low

  holders : HoldersWere p h k
  holders v ready (c, z, now, done, wide, held) =
      let x = stores.back c z now in
      let n = stores.objects c x.0 x.1 in
      let same = one_object n.0 z (object_at k c) n.1 now in
      let made : x.0.finished ≡ true = sym n.3 ∙ ap (λ (u : Object). u.finished) same ∙ done in
      let broad : is_heavy_class p x.0.class ≡ true = ap (is_heavy_class p) (sym n.2 ∙ ap (λ (u : Object). u.class) same) ∙ wide in
      by x.0 x.1 made broad (goes c x.0 z x.1 now made broad)
    where
      by : (x : Object) → object_at h c ≡ Some x → x.finished ≡ true → is_heavy_class p x.class ≡ true → Goes x.owner z.owner → IsHolder p h v ⊎ ((u : Object) → object_at h v ≡ Some u → MayStore p u.class)
      by x at done' wide' (stays same) = inl (c, x, at, done', wide', ap (λ (a : Owner). is_held_by a v) (sym same) ∙ held)
      by x at done' wide' (leaves f was gone) = absurd (true≢false (sym held ∙ (gone_parts z.owner gone).2 v))
      by x at done' wide' (joins f was is) =
          let to : w ≡ v = eqb-true w v (sym (ap (λ (a : Owner). is_held_by a v) is) ∙ held) in
          inr (λ u at'. subst (MayStore p) (ap (λ (t : Object). t.class) (one_object y u (object_at h v) (ap (object_at h) (sym to) ∙ there) at')) may)

  answered : (o : ℕ) (x : Object) → object_at h o ≡ Some x → is_heavy_class p x.class ≡ true → IsAnswered k o → IsAnswered h o
  answered o x at wide answers = go (has_top h have o x at)
    where
      go : (e : ℕ) × HasTop h o e → IsAnswered h o
      go (e, top) = by (is_given_up top.object.owner) refl
        where
          ended : (t : HasTop k o e) → is_given_up t.object.owner ≡ true → ⊥
          ended t gone =
              let end = one_top k o e answers.0 t answers.1 in
              let one = one_object t.object answers.1.object (object_at k answers.0) (ap (object_at k) (sym end) ∙ t.at) answers.1.at in
              true≢false (sym gone ∙ ap (λ (u : Object). is_given_up u.owner) one ∙ answers.2)

          still : (z : Object) → object_at k e ≡ Some z → is_given_up top.object.owner ≡ true → Goes top.object.owner z.owner → is_given_up z.owner ≡ true
          still z now gone (stays same) = ap is_given_up same ∙ gone
          still z now gone (leaves f was gone') = gone'
          still z now gone (joins f was is) = absurd (true≢false (sym gone ∙ ap is_given_up was))

          made : (b : Bool) → top.object.finished ≡ b → is_given_up top.object.owner ≡ true → top.object.finished ≡ true
          made true done gone = done
          made false open' gone = absurd (true≢false (sym gone ∙ ap is_given_up (have.unfinished e top.object top.at open')))

          by : (b : Bool) → is_given_up top.object.owner ≡ b → IsAnswered h o
          by false answers' = (e, top, answers')
          by true gone = elim (way_or_cut p h k have unlinked m w y there heavy single bears stores o e x at wide top.within) [
            | inl on ↦ (let z = stores.objects e top.object top.at in
                let gone' = still z.0 z.1 gone (goes e top.object z.0 top.at z.1 (made top.object.finished refl gone) (heavy_above p h k have unlinked m w y there heavy single bears stores o e x top.object at wide top.at top.within)) in
                absurd (ended (record { within = on; object = z.0; at = z.1; unheld = (gone_parts z.0.owner gone').0 }) gone'))
            | inr cut ↦
                (let end = one_top k o cut.end answers.0 cut.now answers.1 in
                let one = one_object cut.now.object answers.1.object (object_at k answers.0) (ap (object_at k) (sym end) ∙ cut.now.at) answers.1.at in
                absurd (true≢false (sym cut.gone ∙ ap (λ (u : Object). is_given_up u.owner) one ∙ answers.2)))
          ]

  -- ---- a frame that runs on the object

  -- it does not answer for fields without lending the object
  lends_or_not : (g : Frame) (gs : List Frame) → OnWay (g ∷ gs) → AreNew p (g ∷ gs) → AreUnfinished p h gs → RenewsInHand p h g gs → AllRenewInHand p h gs → g.locals.this ≡ values.Object w → answers_for_fields (method_at p g.method) ≡ true → lends_this p g ≡ true
  lends_or_not g gs way new unfinished renews all this answers = elim (answers_by (method_at p g.method) answers) [
    | inl makes ↦ making_lends p h have unlinked w y there heavy single bears g gs way new unfinished renews all this (and_parts (constructs (method_at p g.method)) (not (is_present (alias_in (method_at p g.method)))) makes).0
    | inr opens ↦ is_lending p h have unlinked w y there heavy single bears g gs way new unfinished renews all this opens
  ]

  in_no_field_below : (gs : List Frame) → OnWay gs → AreNew p gs → AreUnfinished p h gs → AllRenewInHand p h gs → (f : FieldId) → IsInFieldBelow p gs (owners.Field w f) → ⊥
  in_no_field_below [] way new unfinished all f held = held
  in_no_field_below (g ∷ gs) way new unfinished all f (answers, keeps, by) =
      true≢false (sym (lends_or_not g gs way new unfinished.1 all.0 all.1 (by.runs ∙ ap values.Object (sym (same_holder w by.holder f by.field by.owns))) answers) ∙ keeps)

  -- ---- what stays of frames

  -- `aside` says that where the frame runs on the object, it does not leave all as it is
  module _ (gs : List Frame) (fr : Frame) (low : length gs ≤ m) (new : AreNew p gs) (unfinished : AreUnfinished p h gs) (alike : RenewAlike gs) (all : AllRenewInHand p h gs) (way : OnWay gs)
      (aside : fr.locals.this ≡ values.Object w → leaves_all p (method_at p fr.method) ≡ false) where
    not_from : (n : ℕ) (a b : Owner) → n ≤ m + 1 → Goes a b → is_frame_from n a ≡ false → is_frame_from n b ≡ false
    not_from n a b less (stays same) none = ap (is_frame_from n) same ∙ none
    not_from n a b less (leaves f was gone) none = ((gone_parts b gone).1 n).0
    not_from n a b less (joins f was is) none = absurd (true≢false (sym (high n less) ∙ sym (ap (is_frame_from n) was) ∙ none))

    content_was : (a b : Owner) (v : ℕ) (f : FieldId) → Goes a b → leaves_all p (method_at p fr.method) ≡ true → fr.locals.this ≡ values.Object v → b ≡ owners.Field v f → a ≡ owners.Field v f
    content_was a b v f (stays same) leaves' this owned = sym same ∙ owned
    content_was a b v f (leaves g was gone) leaves' this owned = absurd (true≢false (sym (ap is_field_owner owned) ∙ (gone_parts b gone).0))
    content_was a b v f (joins g was is) leaves' this owned = absurd (true≢false (sym leaves' ∙ aside (this ∙ ap values.Object (same_holder v w f g (sym owned ∙ is)))))

    below_was : (a b : Owner) → Goes a b → IsOwnedBelow p gs b → IsOwnedBelow p gs a
    below_was a b (stays same) owned = subst (IsOwnedBelow p gs) same owned
    below_was a b (leaves f was gone) (inl low') = absurd (true≢false (sym low' ∙ ((gone_parts b gone).1 (length gs + 1)).1))
    below_was a b (leaves f was gone) (inr held) = absurd (field_below gs held)
      where
        field_below : (hs : List Frame) → IsInFieldBelow p hs b → ⊥
        field_below [] never = never
        field_below (g ∷ hs) held' = true≢false (sym (ap is_field_owner (held'.2).owns) ∙ (gone_parts b gone).0)
    below_was a b (joins f was is) (inl low') = absurd (true≢false (sym low' ∙ ap (is_frame_below (length gs + 1)) is))
    below_was a b (joins f was is) (inr held) = absurd (in_no_field_below gs way new unfinished all f (subst (IsInFieldBelow p gs) is held))

    late : (o : ℕ) (z : Object) → object_at k o ≡ Some z → ((x : Object) → object_at h o ≡ Some x → x.finished ≡ true → ⊥) → (is_field_owner z.owner ≡ false) × (is_frame_below (length gs + 1) z.owner ≡ false)
    late o z now none = let x = stores.back o z now in by x.0 x.1 x.0.finished refl
      where
        unowned : z.owner ≡ owners.Unowned → (is_field_owner z.owner ≡ false) × (is_frame_below (length gs + 1) z.owner ≡ false)
        unowned nobody = (ap is_field_owner nobody, ap (is_frame_below (length gs + 1)) nobody)

        by : (x : Object) → object_at h o ≡ Some x → (b : Bool) → x.finished ≡ b → (is_field_owner z.owner ≡ false) × (is_frame_below (length gs + 1) z.owner ≡ false)
        by x at true done = absurd (none x at done)
        by x at false open' = unowned (stores.unmade o x z at now open' ∙ have.unfinished o x at open')

    pub stays_apart_here : StaysApart p h k gs fr
    stays_apart_here = record {
      apart = λ o x z at now done wide none. not_from (length gs + 1) x.owner z.owner (omega (arith, low)) (goes o x z at now done wide) none;
      free = λ o x z at now done wide none. not_from 0 x.owner z.owner (omega arith) (goes o x z at now done wide) none;
      content = λ o x z v f at now done wide leaves' this owned. content_was x.owner z.owner v f (goes o x z at now done wide) leaves' this owned;
      keeps = λ o x z at now whole lent. lent_after p h k have unlinked m w y there heavy single bears stores gs low new unfinished alike way o x z at now whole lent;
      ends = λ o x at wide ends. ends_below_after p h k have unlinked m w y there heavy single bears stores gs low o x at wide ends;
      below = λ o x z at now wide owned. below_was x.owner z.owner (goes o x z at now wide.0 wide.1) owned;
      late = late;
      spared = λ o x at wide ends answers is. spared_before p h k have unlinked m w y there heavy single bears stores gs way alike o x at wide.1 ends answers is;
      answered = answered;
      holders = holders;
    }

  -- so it is with a frame that waits
  module _ (gs : List Frame) (fr : Frame) (low : length gs < m) (new : AreNew p (fr ∷ gs)) (unfinished : AreUnfinished p h (fr ∷ gs)) (alike : RenewAlike (fr ∷ gs)) (all : AllRenewInHand p h (fr ∷ gs)) (way : OnWay (fr ∷ gs)) where
    own_here : (gives : ℕ → ClassId → Bool) → KeepsOwn p h k gives (length gs + 1) fr
    own_here gives q o x z small aside root at now done wide kept own = by x.owner z.owner (goes o x z at now done wide) own
      where
        by : (a b : Owner) → Goes a b → a ≡ owners.Frame (length gs + 1) → b ≡ owners.Frame (length gs + 1)
        by a b (stays same) mine = same ∙ mine
        by a b (leaves f was gone) mine = absurd (let never : ◌≡◌ {A = Owner} (owners.Field w f) (owners.Frame (length gs + 1)) = sym was ∙ mine in cc)
        by a b (joins f was is) mine = absurd (let both : ◌≡◌ {A = Owner} (owners.Frame (m + 1)) (owners.Frame (length gs + 1)) = sym was ∙ mine in (let same : m + 1 ≡ length gs + 1 = cc in omega (arith, low, same)))

    held_here : KeepsHeld p h k fr
    held_here o x z at now done wide answers keeps own = by x.owner z.owner (goes o x z at now done wide) own.holder own.field own.owns own.runs
      where
        by : (a b : Owner) → Goes a b → (v : ℕ) (f : FieldId) → a ≡ owners.Field v f → fr.locals.this ≡ values.Object v → b ≡ a
        by a b (stays same) v f owns runs = same
        by a b (leaves g was gone) v f owns runs =
            absurd (true≢false (sym (lends_or_not fr gs way new unfinished.1 all.0 all.1 (runs ∙ ap values.Object (same_holder v w f g (sym owns ∙ was))) answers) ∙ keeps))
        by a b (joins g was is) v f owns runs = absurd (let never : ◌≡◌ {A = Owner} (owners.Frame (m + 1)) (owners.Field v f) = sym was ∙ owns in cc)

    aside_here : fr.locals.this ≡ values.Object w → leaves_all p (method_at p fr.method) ≡ false
    aside_here this = by (leaves_all p (method_at p fr.method)) refl
      where
        by : (b : Bool) → leaves_all p (method_at p fr.method) ≡ b → leaves_all p (method_at p fr.method) ≡ false
        by false is = is
        by true is = absurd (true≢false (sym (leaves_settles p fr gs is) ∙ is_unsettled p h have unlinked w y there heavy single bears fr gs way new unfinished.1 all.0 all.1 this))

    keeps_here : (gives : ℕ → ClassId → Bool) → KeepsOwners p h k gives gs fr
    keeps_here gives = record {
      own = own_here gives;
      others = stays_apart_here gs fr (omega (arith, low)) new.1 unfinished.1 alike.1 all.1 (way_goes_down p h have unlinked w y there heavy single bears fr gs new unfinished way) aside_here;
      held = held_here;
    }

  pub owners_kept_below : (frs : List Frame) → length frs ≤ m → AreNew p frs → AreUnfinished p h frs → RenewAlike frs → AllRenewInHand p h frs → OnWay frs → AllKeepOwners p h k frs
  owners_kept_below [] low new unfinished alike all way = tt
  owners_kept_below (fr ∷ gs) low new unfinished alike all way = (
    keeps_here gs fr (let less : length gs < m = omega (arith, low) in less) new unfinished alike all way (is_given p h fr),
    owners_kept_below gs (let less : length gs ≤ m = omega (arith, low) in less) new.1 unfinished.1 alike.1 all.1 (way_goes_down p h have unlinked w y there heavy single bears fr gs new unfinished way),
  )
