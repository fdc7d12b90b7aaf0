-- Objects that a reset reaches whose target is in hand of a frame, or of one above it: what the call that began the frame spares is none of these, and where the frame owns such an object, or its
-- constructor has it in a field of what it makes, the call at which the frame waits creates the object's obligation anew.
use Rattle.std.proofs.Common.{◌≡◌, ◌⊎◌, inl, inr, ℕ, ◌+◌, ◌≤◌, true, false, true≢false, Some, List, [], ◌∷◌, ◌++◌, length, sym, ap, ◌∙◌, subst, arith, not, None}
use Rattle.std.proofs.lemmas.Bool.{and_parts, not-true}
use Rattle.std.proofs.lemmas.List.{append_assoc}
use Rattle.program_model.specs.declared.kinds.FieldId.{FieldId}
use Rattle.program_model.specs.declared.program.Program.{Program}
use Rattle.program_model.specs.Lookups.{method_at}
use Rattle.ledger_obligations.specs.Bodies.{constructs, reset_in}
use Rattle.ledger_obligations.specs.MustCallSets.{is_heavy_class}
use Rattle.ownership_rules.specs.Signatures.{is_position}
use Rattle.ledger_state.specs.Contents.{HeapContents}
use Rattle.ledger_state.specs.Heaps.{object_at}
use Rattle.ledger_state.specs.declared.entry.Owner.{Owner}
use Rattle.ledger_state.specs.declared.entry.Owner.TheVariants as owners
use Rattle.ledger_state.specs.declared.object.Object.{Object}
use Rattle.ledger_state.specs.declared.value.Value.TheVariants as values
use Rattle.value_laws.specs.Chains.{HaveEnds}
use Rattle.value_laws.specs.Configuration.{Frame}
use Rattle.value_laws.specs.FieldContents.{AreNew, AreUnfinished}
use Rattle.value_laws.specs.HeapAnew.{is_field_owner}
use Rattle.value_laws.specs.Holders.{HasTop, HoldersAreUnlinked, IsWithin, by_field, itself}
use Rattle.value_laws.specs.PlaceFacts.{EndsBelow, IsHeavyObject, IsSpared, OwesOrHolds}
use Rattle.value_laws.specs.Renewing.{HasInHand, HasOwningField, IsHeldBy, IsLentFrom, IsOwnedByThis, IsWholeObject, answers_for_fields, is_renewed, lends_this, reopens}
use Rattle.value_laws.proofs.RootLaws.{one_object}
use Rattle.value_laws.proofs.SettledFrames.{AllRenewInHand, IsOnTheWay, RenewsInHand, is_lending, making_lends, way_begins, way_goes_down}
use Rattle.value_laws.proofs.Spared.{declares, elsewhere, spared_is_not_reached}
use Rattle.value_laws.proofs.SparingCalls.{constructor_of, ends_further, lent_ends_below, made_top, making, not_made_here, owned_apart, unmade}
use Rattle.value_laws.proofs.SparingEnds.{made_apart}
use Rattle.value_laws.proofs.Tops.{no_way_round}
use Rattle.value_laws.proofs.WaysUp.{on_from_holder, one_top, top_is_last, within_further, within_top}
use Rattle.covering_laws.proofs.HeavyFields.{answers_by}
use Rattle.covering_laws.proofs.Owners.{held_at}

-- The object is on the way up from the target of a reset, which a frame above these, or the first one of them, has in hand and renews. (`frs` are the frames from this one on, `mid` those above them.)
pub record IsReachedBy (p : Program) (h : HeapContents) (frs : List Frame) (o : ℕ) : Type 0 where
  pub mid : List Frame
  pub target : ℕ
  pub object : Object
  pub at : object_at h target ≡ Some object
  pub heavy : IsHeavyObject p object
  pub lent : IsLentFrom p h (mid ++ frs) target object.owner
  pub within : IsWithin h target o
  pub new : AreNew p (mid ++ frs)
  pub unfinished : AreUnfinished p h (mid ++ frs)

-- so it is for the frames below
pub reached_below : (p : Program) (h : HeapContents) (fr : Frame) (frs : List Frame) (o : ℕ) → IsReachedBy p h (fr ∷ frs) o → IsReachedBy p h frs o
reached_below p h fr frs o r = record {
  mid = r.mid ++ (fr ∷ []);
  target = r.target;
  object = r.object;
  at = r.at;
  heavy = r.heavy;
  lent = subst (λ (fs : List Frame). IsLentFrom p h fs r.target r.object.owner) same r.lent;
  within = r.within;
  new = subst (AreNew p) same r.new;
  unfinished = subst (AreUnfinished p h) same r.unfinished;
}
  where
    same : r.mid ++ (fr ∷ frs) ≡ (r.mid ++ (fr ∷ [])) ++ frs
    same = sym (append_assoc r.mid (fr ∷ []) frs)

-- ---- lists of frames

longer : (mid frs : List Frame) → length frs ≤ length (mid ++ frs)
longer [] frs = omega arith
longer (fr ∷ mid) frs = let more = longer mid frs in omega (arith, more)

unfinished_below : (p : Program) (h : HeapContents) (mid frs : List Frame) → AreUnfinished p h (mid ++ frs) → AreUnfinished p h frs
unfinished_below p h [] frs all = all
unfinished_below p h (fr ∷ mid) frs all = unfinished_below p h mid frs all.1

-- ---- what is reached

module _ (p : Program) (h : HeapContents) (have : HaveEnds h) where
  -- the call that began the frame does not spare it, where its way up ends below
  pub not_spared : (frs : List Frame) (o : ℕ) → IsReachedBy p h frs o → IsSpared p h frs o → EndsBelow h frs o → ⊥
  not_spared frs o r spared ends = go r.mid r.new r.unfinished r.lent
    where
      begun : (fs : List Frame) → IsSpared p h fs o → IsLentFrom p h fs r.target r.object.owner → ⊥
      begun [] spares lent = lent
      begun (fr ∷ fs) spares lent = true≢false (sym lent.0 ∙ spares r.target r.object r.at (inl r.heavy.0, r.heavy.1) (inl r.within))

      go : (mid : List Frame) → AreNew p (mid ++ frs) → AreUnfinished p h (mid ++ frs) → IsLentFrom p h (mid ++ frs) r.target r.object.owner → ⊥
      go [] new unfinished lent = begun frs spared lent
      go (fr ∷ mid) new unfinished lent = spared_is_not_reached p h have frs o r.target spared ends fr mid new unfinished r.object r.at (inl r.heavy.0, r.heavy.1) lent.1 r.within

  -- what an object is within that nobody owns is that object
  nobody_within : (o : ℕ) (x : Object) → object_at h o ≡ Some x → (t : ℕ) (y : Object) → object_at h t ≡ Some y → IsWithin h t o → y.owner ≡ owners.Unowned → x.owner ≡ owners.Unowned
  nobody_within o x at t y there up nobody =
      let same : t ≡ o = top_is_last h t o y there (ap is_field_owner nobody) up in
      ap (λ (u : Object). u.owner) (sym (one_object y x (object_at h o) (ap (object_at h) (sym same) ∙ there) at)) ∙ nobody

  module _ (g : Frame) (frs : List Frame) (o : ℕ) (x : Object) (at : object_at h o ≡ Some x) where
    -- what the frame owns it renews
    pub owned_renewed : IsReachedBy p h (g ∷ frs) o → x.owner ≡ owners.Frame (length frs + 1) → is_renewed p h g o ≡ true
    owned_renewed r owner = go r.mid r.new r.unfinished r.target r.object r.at r.within r.lent
      where
        go : (mid : List Frame) → AreNew p (mid ++ (g ∷ frs)) → AreUnfinished p h (mid ++ (g ∷ frs)) → (t : ℕ) (y : Object) → object_at h t ≡ Some y → IsWithin h t o → IsLentFrom p h (mid ++ (g ∷ frs)) t y.owner
            → is_renewed p h g o ≡ true
        go [] new unfinished t y there up lent = ap (is_renewed p h g) (sym (owned_apart p h have g frs new unfinished o t x y at owner there lent.1 (inl up))) ∙ lent.0
        go (fr ∷ mid) new unfinished t y there up (renews, inl own) =
            let same : t ≡ o = top_is_last h t o y there (ap is_field_owner own) up in
            let one : y ≡ x = one_object y x (object_at h o) (ap (object_at h) (sym same) ∙ there) at in
            absurd (apart (sym own ∙ ap (λ (u : Object). u.owner) one ∙ owner))
          where
            apart : ◌≡◌ {A = Owner} (owners.Frame (length (mid ++ (g ∷ frs)) + 1)) (owners.Frame (length frs + 1)) → ⊥
            apart is = let number : length (mid ++ (g ∷ frs)) + 1 ≡ length frs + 1 = cc in let more = longer mid (g ∷ frs) in omega (arith, number, more)
        go (fr ∷ mid) new unfinished t y there up (renews, inr (inl lent)) = go mid new.1 unfinished.1 t y there up lent
        go (fr ∷ mid) new unfinished t y there up (renews, inr (inr (inl held))) =
            let w = unmade p h have fr (mid ++ (g ∷ frs)) unfinished t y there held in
            let same = one_top h t (held.1).holder o (made_top p h have fr (mid ++ (g ∷ frs)) unfinished t y there held) (record { within = up; object = x; at = at; unheld = ap is_field_owner owner }) in
            absurd (let never : ◌≡◌ {A = Owner} owners.Unowned (owners.Frame (length frs + 1)) =
            sym w.unowned ∙ ap (λ (u : Object). u.owner) (one_object w.object x (object_at h o) (ap (object_at h) (sym same) ∙ w.at) at) ∙ owner in cc)
        go (fr ∷ mid) new unfinished t y there up (renews, inr (inr (inr (inl held)))) = elim (on_from_holder h t held.holder o held.field y there held.owns up) [
          | inl same ↦ absurd (let never : ◌≡◌ {A = Owner} (owners.Field held.holder held.field) (owners.Frame (length frs + 1)) =
              sym held.owns ∙ ap (λ (u : Object). u.owner) (one_object y x (object_at h o) (ap (object_at h) (sym same) ∙ there) at) ∙ owner in cc)
          | inr on ↦ go mid new.1 unfinished.1 held.holder held.object held.at on held.lends
        ]
        go (fr ∷ mid) new unfinished t y there up (renews, inr (inr (inr (inr made)))) =
            absurd (let never : ◌≡◌ {A = Owner} owners.Unowned (owners.Frame (length frs + 1)) =
            sym (nobody_within o x at t y there up made.1) ∙ owner in cc)

    -- so it is with what its constructor has in a field, where it does not lend `this`
    pub made_renewed : (unlinked : HoldersAreUnlinked (is_heavy_class p) h) (wide : IsHeavyObject p x) (says : (w : ℕ) (f : FieldId) (y : Object) → x.owner ≡ owners.Field w f → object_at h w ≡ Some y → HasOwningField p y.class)
        → RenewsInHand p h g frs → AllRenewInHand p h frs → lends_this p g ≡ false → IsReachedBy p h (g ∷ frs) o → IsHeldBy p g x.owner → is_renewed p h g o ≡ true
    made_renewed unlinked wide says renews below keeps r held = go r.mid r.new r.unfinished r.target r.object r.at r.within r.lent
      where
        unmade_below : AreUnfinished p h (g ∷ frs)
        unmade_below = unfinished_below p h r.mid (g ∷ frs) r.unfinished

        w : ℕ
        w = (held.1).holder

        top : HasTop h o w
        top = made_top p h have g frs unmade_below o x at held

        -- the object that it makes
        v : (y : Object) × (object_at h w ≡ Some y) × (y.link ≡ None) × (is_heavy_class p y.class ≡ true)
        v = unlinked o x w (held.1).field at wide.1 (held.1).owns

        whole : IsWholeObject p v.0
        whole = (inr (says w (held.1).field v.0 (held.1).owns v.1), v.3)

        bears : OwesOrHolds p h w v.0
        bears = inr (inl (o, x, at, wide.0, wide.1, held_at x.owner w (held.1).field (held.1).owns))

        -- it is not lent above
        no_lending : (mid : List Frame) → AreNew p (mid ++ (g ∷ frs)) → AreUnfinished p h (mid ++ (g ∷ frs)) → IsOnTheWay p h have unlinked w v.0 v.1 whole v.2 bears (mid ++ (g ∷ frs)) → ⊥
        no_lending [] new unfinished way =
            true≢false (sym (making_lends p h have unlinked w v.0 v.1 whole v.2 bears g frs way new unfinished.1 renews below (held.1).runs (constructor_of p h have g x.owner held)) ∙ keeps)
        no_lending (fr ∷ mid) new unfinished way = no_lending mid new.1 unfinished.1 (way_goes_down p h have unlinked w v.0 v.1 whole v.2 bears fr (mid ++ (g ∷ frs)) new unfinished way)

        go : (mid : List Frame) → AreNew p (mid ++ (g ∷ frs)) → AreUnfinished p h (mid ++ (g ∷ frs)) → (t : ℕ) (y : Object) → object_at h t ≡ Some y → IsWithin h t o → IsLentFrom p h (mid ++ (g ∷ frs)) t y.owner
            → is_renewed p h g o ≡ true
        go [] new unfinished t y there up lent = ap (is_renewed p h g) (sym (made_apart p h have g frs new unfinished o t x y at held (λ same. no_way_round h have o w (held.1).field x at (held.1).owns (subst (λ (n : ℕ). IsWithin h n o) same up)) there lent.1 (inl up))) ∙ lent.0
        go (fr ∷ mid) new unfinished t y there up (renewed, inl own) =
            let same : t ≡ o = top_is_last h t o y there (ap is_field_owner own) up in
            absurd (let never : ◌≡◌ {A = Owner} (owners.Field w (held.1).field) (owners.Frame (length (mid ++ (g ∷ frs)) + 1)) =
            sym (held.1).owns ∙ ap (λ (u : Object). u.owner) (sym (one_object y x (object_at h o) (ap (object_at h) (sym same) ∙ there) at)) ∙ own in cc)
        go (fr ∷ mid) new unfinished t y there up (renewed, inr (inl lent)) = go mid new.1 unfinished.1 t y there up lent
        go (fr ∷ mid) new unfinished t y there up (renewed, inr (inr (inl other))) =
            let same = one_top h t (other.1).holder w (made_top p h have fr (mid ++ (g ∷ frs)) unfinished t y there other)
            (record { within = within_further h t o w up top.within; object = top.object; at = top.at; unheld = top.unheld }) in
            absurd (elsewhere mid (g ∷ frs) (other.1).holder (new.0 (other.1).holder (declares p fr.method (other.1).field (other.1).declared) (constructor_of p h have fr y.owner other) (other.1).runs)
            (inl ((held.1).runs ∙ ap values.Object (sym same))))
        go (fr ∷ mid) new unfinished t y there up (renewed, inr (inr (inr (inl lends)))) = elim (on_from_holder h t lends.holder o lends.field y there lends.owns up) [
          | inl same ↦ absurd (no_lending mid new.1 unfinished.1 (way_begins p h have unlinked w v.0 v.1 whole v.2 bears (mid ++ (g ∷ frs)) (of_holder (let both : ◌≡◌ {A = Owner} (owners.Field lends.holder lends.field) (owners.Field w (held.1).field) =
              sym lends.owns ∙ ap (λ (u : Object). u.owner) (one_object y x (object_at h o) (ap (object_at h) (sym same) ∙ there) at) ∙ (held.1).owns in (let one : lends.holder ≡ w = cc in one)))))
          | inr on ↦ go mid new.1 unfinished.1 lends.holder lends.object lends.at on lends.lends
        ]
          where
            of_holder : lends.holder ≡ w → IsLentFrom p h (mid ++ (g ∷ frs)) w v.0.owner
            of_holder same =
                subst (λ (u : Object). IsLentFrom p h (mid ++ (g ∷ frs)) w u.owner) (one_object lends.object v.0 (object_at h w) (ap (object_at h) (sym same) ∙ lends.at) v.1)
                (subst (λ (n : ℕ). IsLentFrom p h (mid ++ (g ∷ frs)) n lends.object.owner) same lends.lends)
        go (fr ∷ mid) new unfinished t y there up (renewed, inr (inr (inr (inr made)))) =
            absurd (let never : ◌≡◌ {A = Owner} owners.Unowned (owners.Field w (held.1).field) =
            sym (nobody_within o x at t y there up made.1) ∙ (held.1).owns in cc)

    -- So it is with what a field of its `this` owns, which is lent to the frame, where this is a method that creates the obligation of `this` anew, and does not lend it.
    module _ (unlinked : HoldersAreUnlinked (is_heavy_class p) h) (w : ℕ) (f : FieldId) (owns : x.owner ≡ owners.Field w f) (runs : g.locals.this ≡ values.Object w) (y : Object) (there : object_at h w ≡ Some y) (wide : IsWholeObject p y)
        (single : y.link ≡ None) (bears : OwesOrHolds p h w y) (opens : reopens (method_at p g.method) ≡ true) (lent : IsLentFrom p h frs w y.owner) where
      around : IsWithin h w o → ⊥
      around up = no_way_round h have o w f x at owns up

      -- what the frame has in hand, and is within the content, is the content
      pub content_in_hand : (t : ℕ) (z : Object) → object_at h t ≡ Some z → IsWithin h t o → AllRenewInHand p h frs → HasInHand p h (IsLentFrom p h frs) (length frs + 1) g t z.owner → t ≡ o
      content_in_hand t z here up below (inl own) =
          let same : t ≡ o = top_is_last h t o z here (ap is_field_owner own) up in
          absurd (let never : ◌≡◌ {A = Owner} (owners.Field w f) (owners.Frame (length frs + 1)) = sym owns ∙ ap (λ (u : Object). u.owner) (sym (one_object z x (object_at h o) (ap (object_at h) (sym same) ∙ here) at)) ∙ own in cc)
      content_in_hand t z here up below (inr (inl also)) = absurd (around (subst (λ (n : ℕ). IsWithin h n o) (lent_once frs below also lent) up))
        where
          lent_once : (gs : List Frame) → AllRenewInHand p h gs → IsLentFrom p h gs t z.owner → IsLentFrom p h gs w y.owner → t ≡ w
          lent_once [] all never second = absurd never
          lent_once (c ∷ gs) all first second = (all.0).one t w first.0 second.0
      content_in_hand t z here up below (inr (inr (inl held))) =
          absurd (true≢false (sym (constructor_of p h have g z.owner held) ∙ not-true (constructs (method_at p g.method)) (and_parts (not (constructs (method_at p g.method))) (is_position (reset_in (method_at p g.method)) 0) opens).0))
      content_in_hand t z here up below (inr (inr (inr (inr made)))) =
          absurd (true≢false (sym (making p h have g t made.0) ∙ not-true (constructs (method_at p g.method)) (and_parts (not (constructs (method_at p g.method))) (is_position (reset_in (method_at p g.method)) 0) opens).0))
      content_in_hand t z here up below (inr (inr (inr (inl held)))) = elim (on_from_holder h t held.holder o held.field z here held.owns up) [
        | inl same ↦ same
        | inr on ↦ absurd (around (subst (λ (n : ℕ). IsWithin h n o) (let both : values.Object held.holder ≡ values.Object w = sym held.runs ∙ runs in (let one : held.holder ≡ w = cc in one)) on))
      ]

      pub content_renewed : IsReachedBy p h (g ∷ frs) o → RenewsInHand p h g frs → AllRenewInHand p h frs → lends_this p g ≡ false → is_renewed p h g o ≡ true
      content_renewed r renews below keeps = go r.mid r.new r.unfinished r.target r.object r.at r.within r.lent
        where
          -- `this` would be lent above
          no_lending : (mid : List Frame) → AreNew p (mid ++ (g ∷ frs)) → AreUnfinished p h (mid ++ (g ∷ frs)) → IsOnTheWay p h have unlinked w y there wide single bears (mid ++ (g ∷ frs)) → ⊥
          no_lending [] new unfinished way = true≢false (sym (is_lending p h have unlinked w y there wide single bears g frs way new unfinished.1 renews below runs opens) ∙ keeps)
          no_lending (fr ∷ mid) new unfinished way = no_lending mid new.1 unfinished.1 (way_goes_down p h have unlinked w y there wide single bears fr (mid ++ (g ∷ frs)) new unfinished way)

          all_below : (mid : List Frame) → EndsBelow h (mid ++ (g ∷ frs)) w
          all_below mid = further mid
            where
              mine : AreUnfinished p h (g ∷ frs)
              mine = unfinished_below p h r.mid (g ∷ frs) r.unfinished

              further : (mid : List Frame) → EndsBelow h (mid ++ (g ∷ frs)) w
              further [] = ends_further h g frs w (lent_ends_below p h have frs mine.1 w y there lent)
              further (fr ∷ mid) = ends_further h fr (mid ++ (g ∷ frs)) w (further mid)

          go : (mid : List Frame) → AreNew p (mid ++ (g ∷ frs)) → AreUnfinished p h (mid ++ (g ∷ frs)) → (t : ℕ) (z : Object) → object_at h t ≡ Some z → IsWithin h t o → IsLentFrom p h (mid ++ (g ∷ frs)) t z.owner
              → is_renewed p h g o ≡ true
          go [] new unfinished t z here up from = ap (is_renewed p h g) (sym (content_in_hand t z here up below from.1)) ∙ from.0
          go (fr ∷ mid) new unfinished t z here up (renewed, inl own) =
              let same : t ≡ o = top_is_last h t o z here (ap is_field_owner own) up in
              absurd (let never : ◌≡◌ {A = Owner} (owners.Field w f) (owners.Frame (length (mid ++ (g ∷ frs)) + 1)) =
              sym owns ∙ ap (λ (u : Object). u.owner) (sym (one_object z x (object_at h o) (ap (object_at h) (sym same) ∙ here) at)) ∙ own in cc)
          go (fr ∷ mid) new unfinished t z here up (renewed, inr (inl from)) = go mid new.1 unfinished.1 t z here up from
          go (fr ∷ mid) new unfinished t z here up (renewed, inr (inr (inl held))) =
              absurd (not_made_here p h have fr (mid ++ (g ∷ frs)) new unfinished w t z (all_below mid) here held
              (within_top h t w (held.1).holder (made_top p h have fr (mid ++ (g ∷ frs)) unfinished t z here held) (within_further h t o w up (by_field o w w f x at owns (itself w)))))
          go (fr ∷ mid) new unfinished t z here up (renewed, inr (inr (inr (inr made)))) =
              absurd (let never : ◌≡◌ {A = Owner} owners.Unowned (owners.Field w f) =
              sym (nobody_within o x at t z here up made.1) ∙ owns in cc)
          go (fr ∷ mid) new unfinished t z here up (renewed, inr (inr (inr (inl held)))) = elim (on_from_holder h t held.holder o held.field z here held.owns up) [
            | inl same ↦ absurd (no_lending mid new.1 unfinished.1 (way_begins p h have unlinked w y there wide single bears (mid ++ (g ∷ frs)) (of_holder (let both : ◌≡◌ {A = Owner} (owners.Field held.holder held.field) (owners.Field w f) =
                sym held.owns ∙ ap (λ (u : Object). u.owner) (one_object z x (object_at h o) (ap (object_at h) (sym same) ∙ here) at) ∙ owns in (let one : held.holder ≡ w = cc in one)))))
            | inr on ↦ go mid new.1 unfinished.1 held.holder held.object held.at on held.lends
          ]
            where
              of_holder : held.holder ≡ w → IsLentFrom p h (mid ++ (g ∷ frs)) w y.owner
              of_holder same =
                  subst (λ (u : Object). IsLentFrom p h (mid ++ (g ∷ frs)) w u.owner) (one_object held.object y (object_at h w) (ap (object_at h) (sym same) ∙ held.at) there)
                  (subst (λ (n : ℕ). IsLentFrom p h (mid ++ (g ∷ frs)) n held.object.owner) same held.lends)

-- ---- all frames that wait

-- the frame owns what has this owner; or it answers for the fields of `this`, does not lend it, and one of these does
abbrev pub IsOwnedHere : Program → List Frame → Frame → Owner → Type 0
IsOwnedHere p frs fr owner = (owner ≡ owners.Frame (length frs + 1)) ⊎ ((answers_for_fields (method_at p fr.method) ≡ true) × (lends_this p fr ≡ false) × IsOwnedByThis p fr owner)

-- each of these frames waits for a call that creates the obligation of object `o` anew, where it owns the object so
abbrev pub AllRenewIt : Program → HeapContents → List Frame → ℕ → Owner → Type 0
AllRenewIt p h [] o owner = Unit {0}
AllRenewIt p h (fr ∷ frs) o owner = (IsOwnedHere p frs fr owner → is_renewed p h fr o ≡ true) × AllRenewIt p h frs o owner

-- so it is with what a reset reaches
pub all_renew_it : (p : Program) (h : HeapContents) → HaveEnds h → HoldersAreUnlinked (is_heavy_class p) h → (o : ℕ) (x : Object) → object_at h o ≡ Some x → IsHeavyObject p x
    → ((w : ℕ) (f : FieldId) (y : Object) → x.owner ≡ owners.Field w f → object_at h w ≡ Some y → HasOwningField p y.class) → (frs : List Frame) → IsReachedBy p h frs o → AllRenewInHand p h frs → AllRenewIt p h frs o x.owner
all_renew_it p h have unlinked o x at heavy says [] r renews = tt
all_renew_it p h have unlinked o x at heavy says (fr ∷ frs) r renews = (here, all_renew_it p h have unlinked o x at heavy says frs (reached_below p h fr frs o r) renews.1)
  where
    by_content : reopens (method_at p fr.method) ≡ true → lends_this p fr ≡ false → IsOwnedByThis p fr x.owner → is_renewed p h fr o ≡ true
    by_content opens keeps c =
        let y = unlinked o x c.holder c.field at heavy.1 c.owns in
        let bears : OwesOrHolds p h c.holder y.0 = inr (inl (o, x, at, heavy.0, heavy.1, held_at x.owner c.holder c.field c.owns)) in
        let whole : IsWholeObject p y.0 = (inr (says c.holder c.field y.0 c.owns y.1), y.3) in
        content_renewed p h have fr frs o x at unlinked c.holder c.field c.owns c.runs y.0 y.1 whole y.2 bears opens ((renews.0).lent c.holder y.0 c.runs y.1 whole bears y.2 opens) r renews.0 renews.1 keeps

    here : IsOwnedHere p frs fr x.owner → is_renewed p h fr o ≡ true
    here (inl own) = owned_renewed p h have fr frs o x at r own
    here (inr (answers, keeps, c)) = elim (answers_by (method_at p fr.method) answers) [
      | inl alone ↦ made_renewed p h have fr frs o x at unlinked heavy says renews.0 renews.1 keeps r (alone, c)
      | inr opens ↦ by_content opens keeps c
    ]
