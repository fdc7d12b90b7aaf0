-- What a store into an owning field leaves of each object, whether its holder is finished or not, and of which objects it creates the obligation anew: of the holder, where it is finished and what
-- moves into the field is unmet, and of the finished objects on the way up from it.
use Rattle.std.proofs.Common.{◌≡◌, ◌⊎◌, inl, inr, ℕ, Bool, true, false, not, ◌&&◌, Option, Some, None, List, [], refl, sym, ap, ◌∙◌, subst, true≢false, if◌then◌else◌}
use Rattle.std.proofs.lemmas.Bool.{and_parts, not-true}
use Rattle.program_model.specs.declared.kinds.ClassId.{ClassId}
use Rattle.program_model.specs.declared.kinds.FieldId.{FieldId}
use Rattle.program_model.specs.declared.program.Program.{Program}
use Rattle.ledger_state.specs.Contents.{HeapContents}
use Rattle.ledger_state.specs.Fields.{field_of}
use Rattle.ledger_state.specs.Heaps.{has_number, is_reached, object_at, root, root_of}
use Rattle.ledger_state.specs.declared.entry.Owner.{Owner}
use Rattle.ledger_state.specs.declared.entry.Owner.TheVariants as owners
use Rattle.ledger_state.specs.declared.object.Object.{Object}
use Rattle.ledger_state.specs.declared.value.Value.{Value}
use Rattle.ledger_state.specs.declared.value.Value.TheVariants as values
use Rattle.ledger_obligations.specs.Obligations.{finished_in, given_up, holder_roots, is_unmet, is_unmet_root, moved_in, moves_in, reached, reset_in, resets_holder, roots_where, stored_owning}
use Rattle.ledger_state.specs.Heaps.{same_root}
use Rattle.heap_laws.specs.Heaps.{Evolves, GoesOn, HasEarlierLinks}
use Rattle.heap_laws.specs.Holders.{FieldsOwnOneMore, HoldersAreUnlinked, IsTested, IsWithin}
use Rattle.heap_laws.specs.Stores.{IsMovedIn, IsStored}
use Rattle.heap_laws.proofs.HeapLaws.{evolving_heaps-links, roots_go_on-number}
use Rattle.heap_laws.proofs.ObjectLaws.{changed_at, changed_count}
use Rattle.heap_laws.proofs.ReachedRoots.{reached_begins, reached_goes_up, reached_is_above}
use Rattle.heap_laws.proofs.ResetHeaps.{IsResetOf, reset_back}
use Rattle.heap_laws.proofs.RootLaws.{one_object, root_itself}
use Rattle.heap_laws.proofs.StoredObjects.{moved_back, moved_there, stored_goes_on}
use Rattle.heap_laws.proofs.WaysUp.{within_with_one_more}

module _ (p : Program) (h : HeapContents) (w : ℕ) (f : FieldId) (bound : Bool) (v : Value) where
  -- the heap when what the field held is given up, and the value has moved in
  abbrev pub moved : HeapContents
  moved = moved_in p h w f bound v

  -- the holder is reset
  abbrev pub resets : Bool
  resets = resets_holder p h w f bound (field_of p h (values.Object w) f) v

  -- the roots that the reset reaches
  abbrev pub reset_of_holder : List ℕ
  reset_of_holder = holder_roots p h w f bound v

  -- then the value moves and is unmet, it is another object than the field held, and the holder is finished
  pub resets_when : resets ≡ true → (moves_in p h f bound v ≡ true) × (is_unmet_root h (root_of h v) ≡ true) × (same_root (root_of h (field_of p h (values.Object w) f)) (root_of h v) ≡ false) × (finished_in (object_at h w) ≡ true)
  resets_when is =
      let old = root_of h (field_of p h (values.Object w) f) in
      let three = and_parts (moves_in p h f bound v && is_unmet_root h (root_of h v) && not (same_root old (root_of h v))) (finished_in (object_at h w)) is in
      let two = and_parts (moves_in p h f bound v && is_unmet_root h (root_of h v)) (not (same_root old (root_of h v))) three.0 in
      let one = and_parts (moves_in p h f bound v) (is_unmet_root h (root_of h v)) two.0 in
      (one.0, one.1, not-true (same_root old (root_of h v)) two.1, three.1)

  -- what the store leaves is that heap, but that those are emptied which the reset reaches
  pub store_resets : IsResetOf p moved reset_of_holder moved (stored_owning p h w f bound v)
  store_resets = record {
    count = changed_count (reset_in p moved reset_of_holder) moved;
    objects = λ n. changed_at (reset_in p moved reset_of_holder) moved n;
  }

  -- each object was there, and is as it was, given up, or owned by the field; and then it may be emptied
  pub stored_was : (n : ℕ) (y : Object) → object_at (stored_owning p h w f bound v) n ≡ Some y
      → (x : Object) × (z : Object) × (object_at h n ≡ Some x) × IsStored p h w f v n x z × (object_at moved n ≡ Some z) × (reset_in p moved reset_of_holder n z ≡ y)
  stored_was n y at =
      let z = reset_back p moved reset_of_holder moved (stored_owning p h w f bound v) store_resets n y at in
      let x = moved_back p h w f v bound n z.0 z.1 in
      (x.0, z.0, x.1, x.2, z.1, z.2)

  -- each object goes on as the value moves
  pub moves_on : Evolves h moved
  moves_on n x at =
      let y = moved_there p h w f v bound n (x, at) in
      let was = moved_back p h w f v bound n y.0 y.1 in
      (y.0, y.1, subst (λ (u : Object). GoesOn u y.0) (one_object was.0 x (object_at h n) was.1 at) (stored_goes_on p h w f v n was.0 y.0 was.2))

  -- a field owns what it owned, or it is the one of the store
  pub moved_owner : (n u : ℕ) (g : FieldId) (y : Object) → object_at moved n ≡ Some y → y.owner ≡ owners.Field u g
      → ((x : Object) × (object_at h n ≡ Some x) × (x.owner ≡ owners.Field u g)) ⊎ ((x : Object) × (object_at h n ≡ Some x) × IsMovedIn p h f v n x × (u ≡ w))
  moved_owner n u g y at owned = let x = moved_back p h w f v bound n y at in by x.0 x.1 x.2
    where
      by : (x : Object) → object_at h n ≡ Some x → IsStored p h w f v n x y
          → ((x : Object) × (object_at h n ≡ Some x) × (x.owner ≡ owners.Field u g)) ⊎ ((x : Object) × (object_at h n ≡ Some x) × IsMovedIn p h f v n x × (u ≡ w))
      by x before (inl same) = inl (x, before, ap (λ (z : Object). z.owner) (sym same) ∙ owned)
      by x before (inr (inl gone)) = absurd (given_to_none x (ap (λ (z : Object). z.owner) (sym gone.1) ∙ owned))
        where
          given_to_none : (z : Object) → (given_up z).owner ≡ owners.Field u g → ⊥
          given_to_none z is = go (is_unmet z) is
            where
              go : (b : Bool) → (if b then owners.Lost else owners.Released) ≡ owners.Field u g → ⊥
              go true same = let never : ◌≡◌ {A = Owner} owners.Lost (owners.Field u g) = same in cc
              go false same = let never : ◌≡◌ {A = Owner} owners.Released (owners.Field u g) = same in cc
      by x before (inr (inr into)) =
          let both : owners.Field w f ≡ owners.Field u g = ap (λ (z : Object). z.owner) (sym into.1) ∙ owned in
          inr (x, before, into.0, (let same : w ≡ u = cc in sym same))

  -- ---- a finished holder, which is linked to none

  module _ (links : HasEarlierLinks h) (self : Object) (at : object_at h w ≡ Some self) (free : self.link ≡ None) (done : self.finished ≡ true) where
    holder_now : (z : Object) × (object_at moved w ≡ Some z) × GoesOn self z
    holder_now = moves_on w self at

    -- it is its own root, before and after
    holder_root : root moved w ≡ w
    holder_root = root_itself moved w holder_now.0 holder_now.1 (holder_now.2.link ∙ free)

    holder_finished : finished_in (object_at moved w) ≡ true
    holder_finished = ap finished_in holder_now.1 ∙ holder_now.2.finished ∙ done

    same_root' : (n : ℕ) (x : Object) → object_at h n ≡ Some x → root moved n ≡ root h n
    same_root' n x there = roots_go_on-number h moved n x links (evolving_heaps-links h moved moves_on) there

    -- where the holder is reset, its obligation is created anew
    pub store_begins : resets ≡ true → is_reached moved reset_of_holder w ≡ true
    store_begins is =
        ap (λ (b : Bool). is_reached moved (roots_where b moved w) w) is
        ∙ reached_begins moved w (ap (λ (n : ℕ). finished_in (object_at moved n)) holder_root ∙ holder_finished)

    -- fields own what they owned, and the field of the store the root of the value
    pub owns_one_more : (n : ℕ) → root_of h v ≡ Some n → FieldsOwnOneMore n w h moved
    owns_one_more n value o y u g there owned = elim (moved_owner o u g y there owned) [
      | inl was ↦ inl was
      | inr into ↦ inr ((let both : Some o ≡ Some n = sym into.2.root ∙ value in (let one : o ≡ n = cc in one)), into.3)
    ]

    module _ (test : ClassId → Bool) (unlinked : HoldersAreUnlinked test h) (tested : test self.class ≡ true) where
      -- holders are linked to none, as before
      pub moved_holders : HoldersAreUnlinked test moved
      moved_holders o y u g there passes owned = elim (moved_owner o u g y there owned) [
        | inl was ↦ (let goes = moves_on o was.0 was.1 in
            let same = one_object goes.0 y (object_at moved o) goes.1 there in
            let holder = unlinked o was.0 u g was.1 (ap test (sym goes.2.class ∙ ap (λ (z : Object). z.class) same) ∙ passes) was.2 in
            let now = moves_on u holder.0 holder.1 in
            (now.0, now.1, now.2.link ∙ holder.2, ap test now.2.class ∙ holder.3))
        | inr into ↦ (holder_now.0, ap (object_at moved) into.3 ∙ holder_now.1, holder_now.2.link ∙ free, ap test holder_now.2.class ∙ tested)
      ]

      holder_tested : IsTested test moved (root moved w)
      holder_tested y there = ap test (ap (λ (z : Object). z.class) (one_object y holder_now.0 (object_at moved w) (sym (ap (object_at moved) holder_root) ∙ there) holder_now.1) ∙ holder_now.2.class) ∙ tested

      -- the holder is within each root that the reset reaches, which is finished
      pub store_is_up : (n : ℕ) → is_reached moved reset_of_holder n ≡ true → (resets ≡ true) × IsWithin moved w (root moved n) × (finished_in (object_at moved (root moved n)) ≡ true)
      store_is_up n is = go resets refl is
        where
          go : (b : Bool) → resets ≡ b → has_number (roots_where b moved w) (root moved n) ≡ true → (resets ≡ true) × IsWithin moved w (root moved n) × (finished_in (object_at moved (root moved n)) ≡ true)
          go false is' has = absurd (true≢false (sym has))
          go true is' has =
              let up = reached_is_above moved test moved_holders w (root moved n) holder_tested has in
              (is', subst (λ (k : ℕ). IsWithin moved k (root moved n)) holder_root up.0, up.1)

      -- so it was before the store
      pub store_was_up : (n : ℕ) (x : Object) → object_at h n ≡ Some x → is_reached moved reset_of_holder n ≡ true → IsWithin h w (root h n)
      store_was_up n x there is = by (root_of h v) refl
        where
          up : IsWithin moved w (root moved n)
          up = (store_is_up n is).1

          by : (r : Option ℕ) → root_of h v ≡ r → IsWithin h w (root h n)
          by None none = absurd (true≢false (sym (resets_when (store_is_up n is).0).1 ∙ ap (is_unmet_root h) none))
          by (Some k) value = elim (within_with_one_more h moved k w w (root moved n) (owns_one_more k value) up) [
            | inl was ↦ subst (IsWithin h w) (same_root' n x there) was
            | inr around ↦ subst (IsWithin h w) (same_root' n x there) around.1
          ]

      -- with a root that the reset reaches it reaches the object whose field owns it, where that is finished
      pub store_goes_up : (n u : ℕ) (g : FieldId) (y : Object) → object_at moved n ≡ Some y → y.link ≡ None → test y.class ≡ true → y.owner ≡ owners.Field u g → finished_in (object_at moved u) ≡ true
          → is_reached moved reset_of_holder n ≡ true → is_reached moved reset_of_holder u ≡ true
      store_goes_up n u g y there none passes owned done' is = go resets is
        where
          itself' : root moved n ≡ n
          itself' = root_itself moved n y there none

          go : (b : Bool) → has_number (roots_where b moved w) (root moved n) ≡ true → has_number (roots_where b moved w) (root moved u) ≡ true
          go false has = absurd (true≢false (sym has))
          go true has =
              let holder = moved_holders n y u g there passes owned in
              ap (has_number (reached moved (Some w))) (root_itself moved u holder.0 holder.1 holder.2)
              ∙ reached_goes_up moved test moved_holders w n u g y (subst (λ (k : ℕ). has_number (reached moved (Some w)) k ≡ true) itself' has) there passes owned done'

      -- what is reached, and linked to none, is of a class that passes the test
      pub store_tested : (n : ℕ) (y : Object) → object_at moved n ≡ Some y → y.link ≡ None → is_reached moved reset_of_holder n ≡ true → test y.class ≡ true
      store_tested n y there none is = go resets is
        where
          go : (b : Bool) → has_number (roots_where b moved w) (root moved n) ≡ true → test y.class ≡ true
          go false has = absurd (true≢false (sym has))
          go true has = (reached_is_above moved test moved_holders w (root moved n) holder_tested has).2 y (ap (object_at moved) (root_itself moved n y there none) ∙ there)
