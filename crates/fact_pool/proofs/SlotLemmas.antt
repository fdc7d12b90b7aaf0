-- Lemmas on a pool's slab, seen as the lists of the live regions.
use Rattle.std.proofs.Common.{◌≡◌, ◌≢◌, true≢false, is_some, ◌⊎◌, ℕ, zero, suc, ◌+◌, ◌<◌, Bool, true, cond, List, [], ◌∷◌, length, get_or, Option, Some, None, IsSome, unwrap_or, option_map, refl, sym, ap, subst, ◌∙◌, inl, inr, arith}
use Rattle.std.specs.Prelude.{Result, Ok, Err, OnErr}
use Rattle.std.specs.List.{IsDistinct}
use Rattle.std.specs.Ordering.{nat_cmp, eq_by_cmp}
use Rattle.std.specs.Cmp.{nat_cmp_total}
use Rattle.std.specs.FinMap as map
use Rattle.std.specs.FinMap.{find, get-insert, get-remove, get-from_entries, same_map, nat_cmp-IsAntisymmetric}
use Rattle.std.proofs.lemmas.Bool.{cases_eq}
use Rattle.indexmap.specs.IndexSet.{IndexSet}
use Rattle.slab.specs.Slab.{Slab, get, with_value, Updates, ContainsKey}
use Rattle.slab.proofs.SlabLemmas.{Updates-with_value}
use Rattle.fact_pool.specs.declared.handle.Handle.{Handle}
use Rattle.fact_pool.specs.Regions.{IsLive, list_of, with_list, IsSound, most_values}
use Rattle.fact_pool.specs.Intern.{IsInterned}
use Rattle.fact_pool.proofs.ListLemmas.{interned-small}
use Rattle.fact_pool.specs.Layout.{lists_from, lists_of, regions_of}
use Rattle.fact_pool.proofs.RegionLemmas.{at_itself, at_other, no_values, sound-empty, sound-with_list, sound-without_list, with_list-own}

module _ {X S : Type 0} where
  -- no list has a key below that of the first slot
  lists_from-below : (key first : ℕ) (slots : List (Option (IndexSet X S))) → key < first → find nat_cmp key (lists_from first slots) ≡ None
  lists_from-below key first [] below = refl
  lists_from-below key first (None ∷ rest) below = lists_from-below key (first + 1) rest (omega arith)
  lists_from-below key first (Some s ∷ rest) below =
      rw (at_other key first (omega arith)) (lists_from-below key (first + 1) rest (omega arith))

  -- the list of a key is that of its slot
  lists_from-at : (key first at : ℕ) (slots : List (Option (IndexSet X S))) → key ≡ first + at → find nat_cmp key (lists_from first slots) ≡ option_map (λ s. s.keys) (get_or slots at None)
  lists_from-at key first at [] is = refl
  lists_from-at key first zero (None ∷ rest) is = lists_from-below key (first + 1) rest (omega arith)
  lists_from-at key first (suc at) (None ∷ rest) is = lists_from-at key (first + 1) at rest (omega arith)
  lists_from-at key first zero (Some s ∷ rest) is =
      let same : key ≡ first = omega arith in
      rw (same, at_itself first) refl
  lists_from-at key first (suc at) (Some s ∷ rest) is =
      rw (at_other key first (λ e. omega arith)) (lists_from-at key (first + 1) at rest (omega arith))

  -- so a region has the values of its slot
  pub get-lists_of : (slots : List (Option (IndexSet X S))) (key : ℕ) → map.get (lists_of slots) key ≡ option_map (λ s. s.keys) (get_or slots key None)
  unfolding lists_of
  get-lists_of slots key = get-from_entries nat_cmp_total (lists_from 0 slots) key ∙ lists_from-at key 0 key slots (omega arith)

  -- a slot that is written is a list that is put into the map
  pub lists_of-written : (old new : Slab (IndexSet X S)) (key : ℕ) (s : IndexSet X S) → Updates old new key (Some s) → lists_of new.slots ≡ map.insert (lists_of old.slots) key s.keys
  lists_of-written old new key s updates =
      same_map nat_cmp_total nat_cmp-IsAntisymmetric _ _ (λ q. get-lists_of new.slots q ∙ by q (cases_eq q key) ∙ sym (get-insert nat_cmp_total (lists_of old.slots) key s.keys q))
    where
      by : (q : ℕ) → (q ≡ key) ⊎ (q ≢ key) → option_map (λ s. s.keys) (get_or new.slots q None) ≡ cond (eq_by_cmp nat_cmp q key) (Some s.keys) (map.get (lists_of old.slots) q)
      by q (inl same) = rw (same, at_itself key, updates.changed) refl
      by q (inr differ) = rw (at_other q key differ, updates.others q differ) (sym (get-lists_of old.slots q))

  -- a slot that is emptied is a list that is taken out of the map
  pub lists_of-emptied : (old new : Slab (IndexSet X S)) (key : ℕ) → Updates old new key None → lists_of new.slots ≡ map.remove (lists_of old.slots) key
  lists_of-emptied old new key updates =
      same_map nat_cmp_total nat_cmp-IsAntisymmetric _ _ (λ q. get-lists_of new.slots q ∙ by q (cases_eq q key) ∙ sym (get-remove nat_cmp_total (lists_of old.slots) key q))
    where
      by : (q : ℕ) → (q ≡ key) ⊎ (q ≢ key) → option_map (λ s. s.keys) (get_or new.slots q None) ≡ cond (eq_by_cmp nat_cmp q key) None (map.get (lists_of old.slots) q)
      by q (inl same) = rw (same, at_itself key, updates.changed) refl
      by q (inr differ) = rw (at_other q key differ, updates.others q differ) (sym (get-lists_of old.slots q))

module _ {X S : Type 0} (l : Slab (IndexSet X S)) (n key : ℕ) where
  -- a live region has a set
  pub has_set : IsLive (regions_of l.slots n) key → ContainsKey l key
  has_set live = some (get l key) (sym (ap is_some (get-lists_of l.slots key)) ∙ live)
    where
      some : (o : Option (IndexSet X S)) → is_some (option_map (λ s. s.keys) o) ≡ true → IsSome o
      some None e = e
      some (Some s) e = refl

  -- whose keys are its list
  pub list_of-set : (s : IndexSet X S) → get l key ≡ Some s → list_of (regions_of l.slots n) key ≡ s.keys
  list_of-set s at = ap (λ o. unwrap_or o []) (get-lists_of l.slots key ∙ ap (option_map (λ s. s.keys)) at)

  -- a key with no set is of no live region
  pub not_live : get l key ≡ None → ¬ (IsLive (regions_of l.slots n) key)
  not_live vacant live = true≢false (sym live ∙ ap is_some (get-lists_of l.slots key ∙ ap (option_map (λ s. s.keys)) vacant))

module _ {X S : Type 0} (old room new : Slab (IndexSet X S)) (key : ℕ) (s : IndexSet X S) where
  -- room is made, and then an empty set is put under a vacant key
  pub lists_of-begun : room ≡ record old { capacity = room.capacity } → Updates room new key (Some s) → s.keys ≡ [] → lists_of new.slots ≡ map.insert (lists_of old.slots) key []
  lists_of-begun kept updates none = lists_of-written room new key s updates ∙ ap (λ l. map.insert (lists_of l.slots) key s.keys) kept ∙ ap (map.insert (lists_of old.slots) key) none

  pub sound-begun : (eq : X → X → Bool) (n m : ℕ) → room ≡ record old { capacity = room.capacity } → Updates room new key (Some s) → s.keys ≡ [] → IsSound eq (regions_of old.slots n) → IsSound eq (regions_of new.slots m)
  sound-begun eq n m kept updates none sound = rw (lists_of-begun kept updates none) (sound-with_list eq (regions_of old.slots n) m key [] sound (no_values eq) (omega arith))

module _ {X S : Type 0} (old new : Slab (IndexSet X S)) (key : ℕ) where
  pub sound-released : (eq : X → X → Bool) (n m : ℕ) → Updates old new key None → IsSound eq (regions_of old.slots n) → IsSound eq (regions_of new.slots m)
  sound-released eq n m updates sound = rw (lists_of-emptied old new key updates) (sound-without_list eq (regions_of old.slots n) m key sound)

module _ {X S E : Type 0} (eq : X → X → Bool) (old : Slab (IndexSet X S)) (n key : ℕ) (x : X) (s t : IndexSet X S) (r : Result (Handle × Bool) E)
    (at : get old key ≡ Some s) (does : IsInterned eq s.keys x r t.keys) where
  -- a value is interned in the set s of the key, of which t is left
  written : Updates old (with_value old key t) key (Some t)
  written = Updates-with_value old key t (ap is_some at)

  pub interned-list : IsInterned eq (list_of (regions_of old.slots n) key) x r (list_of (regions_of (with_value old key t).slots n) key)
  interned-list = rw (list_of-set old n key s at, list_of-set (with_value old key t) n key t written.changed) does

  pub interned-others : regions_of (with_value old key t).slots n ≡ with_list (regions_of old.slots n) key (list_of (regions_of (with_value old key t).slots n) key)
  interned-others =
      let list = list_of-set (with_value old key t) n key t written.changed in
      λ i. record { lists = (lists_of-written old (with_value old key t) key t written ∙ ap (map.insert (lists_of old.slots) key) (sym list)) i; begun = n }

  pub interned-live : IsLive (regions_of (with_value old key t).slots n) key
  interned-live = rw (get-lists_of (with_value old key t).slots key, written.changed) refl

  pub interned-sound : IsDistinct eq t.keys → length s.keys < most_values → IsSound eq (regions_of old.slots n) → IsSound eq (regions_of (with_value old key t).slots n)
  interned-sound distinct room sound =
      rw (lists_of-written old (with_value old key t) key t written)
      (sound-with_list eq (regions_of old.slots n) n key t.keys sound distinct (interned-small eq s.keys x t.keys r does room))

  pub interned-err : OnErr r (regions_of (with_value old key t).slots n ≡ regions_of old.slots n)
  interned-err = by r does
    where
      same : t.keys ≡ s.keys → regions_of (with_value old key t).slots n ≡ regions_of old.slots n
      same kept =
          let live : IsLive (regions_of old.slots n) key = rw (get-lists_of old.slots key, at) refl in
          interned-others ∙ ap (with_list (regions_of old.slots n) key) (list_of-set (with_value old key t) n key t written.changed ∙ kept ∙ sym (list_of-set old n key s at)) ∙ with_list-own (regions_of old.slots n) key live

      by : (r : Result (Handle × Bool) E) → IsInterned eq s.keys x r t.keys → OnErr r (regions_of (with_value old key t).slots n ≡ regions_of old.slots n)
      by (Ok p) h = tt
      by (Err e) h = same h.1

module _ {X S : Type 0} (l : Slab (IndexSet X S)) (n key handle : ℕ) where
  -- a place of a region is one of its set
  pub has_set_at : handle < length (list_of (regions_of l.slots n) key) → ContainsKey l key
  has_set_at within = some (get l key) (subst (λ xs. handle < length xs) (ap (λ o. unwrap_or o []) (get-lists_of l.slots key)) within)
    where
      some : (o : Option (IndexSet X S)) → handle < length (unwrap_or (option_map (λ s. s.keys) o) []) → IsSome o
      some None h = absurd (omega arith)
      some (Some s) h = refl

pub lists_of-none : {X S : Type 0} (slots : List (Option (IndexSet X S))) → slots ≡ [] → lists_of slots ≡ map.empty
unfolding lists_of
lists_of-none slots none = ap lists_of none

pub sound-none : {X S : Type 0} (eq : X → X → Bool) (slots : List (Option (IndexSet X S))) (n : ℕ) → slots ≡ [] → IsSound eq (regions_of slots n)
sound-none eq slots n none = rw (lists_of-none slots none) (sound-empty eq n)
