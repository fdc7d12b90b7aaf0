-- What a caller of the pool cites: lemmas on the lists that a contract sees.
use Rattle.std.proofs.Common.{◌==◌, ◌≡◌, ◌≢◌, true≢false, ◌⊎◌, ℕ, ◌+◌, ◌≤◌, Bool, true, false, cond, List, [], length, Option, Some, None, IsSome, unwrap_or, refl, sym, ap, subst, ◌∙◌, inl, inr, arith}
use Rattle.std.specs.List.{IsDistinct}
use Rattle.std.specs.Ordering.{nat_cmp, eq_by_cmp}
use Rattle.std.specs.Cmp.{nat_cmp_total, unsigned_tied}
use Rattle.std.specs.FinMap as map
use Rattle.std.specs.FinMap.{get-empty, get-insert, get-remove, same_map, nat_cmp-IsAntisymmetric}
use Rattle.std.proofs.lemmas.Bool.{cases_eq, false_from_ne_true, eqb-true, eq-eqb}
use Rattle.fact_pool.specs.Regions.{Regions, IsLive, list_of, with_list, without_list, IsSound, most_values}

pub at_itself : (k : ℕ) → eq_by_cmp nat_cmp k k ≡ true
at_itself k = unsigned_tied k k ∙ eq-eqb k k refl

pub at_other : (k n : ℕ) → k ≢ n → eq_by_cmp nat_cmp k n ≡ false
at_other k n differ = unsigned_tied k n ∙ false_from_ne_true (k == n) (λ e. differ (eqb-true k n e))

module _ {X : Type 0} where
  -- what is known of the list that was put in
  pub get-with_list : (p : Regions X) (key : ℕ) (xs : List X) → map.get (with_list p key xs).lists key ≡ Some xs
  get-with_list p key xs = get-insert nat_cmp_total p.lists key xs key ∙ ap (λ b. cond b (Some xs) (map.get p.lists key)) (at_itself key)

  -- and of each other list
  pub get-with_list-other : (p : Regions X) (key : ℕ) (xs : List X) (q : ℕ) → q ≢ key → map.get (with_list p key xs).lists q ≡ map.get p.lists q
  get-with_list-other p key xs q differ = get-insert nat_cmp_total p.lists key xs q ∙ ap (λ b. cond b (Some xs) (map.get p.lists q)) (at_other q key differ)

  pub get-without_list : (p : Regions X) (key : ℕ) → map.get (without_list p key).lists key ≡ None
  get-without_list p key = get-remove nat_cmp_total p.lists key key ∙ ap (λ b. cond b None (map.get p.lists key)) (at_itself key)

  pub get-without_list-other : (p : Regions X) (key q : ℕ) → q ≢ key → map.get (without_list p key).lists q ≡ map.get p.lists q
  get-without_list-other p key q differ = get-remove nat_cmp_total p.lists key q ∙ ap (λ b. cond b None (map.get p.lists q)) (at_other q key differ)

  pub IsLive-with_list : (p : Regions X) (key : ℕ) (xs : List X) → IsLive (with_list p key xs) key
  IsLive-with_list p key xs = rw (get-with_list p key xs) refl

  pub list_of-with_list : (p : Regions X) (key : ℕ) (xs : List X) → list_of (with_list p key xs) key ≡ xs
  list_of-with_list p key xs = ap (λ o. unwrap_or o []) (get-with_list p key xs)

  pub list_of-with_list-other : (p : Regions X) (key : ℕ) (xs : List X) (q : ℕ) → q ≢ key → list_of (with_list p key xs) q ≡ list_of p q
  list_of-with_list-other p key xs q differ = ap (λ o. unwrap_or o []) (get-with_list-other p key xs q differ)

  -- a region that is live stays so when a list is put in
  pub IsLive-with_list-any : (p : Regions X) (key : ℕ) (xs : List X) (q : ℕ) → IsLive p q → IsLive (with_list p key xs) q
  IsLive-with_list-any p key xs q live = by (cases_eq q key)
    where
      by : (q ≡ key) ⊎ (q ≢ key) → IsLive (with_list p key xs) q
      by (inl same) = rw same (IsLive-with_list p key xs)
      by (inr differ) = rw (get-with_list-other p key xs q differ) live

  -- where one list grows by a value at most, so does each
  pub length-with_list : (p : Regions X) (key : ℕ) (xs : List X) → length xs ≤ length (list_of p key) + 1 → (q : ℕ) → length (list_of (with_list p key xs) q) ≤ length (list_of p q) + 1
  length-with_list p key xs grows q = by (cases_eq q key)
    where
      by : (q ≡ key) ⊎ (q ≢ key) → length (list_of (with_list p key xs) q) ≤ length (list_of p q) + 1
      by (inl same) = rw (same, list_of-with_list p key xs) grows
      by (inr differ) = rw (list_of-with_list-other p key xs q differ) (omega arith)

  pub list_of-without_list-other : (p : Regions X) (key q : ℕ) → q ≢ key → list_of (without_list p key) q ≡ list_of p q
  list_of-without_list-other p key q differ = ap (λ o. unwrap_or o []) (get-without_list-other p key q differ)

  -- a region that was live is another than one that was not
  pub live_differs : (p : Regions X) (q key : ℕ) → IsLive p q → ¬ (IsLive p key) → q ≢ key
  live_differs p q key live fresh same = fresh (subst (IsLive p) same live)

  -- two pools with the same lists and the same count are one
  pub same_regions : (p r : Regions X) → ((q : ℕ) → map.get p.lists q ≡ map.get r.lists q) → p.begun ≡ r.begun → p ≡ r
  same_regions p r lists begun = λ i. record { lists = same_map nat_cmp_total nat_cmp-IsAntisymmetric p.lists r.lists lists i; begun = begun i }

  -- of two lists that are put in one after the other the last one stands
  pub with_list-again : (p : Regions X) (key : ℕ) (xs ys : List X) → with_list (with_list p key xs) key ys ≡ with_list p key ys
  with_list-again p key xs ys = same_regions _ _ (λ q. by q (cases_eq q key)) refl
    where
      by : (q : ℕ) → (q ≡ key) ⊎ (q ≢ key) → map.get (with_list (with_list p key xs) key ys).lists q ≡ map.get (with_list p key ys).lists q
      by q (inl same) = rw same (get-with_list (with_list p key xs) key ys ∙ sym (get-with_list p key ys))
      by q (inr differ) = get-with_list-other (with_list p key xs) key ys q differ ∙ get-with_list-other p key xs q differ ∙ sym (get-with_list-other p key ys q differ)

  -- the list of a live region put in again changes nothing
  pub with_list-own : (p : Regions X) (key : ℕ) → IsLive p key → with_list p key (list_of p key) ≡ p
  with_list-own p key live = same_regions _ _ (λ q. by q (cases_eq q key)) refl
    where
      there : (o : Option (List X)) → IsSome o → Some (unwrap_or o []) ≡ o
      there None h = absurd (true≢false (sym h))
      there (Some xs) h = refl

      by : (q : ℕ) → (q ≡ key) ⊎ (q ≢ key) → map.get (with_list p key (list_of p key)).lists q ≡ map.get p.lists q
      by q (inl same) = rw same (get-with_list p key (list_of p key) ∙ there (map.get p.lists key) live)
      by q (inr differ) = get-with_list-other p key (list_of p key) q differ

  -- a region that was not live, and is begun and released, leaves the lists as they were
  pub without-with_list : (p : Regions X) (key : ℕ) (xs : List X) → ¬ (IsLive p key) → without_list (with_list p key xs) key ≡ p
  without-with_list p key xs fresh = same_regions _ _ (λ q. by q (cases_eq q key)) refl
    where
      absent : (o : Option (List X)) → ¬ (IsSome o) → None ≡ o
      absent None h = refl
      absent (Some ys) h = absurd (h refl)

      by : (q : ℕ) → (q ≡ key) ⊎ (q ≢ key) → map.get (without_list (with_list p key xs) key).lists q ≡ map.get p.lists q
      by q (inl same) = rw same (get-without_list (with_list p key xs) key ∙ absent (map.get p.lists key) fresh)
      by q (inr differ) = get-without_list-other (with_list p key xs) key q differ ∙ get-with_list-other p key xs q differ

module _ {X : Type 0} (eq : X → X → Bool) where
  pub no_values : IsDistinct eq []
  unfolding IsDistinct
  no_values = tt

  -- a pool of which no region is live
  pub sound-empty : (n : ℕ) → IsSound eq (record { lists = map.empty; begun = n })
  sound-empty n = record {
    distinct = λ q. rw (get-empty nat_cmp q) no_values;
    small = λ q. rw (get-empty nat_cmp q) (omega arith);
  }

  -- a list is put in whose values stand once
  pub sound-with_list : (p : Regions X) (n key : ℕ) (xs : List X) → IsSound eq p → IsDistinct eq xs → length xs ≤ most_values → IsSound eq (record { lists = map.insert p.lists key xs; begun = n })
  sound-with_list p n key xs sound distinct small = record {
    distinct = λ q. rw (get-insert nat_cmp_total p.lists key xs q) (by_distinct q (eq_by_cmp nat_cmp q key));
    small = λ q. rw (get-insert nat_cmp_total p.lists key xs q) (by_small q (eq_by_cmp nat_cmp q key));
  }
    where
      by_distinct : (q : ℕ) (b : Bool) → IsDistinct eq (unwrap_or (cond b (Some xs) (map.get p.lists q)) [])
      by_distinct q true = distinct
      by_distinct q false = sound.distinct q

      by_small : (q : ℕ) (b : Bool) → length (unwrap_or (cond b (Some xs) (map.get p.lists q)) []) ≤ most_values
      by_small q true = small
      by_small q false = sound.small q

  -- a list is taken out
  pub sound-without_list : (p : Regions X) (n key : ℕ) → IsSound eq p → IsSound eq (record { lists = map.remove p.lists key; begun = n })
  sound-without_list p n key sound = record {
    distinct = λ q. rw (get-remove nat_cmp_total p.lists key q) (by_distinct q (eq_by_cmp nat_cmp q key));
    small = λ q. rw (get-remove nat_cmp_total p.lists key q) (by_small q (eq_by_cmp nat_cmp q key));
  }
    where
      by_distinct : (q : ℕ) (b : Bool) → IsDistinct eq (unwrap_or (cond b None (map.get p.lists q)) [])
      by_distinct q true = no_values
      by_distinct q false = sound.distinct q

      by_small : (q : ℕ) (b : Bool) → length (unwrap_or (cond b None (map.get p.lists q)) []) ≤ most_values
      by_small q true = omega arith
      by_small q false = sound.small q
