-- Lists that stay those of a heap.
use Rattle.std.proofs.Common.{◌≡◌, ◌∙◌, ap, sym, refl, ℕ, zero, suc, ◌+◌, ◌<◌, ◌≤◌, ◌⊎◌, inl, inr, Bool, true, false, nat_eq, Some, List, [], ◌∷◌, ◌++◌, length, get_or, take, arith}
use Rattle.std.proofs.lemmas.Grind.{common_steps}
use Rattle.std.specs.Prelude.{nat_le, slice_get}
use Rattle.ledger_state.specs.declared.entry.Owner.{Owner}
use Rattle.ledger_state.specs.declared.entry.Owner.TheVariants as owners
use Rattle.ledger_state.specs.declared.object.Object.{Object}
use Rattle.ledger_state.specs.Contents.{HeapContents}
use Rattle.ledger_state.specs.Heaps.{change_one, has_number, next_number, object_at, only_at, with_objects}
use Rattle.ledger_obligations.specs.Obligations.{is_frame}
use Rattle.frame_owners.specs.FrameOwners.{HasAll, Listed, is_listed}
use Rattle.frame_owners.proofs.ListLaws.{listed_more}
use Rattle.frame_owners.proofs.ReleaseLaws.{before_each}

-- more in the lists
pub all_listed : (lists more : List (List ℕ)) (h : HeapContents) → HasAll lists more → Listed lists h → Listed more h
all_listed lists more h all listed k x found = listed_more lists more x.owner k all (listed k x found)

-- one object is put
pub listed_put : (lists : List (List ℕ)) (h : HeapContents) (c : ℕ) (y : Object) → is_listed lists y.owner c ≡ true → Listed lists h → Listed lists (change_one c (λ _. y) h)
listed_put lists h c y own listed k z there = go (before_each (only_at c (λ _. y)) h k z there) (nat_eq k c) refl
  where
    go : (x : Object) × (object_at h k ≡ Some x) × (only_at c (λ _. y) k x ≡ z) → (b : Bool) → nat_eq k c ≡ b → is_listed lists z.owner k ≡ true
    go was true e =
        let n : k ≡ c = grind (arith, common_steps, e) in
        let is : y ≡ z = rw e at was.2 in
        (λ i. is_listed lists (sym is i).owner (n i)) ∙ own
    go was false e =
        let is : was.0 ≡ z = rw e at was.2 in
        ap (λ (w : Object). is_listed lists w.owner k) (sym is) ∙ listed k was.0 was.1

get_or_last : (xs : List Object) (z : Object) (i : ℕ) (w : Object) → slice_get (xs ++ z ∷ []) i ≡ Some w → (slice_get xs i ≡ Some w) ⊎ ((i ≡ length xs) × (w ≡ z))
get_or_last [] z zero w e = inr (refl, cc)
get_or_last [] z (suc i) w e = absurd (cc)
get_or_last (x ∷ xs) z zero w e = inl e
get_or_last (x ∷ xs) z (suc i) w e =
    elim (get_or_last xs z i w e) [ inl before ↦ inl before | inr last ↦ inr (ap suc last.0, last.1) ]

-- one object more
pub listed_made : (lists : List (List ℕ)) (h : HeapContents) (z : Object) → is_listed lists z.owner (next_number h) ≡ true → Listed lists h → Listed lists (with_objects h (h.objects ++ z ∷ []))
listed_made lists h z own listed zero w there = absurd (cc)
listed_made lists h z own listed (suc i) w there =
    elim (get_or_last h.objects z i w there) [
      | inl before ↦ listed (suc i) w before
      | inr last ↦ let n : suc i ≡ next_number h = (let place : i ≡ length h.objects = last.0 in omega arith) in (λ m. is_listed lists (last.1 m).owner (n m)) ∙ own
    ]

-- an empty list more

more_lists : (xs : List (List ℕ)) (i n : ℕ) → has_number (get_or xs i []) n ≡ true → has_number (get_or (xs ++ [] ∷ []) i []) n ≡ true
more_lists [] i n h = absurd (cc)
more_lists (x ∷ xs) zero n h = h
more_lists (x ∷ xs) (suc i) n h = more_lists xs i n h

all_more : (lists : List (List ℕ)) → HasAll lists (lists ++ [] ∷ [])
all_more lists zero k h = h
all_more lists (suc i) k h = more_lists lists i k h

pub listed_begun : (lists : List (List ℕ)) (h : HeapContents) → Listed lists h → Listed (lists ++ [] ∷ []) h
listed_begun lists h listed = all_listed lists (lists ++ [] ∷ []) h (all_more lists) listed

-- the last list is no more

less_lists : (xs : List (List ℕ)) (i n m : ℕ) → i < m → has_number (get_or xs i []) n ≡ true → has_number (get_or (take m xs) i []) n ≡ true
less_lists [] i n m below h = absurd (cc)
less_lists (x ∷ xs) i n zero below h = absurd (omega arith)
less_lists (x ∷ xs) zero n (suc m) below h = h
less_lists (x ∷ xs) (suc i) n (suc m) below h = less_lists xs i n m (omega arith) h

past_lists : (xs : List (List ℕ)) (i n : ℕ) → length xs ≤ i → has_number (get_or xs i []) n ≡ true → ⊥
past_lists [] i n past h = absurd (cc)
past_lists (x ∷ xs) zero n past h = absurd (omega arith)
past_lists (x ∷ xs) (suc i) n past h = past_lists xs i n (omega arith) h

pub listed_within : (lists : List (List ℕ)) (j k : ℕ) → is_listed lists (owners.Frame j) k ≡ true → j ≤ length lists
listed_within lists zero k e = absurd (cc)
listed_within lists (suc i) k e = go (nat_le (suc i) (length lists)) refl
  where
    go : (b : Bool) → nat_le (suc i) (length lists) ≡ b → suc i ≤ length lists
    go true le = grind (arith, common_steps, le)
    go false le = absurd (past_lists lists i k (grind (arith, common_steps, le)) e)

still_listed : (lists : List (List ℕ)) (n : ℕ) (o : Owner) (k : ℕ) → length lists ≡ n + 1 → is_frame o (n + 1) ≡ false → is_listed lists o k ≡ true → is_listed (take n lists) o k ≡ true
still_listed lists n (owners.Frame zero) k count other e = absurd (cc)
still_listed lists n (owners.Frame (suc i)) k count other e =
    let within = listed_within lists (suc i) k e in
    let below : i < n = grind (arith, common_steps, other, within, count) in
    less_lists lists i k n below e
still_listed lists n (owners.Field w f) k count other e = refl
still_listed lists n owners.Library k count other e = refl
still_listed lists n owners.Released k count other e = refl
still_listed lists n owners.Lost k count other e = refl
still_listed lists n owners.Unowned k count other e = refl

pub listed_ended : (lists : List (List ℕ)) (n : ℕ) (h : HeapContents) → length lists ≡ n + 1 → ((k : ℕ) (x : Object) → object_at h k ≡ Some x → is_frame x.owner (n + 1) ≡ false) → Listed lists h → Listed (take n lists) h
listed_ended lists n h count free listed k x found = still_listed lists n x.owner k count (free k x found) (listed k x found)
