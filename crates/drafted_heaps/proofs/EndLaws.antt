-- The lists when a frame has ended that owns nothing.
use Rattle.std.proofs.Common.{◌≡◌, ◌∙◌, ap, sym, refl, ℕ, ◌+◌, ◌-◌, ◌<◌, Bool, true, false, ◌||◌, nat_eq, Some, List, [], ◌∷◌, length, take, arith}
use Rattle.std.proofs.lemmas.Grind.{common_steps}
use Rattle.std.specs.List.{list_any}
use Rattle.ledger_state.specs.declared.object.Object.{Object}
use Rattle.ledger_state.specs.Contents.{HeapContents}
use Rattle.ledger_state.specs.Heaps.{has_number, object_at}
use Rattle.ledger_obligations.specs.Obligations.{is_frame}
use Rattle.frame_owners.specs.FrameOwners.{Listed, list_at}
use Rattle.frame_owners.proofs.OwnerLaws.{listed_ended}
use Rattle.frame_owners.proofs.ReleaseLaws.{in_list}
use Rattle.drafted_heaps.specs.DraftedHeaps.{belongs_to}

-- no number of the list passes the test
none_such : (test : ℕ → Bool) (ks : List ℕ) (k : ℕ) → list_any test ks ≡ false → has_number ks k ≡ true → test k ≡ false
none_such test [] k none there = absurd (cc)
none_such test (m ∷ ms) k none there = go (nat_eq m k) refl (test m) refl none there (none_such test ms k)
  where
    go : (b : Bool) → nat_eq m k ≡ b → (u : Bool) → test m ≡ u → (u || list_any test ms) ≡ false → (b || has_number ms k) ≡ true → (list_any test ms ≡ false → has_number ms k ≡ true → test k ≡ false) → test k ≡ false
    go b same true e any there further = absurd (cc)
    go true same false e any there further =
        let is : m ≡ k = grind (arith, common_steps, same) in
        ap test (sym is) ∙ e
    go false same false e any there further = further any there

-- the top frame, which is that of the last list, owns nothing
top_owns_none : (lists : List (List ℕ)) (n : ℕ) (h : HeapContents) → Listed lists h → list_any (λ k. belongs_to n (object_at h k)) (list_at lists n) ≡ false → (k : ℕ) (x : Object) → object_at h k ≡ Some x → is_frame x.owner n ≡ false
top_owns_none lists n h listed none k x found = go (is_frame x.owner n) refl
  where
    go : (b : Bool) → is_frame x.owner n ≡ b → is_frame x.owner n ≡ false
    go false e = e
    go true e =
        let there = in_list lists x.owner n k (listed k x found) e in
        let not_here = none_such (λ m. belongs_to n (object_at h m)) (list_at lists n) k none there in
        ap (belongs_to n) (sym found) ∙ not_here

pub list_ended : (lists : List (List ℕ)) (n : ℕ) (h : HeapContents) → length lists ≡ n → 0 < n → Listed lists h → list_any (λ k. belongs_to n (object_at h k)) (list_at lists n) ≡ false → Listed (take (n - 1) lists) h
list_ended lists n h count some listed none =
    let more : length lists ≡ n - 1 + 1 = omega (arith, count, some) in
    let same : n - 1 + 1 ≡ n = omega (arith, some) in
    listed_ended lists (n - 1) h more
    (λ k x found. ap (is_frame x.owner) same ∙ top_owns_none lists n h listed none k x found) listed
