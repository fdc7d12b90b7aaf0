-- The way of a reset upwards.
use Rattle.std.proofs.Common.{◌≡◌, ◌∙◌, sym, refl, subst, ℕ, suc, ◌+◌, ◌-◌, ◌<◌, true, false, Some, None, List, [], ◌∷◌, ◌++◌, arith}
use Rattle.ledger_state.specs.Contents.{HeapContents}
use Rattle.ledger_state.specs.Heaps.{object_at, root}
use Rattle.ledger_obligations.specs.Obligations.{finished_holder, owner_in, reach_on, reached_within, stops}

step_on : (h : HeapContents) (n i : ℕ) (seen : List ℕ) (k : ℕ) (whole : List ℕ) → i < n → reached_within (n - i) h seen k ≡ whole → reached_within (suc (n - (i + 1))) h seen k ≡ whole
step_on h n i seen k whole within before =
    let e : n - i ≡ suc (n - (i + 1)) = omega arith in
    subst (λ m. reached_within m h seen k ≡ whole) e before

-- the way ends at a root that was seen, or is not finished
pub reach_ends : (h : HeapContents) (n i : ℕ) (seen : List ℕ) (k : ℕ) (whole : List ℕ) → i < n → stops h seen (root h k) ≡ true → reached_within (n - i) h seen k ≡ whole → seen ≡ whole
reach_ends h n i seen k whole within ends before =
    let here : reached_within (suc (n - (i + 1))) h seen k ≡ seen = rw ends refl in
    sym here ∙ step_on h n i seen k whole within before

one_step : (h : HeapContents) (n i : ℕ) (seen : List ℕ) (k : ℕ) → stops h seen (root h k) ≡ false → reached_within (suc (n - (i + 1))) h seen k ≡ reach_on (reached_within (n - (i + 1)) h) (seen ++ root h k ∷ []) (finished_holder h (owner_in (object_at h (root h k))))
one_step h n i seen k goes = rw goes refl

-- the way ends at a root that no finished object holds
pub reach_alone : (h : HeapContents) (n i : ℕ) (seen : List ℕ) (k : ℕ) (whole : List ℕ) → i < n → stops h seen (root h k) ≡ false → finished_holder h (owner_in (object_at h (root h k))) ≡ None → reached_within (n - i) h seen k ≡ whole → seen ++ root h k ∷ [] ≡ whole
reach_alone h n i seen k whole within goes alone before =
    sym (subst (λ o. reached_within (suc (n - (i + 1))) h seen k ≡ reach_on (reached_within (n - (i + 1)) h) (seen ++ root h k ∷ []) o) alone (one_step h n i seen k goes))
    ∙ step_on h n i seen k whole within before

-- the way goes on to the holder
pub reach_further : (h : HeapContents) (n i : ℕ) (seen : List ℕ) (k w : ℕ) (whole : List ℕ) → i < n → stops h seen (root h k) ≡ false → finished_holder h (owner_in (object_at h (root h k))) ≡ Some w → reached_within (n - i) h seen k ≡ whole → reached_within (n - (i + 1)) h (seen ++ root h k ∷ []) w ≡ whole
reach_further h n i seen k w whole within goes held before =
    sym (subst (λ o. reached_within (suc (n - (i + 1))) h seen k ≡ reach_on (reached_within (n - (i + 1)) h) (seen ++ root h k ∷ []) o) held (one_step h n i seen k goes))
    ∙ step_on h n i seen k whole within before
