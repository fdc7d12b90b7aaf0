-- Lemmas on a search that goes on from one found value after another.
use Rattle.std.proofs.Common.{◌≡◌, ◌∙◌, sym, ap, refl, subst, arith, ℕ, ◌+◌, ◌<◌, zero, suc, Some, List, [], ◌∷◌, length, get_or, inl, inr}
use Rattle.std.specs.Prelude.{slice_get}
use Rattle.std.specs.List.{All, Contains}
use Rattle.std.proofs.lemmas.Bool.{cases_lt}
use Rattle.std.proofs.lemmas.List.Elements.{All-append, All-contains, All-weaker, Contains-append_left}
use Rattle.std.proofs.lemmas.Option.{slice_get_within}
use Rattle.java_cfg.specs.Reach.{AreReached, IsReached, IsWalk}
use Rattle.java_cfg.specs.Tables.{Grows}
use Rattle.java_cfg.proofs.ListLemmas.{contains, stands, get_append, get_back}

-- `found` is what a search has found that went on from the first `done` values of it
pub record IsExplored {C : Type 0} (targets : C → List C) (start : C) (found : List C) (done : ℕ) : Type 0 where
  pub starts : slice_get found 0 ≡ Some start
  pub reached : All (IsReached targets start) found
  pub closed : (k : ℕ) → k < done → (b c : C) → slice_get found k ≡ Some b → Contains (targets b) c → Contains found c

pub explored_start : {C : Type 0} (targets : C → List C) (start : C) → IsExplored targets start (start ∷ []) 0
explored_start targets start = record {
  starts = refl;
  reached = λ k d within. let zero_is : 0 ≡ k = omega arith in subst (λ (n : ℕ). IsReached targets start (get_or (start ∷ []) n d)) zero_is (0, refl);
  closed = λ k none b c at target. absurd (omega arith);
}

walked : {C : Type 0} (targets : C → List C) (start : C) (found : List C) → IsExplored targets start found (length found) → (n : ℕ) (c : C) → IsWalk targets start c n → Contains found c
walked targets start found h zero c walk = contains found 0 c (h.starts ∙ ap Some walk)
walked targets start found h (suc n) c walk =
    let before = stands found walk.0 (walked targets start found h n walk.0 walk.1.0) in
    h.closed before.0 (slice_get_within found before.0 walk.0 before.1) walk.0 c before.1 walk.1.1

-- a search that went on from all that it found has found all
pub explored_all : {C : Type 0} (targets : C → List C) (start : C) (found : List C) → IsExplored targets start found (length found) → AreReached targets start found
explored_all targets start found h = record {
  only = h.reached;
  all = λ c reached. walked targets start found h reached.0 c reached.1;
}

reached_more : {C : Type 0} (targets : C → List C) (start b c : C) → IsReached targets start b → Contains (targets b) c → IsReached targets start c
reached_more targets start b c reached target = (suc reached.0, (b, (reached.1, target)))

-- what is put in by a step of a found value is reached
pub reached_grows : {C : Type 0} (targets : C → List C) (start b : C) (found more : List C) → All (IsReached targets start) found → Contains found b → Grows found more (targets b) → All (IsReached targets start) more
reached_grows targets start b found more reached here grows =
    let from = All-contains (IsReached targets start) found b reached here in
    let new = All-weaker (Contains (targets b)) (IsReached targets start) (λ c target. reached_more targets start b c from target) grows.new grows.only in
    subst (All (IsReached targets start)) (sym grows.is) (All-append (IsReached targets start) found grows.new reached new)

closed_step : {C : Type 0} (targets : C → List C) (start b : C) (found more : List C) (done : ℕ) → IsExplored targets start found done → slice_get found done ≡ Some b → Grows found more (targets b) → ((c : C) → Contains (targets b) c → Contains more c) → (k : ℕ) → k < done + 1 → (x c : C) → slice_get more k ≡ Some x → Contains (targets x) c → Contains more c
closed_step {C} targets start b found more done h at grows covers k within x c here target =
    let inside = slice_get_within found done b at in
    let old = get_back found grows.new k x (omega (arith, inside)) (sym (ap (λ xs. slice_get xs k) grows.is) ∙ here) in
    elim (cases_lt k done) [
      | inl below ↦
          let earlier = h.closed k below x c old target in
          subst (λ (xs : List C). Contains xs c) (sym grows.is) (Contains-append_left found grows.new c earlier)
      | inr above ↦
          let last : k ≡ done = omega arith in
          let equal : Some x ≡ Some b = sym old ∙ ap (slice_get found) last ∙ at in
          let same : x ≡ b = cc in
          covers c (subst (λ (y : C). Contains (targets y) c) same target)
    ]

-- the search goes on from one value more
pub explored_step : {C : Type 0} (targets : C → List C) (start b : C) (found more : List C) (done : ℕ) → IsExplored targets start found done → slice_get found done ≡ Some b → Grows found more (targets b) → ((c : C) → Contains (targets b) c → Contains more c) → IsExplored targets start more (done + 1)
explored_step targets start b found more done h at grows covers = record {
  starts = ap (λ xs. slice_get xs 0) grows.is ∙ get_append found grows.new 0 start h.starts;
  reached = reached_grows targets start b found more h.reached (contains found done b at) grows;
  closed = λ k within x c here target. closed_step targets start b found more done h at grows covers k within x c here target;
}
