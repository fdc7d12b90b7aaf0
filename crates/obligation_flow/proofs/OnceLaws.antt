-- Lists in another order.
use Rattle.std.proofs.Common.{◌≡◌, ◌∙◌, arith, sym, ap, refl, ℕ, suc, Bool, true, false, true≢false, Some, List, [], ◌∷◌}
use Rattle.std.specs.List.{AllByRecursion, IsDistinct}
use Rattle.std.specs.List.Sorted.{IsPermutation}
use Rattle.std.proofs.lemmas.List.Sorted.{Contains-permutation}
use Rattle.std.proofs.lemmas.Map.Keys.{IsDistinct-IsPermutation}
use Rattle.std.proofs.lemmas.Option.{slice_get-get_or}
use Rattle.breadth_first.specs.Searches.{AreOnce, IsAt, Stands}
use Rattle.java_cfg.proofs.ListLemmas.{contains}
use Rattle.java_cfg.proofs.NumberLemmas.{once_distinct}

-- a value stands in a list in another order too
pub stands_permuted : {X : Type 0} (xs ys : List X) (x : X) → IsPermutation xs ys → Stands xs x → Stands ys x
stands_permuted xs ys x same h =
    let there = Contains-permutation xs ys x same (contains xs h.0 x h.1) in
    (there.0, slice_get-get_or ys there.0 x there.1 ∙ ap Some there.2)

module _ {X : Type 0} (eq : X → X → Bool) (exact : (x y : X) → eq x y ≡ true → x ≡ y) (itself : (x : X) → eq x x ≡ true) where
  flip_by : (x y : X) (r s : Bool) → eq x y ≡ r → eq y x ≡ s → r ≡ s
  flip_by x y true true one other = refl
  flip_by x y false false one other = refl
  flip_by x y true false one other = absurd (true≢false (sym (itself x) ∙ ap (λ z. eq z x) (exact x y one) ∙ other))
  flip_by x y false true one other = absurd (true≢false (sym (itself y) ∙ ap (λ z. eq z y) (exact y x other) ∙ one))

  apart_by : (x y : X) (r : Bool) → eq x y ≡ r → (x ≡ y → ⊥) → r ≡ false
  apart_by x y true is never = absurd (never (exact x y is))
  apart_by x y false is never = refl

  apart : (x : X) (xs : List X) → ((k : ℕ) → IsAt xs k x → ⊥) → AllByRecursion (λ y. eq x y ≡ false) xs
  apart x [] never = tt
  apart x (y ∷ ys) never = (apart_by x y (eq x y) refl (λ same. never 0 (ap Some (sym same))), apart x ys (λ k at. never (suc k) at))

  distinct_once : (xs : List X) → AreOnce xs → IsDistinct eq xs
  unfolding IsDistinct
  distinct_once [] once = tt
  distinct_once (x ∷ xs) once = (
    apart x xs (λ k at. let wrong : 0 ≡ suc k = once 0 (suc k) x refl at in omega (arith, wrong)),
    distinct_once xs (λ i j y at there. let next : suc i ≡ suc j = once (suc i) (suc j) y at there in omega (arith, next)),
  )

  -- values that each stand once do so in another order
  pub permuted_once : (xs ys : List X) → IsPermutation xs ys → AreOnce xs → AreOnce ys
  permuted_once xs ys same once = once_distinct eq ys itself (IsDistinct-IsPermutation eq (λ x y. flip_by x y (eq x y) (eq y x) refl refl) xs ys same (distinct_once xs once))
