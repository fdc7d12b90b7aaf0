-- From tests that compute over a list to what they say of its elements.
use Rattle.std.proofs.Common.{◌≡◌, ℕ, zero, suc, Bool, true, ◌&&◌, Some, None, List, [], ◌∷◌, slice_get, All, Contains, sym, ap, ◌∙◌, subst, arith}
use Rattle.std.specs.List.{AllByRecursion, list_all}
use Rattle.std.proofs.lemmas.Bool.{and_parts}
use Rattle.std.proofs.lemmas.List.Elements.{All-cons, All-contains}
use Rattle.std.proofs.lemmas.List.Sums.{AllPass-from_list_all}
use Rattle.std.proofs.lemmas.Option.{get_or_from_slice_get, slice_get_within}

pub all_none : {X : Type 0} (P : X → Type 0) → All P []
all_none P k d within = absurd (omega arith)

-- what holds of the elements one by one holds of all
pub all_of : {X : Type 0} (P : X → Type 0) (xs : List X) → AllByRecursion P xs → All P xs
all_of P [] each = all_none P
all_of P (x ∷ xs) each = All-cons P x xs each.0 (all_of P xs each.1)

-- what holds of all holds of the one at a number
pub all_at : {X : Type 0} (P : X → Type 0) (xs : List X) (i : ℕ) (x : X) → All P xs → slice_get xs i ≡ Some x → P x
all_at P xs i x all at = subst P (get_or_from_slice_get xs i x x at) (all i x (slice_get_within xs i x at))

pub all_from : {X : Type 0} (test : X → Bool) (xs : List X) → list_all test xs ≡ true → All (λ x. test x ≡ true) xs
all_from test xs passes = AllPass-from_list_all test xs passes

pub passes_in : {X : Type 0} (test : X → Bool) (xs : List X) (x : X) → list_all test xs ≡ true → Contains xs x → test x ≡ true
passes_in test xs x passes has = All-contains (λ y. test y ≡ true) xs x (all_from test xs passes) has

-- a test of the elements with their numbers
abbrev pub test_each : {X : Type 0} → (ℕ → X → Bool) → List X → Bool
test_each test [] = true
test_each test (x ∷ xs) = test 0 x && test_each (λ i. test (suc i)) xs

pub passes_at : {X : Type 0} (test : ℕ → X → Bool) (xs : List X) (i : ℕ) (x : X) → test_each test xs ≡ true → slice_get xs i ≡ Some x → test i x ≡ true
passes_at test [] i x passes at = absurd (let no : None ≡ Some x = at in cc)
passes_at test (y ∷ ys) zero x passes at =
    let same : y ≡ x = cc in ap (test 0) (sym same) ∙ (and_parts (test 0 y) (test_each (λ i. test (suc i)) ys) passes).0
passes_at test (y ∷ ys) (suc i) x passes at =
    passes_at (λ k. test (suc k)) ys i x (and_parts (test 0 y) (test_each (λ k. test (suc k)) ys) passes).1 at

-- what holds of each element with its number
abbrev pub AllFrom : {X : Type 0} → (ℕ → X → Type 0) → List X → Type 0
AllFrom P [] = Unit {0}
AllFrom P (x ∷ xs) = P 0 x × AllFrom (λ i. P (suc i)) xs

pub holds_at : {X : Type 0} (P : ℕ → X → Type 0) (xs : List X) (i : ℕ) (x : X) → AllFrom P xs → slice_get xs i ≡ Some x → P i x
holds_at P [] i x all at = absurd (let no : None ≡ Some x = at in cc)
holds_at P (y ∷ ys) zero x all at = let same : y ≡ x = cc in subst (P 0) same all.0
holds_at P (y ∷ ys) (suc i) x all at = holds_at (λ k. P (suc k)) ys i x all.1 at
