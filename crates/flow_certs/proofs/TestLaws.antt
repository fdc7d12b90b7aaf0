-- Tests that are made value by value.
use Rattle.std.proofs.Common.{◌≡◌, ◌∙◌, sym, refl, subst, arith, true≢false, ℕ, ◌+◌, ◌<◌, ◌≤◌, Bool, true, false, inl, inr, List, length}
use Rattle.std.specs.Prelude.{◌↔◌}
use Rattle.std.proofs.lemmas.Bool.{cases_lt}
use Rattle.breadth_first.specs.Searches.{IsAt}
use Rattle.breadth_first.proofs.ListLaws.{at_same, at_within}

pub is_false : {P : Type 0} → (P → ⊥) → (false ≡ true) ↔ P
is_false never = ((λ h. absurd (true≢false (sym h))), (λ h. absurd (never h)))

pub is_true : {P : Type 0} → P → (true ≡ true) ↔ P
is_true holds = ((λ _. holds), (λ _. refl))

-- a test that failed says that the fact does not hold
pub failed : {P : Type 0} (test : Bool) → (test ≡ true) ↔ P → test ≡ false → P → ⊥
failed test tells is h = true≢false (sym (tells.1 h) ∙ is)

-- ---- what holds of the first values of a list

abbrev pub HoldFirst : {X : Type 0} → (X → Type 0) → List X → ℕ → Type 0
HoldFirst {X} P xs n = (i : ℕ) (x : X) → i < n → IsAt xs i x → P x

pub first_more : {X : Type 0} (P : X → Type 0) (xs : List X) (n : ℕ) (x : X) → HoldFirst P xs n → IsAt xs n x → P x → HoldFirst P xs (n + 1)
first_more {X} P xs n x before here this i y low at = elim (cases_lt i n) [
  | inl below ↦ before i y below at
  | inr past ↦ (
      let last : i ≡ n = omega (arith, low, past) in
      let same : x ≡ y = at_same xs n x y here (subst (λ (k : ℕ). IsAt xs k y) last at) in
      subst P same this)
]

pub all_first : {X : Type 0} (P : X → Type 0) (xs : List X) (n : ℕ) → HoldFirst P xs n → length xs ≤ n → (i : ℕ) (x : X) → IsAt xs i x → P x
all_first P xs n before long i x at = before i x (let inside = at_within xs i x at in omega (arith, inside, long)) at
