-- Lengths of filtered lists, and facts that tests decide.
use Rattle.std.proofs.Common.{◌≡◌, ℕ, ◌<◌, ◌≤◌, Bool, true, false, cond, Option, Some, None, List, [], ◌∷◌, length, filter, filter_map, refl, inl, inr, arith, if◌then◌else◌}
use Rattle.std.specs.Bool.{Decides}
use Rattle.std.specs.List.{cons_option}
use Rattle.std.proofs.lemmas.Bool.{cases_lt}
use Rattle.program_model.specs.Lookups.{optional}

-- a fact that a test decides holds where it cannot fail
pub stable : {P : Type 0} (r : Bool) → Decides r P → ((P → ⊥) → ⊥) → P
stable true d h = d.0 refl
stable false d h = absurd (h (λ x. let never : false ≡ true = d.1 x in cc))

pub at_most : (n m : ℕ) → (n < m → ⊥) → m ≤ n
at_most n m h = elim (cases_lt n m) [ inl less ↦ absurd (h less) | inr rest ↦ rest ]

pub length_optional : {X : Type 0} (x : Option X) → length (optional x) ≤ 1
length_optional None = omega arith
length_optional (Some x) = omega arith

-- a list that is taken where a test passes, and else none
pub length_chosen : {X : Type 0} (r : Bool) (xs : List X) → length (if r then xs else []) ≤ length xs
length_chosen true xs = omega arith
length_chosen false xs = omega arith

-- what is given of values that pass a test is no more than the values that pass it
module _ {X Y : Type 0} (f : X → Option Y) (test : X → Bool) (passes : (x : X) (y : Y) → f x ≡ Some y → test x ≡ true) where
  one_more : (o : Option Y) (r : Bool) (x : X) (ys : List Y) (xs : List X) → ((y : Y) → o ≡ Some y → r ≡ true) → length ys ≤ length xs
      → length (cons_option o ys) ≤ length (cond r (x ∷ xs) xs)
  one_more None true x ys xs h few = omega (arith, few)
  one_more None false x ys xs h few = few
  one_more (Some y) true x ys xs h few = omega (arith, few)
  one_more (Some y) false x ys xs h few = absurd (let never : false ≡ true = h y refl in cc)

  pub given_few : (xs : List X) → length (filter_map f xs) ≤ length (filter test xs)
  given_few [] = omega arith
  given_few (x ∷ xs) = one_more (f x) (test x) x (filter_map f xs) (filter test xs) (passes x) (given_few xs)
