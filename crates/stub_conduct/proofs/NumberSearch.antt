-- What stands at a place of a list; and a search over the numbers from `a` up to `b` for that at a place among those that pass.
use Rattle.std.proofs.Common.{◌≡◌, ◌≢◌, ◌<◌, ◌≤◌, ◌+◌, ◌-◌, ◌∙◌, ℕ, zero, suc, Bool, true, false, cond, Option, Some, None, List, [], ◌∷◌, slice_get, refl, ap, arith}
use Rattle.std.proofs.lemmas.Option.{slice_get-map}
use Rattle.std.specs.List.{filter, range_with_len}

range_begins : (a b : ℕ) → a < b → range_with_len a (b - a) ≡ a ∷ range_with_len (a + 1) (b - (a + 1))
range_begins a b h = let e : b - a ≡ suc (b - (a + 1)) = omega arith in ap (range_with_len a) e

-- those of the numbers from `a` up to `b` that pass
abbrev pub passing : (ℕ → Bool) → ℕ → ℕ → List ℕ
passing test a b = filter test (range_with_len a (b - a))

passing_begins : (test : ℕ → Bool) (a b : ℕ) (answer : Bool) → test a ≡ answer → a < b → passing test a b ≡ cond answer (a ∷ passing test (a + 1) b) (passing test (a + 1) b)
passing_begins test a b answer is h = ap (filter test) (range_begins a b h) ∙ ap (λ v. cond v (a ∷ passing test (a + 1) b) (passing test (a + 1) b)) is

pub behind_the_first : {X : Type 0} (x : X) (xs : List X) (k : ℕ) → k ≢ 0 → slice_get (x ∷ xs) k ≡ slice_get xs (k - 1)
behind_the_first x xs zero h = absurd (h refl)
behind_the_first x xs (suc k) h = let e : k ≡ suc k - 1 = omega arith in ap (slice_get xs) e

pub at_first : (test : ℕ → Bool) (a b left : ℕ) → left ≡ 0 → test a ≡ true → a < b → slice_get (passing test a b) left ≡ Some a
at_first test a b left first is h = ap (λ k. slice_get (passing test a b) k) first ∙ ap (λ ns. slice_get ns 0) (passing_begins test a b true is h)

pub at_later : (test : ℕ → Bool) (a b left : ℕ) → left ≢ 0 → test a ≡ true → a < b → slice_get (passing test a b) left ≡ slice_get (passing test (a + 1) b) (left - 1)
at_later test a b left later is h = ap (λ ns. slice_get ns left) (passing_begins test a b true is h) ∙ behind_the_first a (passing test (a + 1) b) left later

pub at_other : (test : ℕ → Bool) (a b left : ℕ) → test a ≡ false → a < b → slice_get (passing test a b) left ≡ slice_get (passing test (a + 1) b) left
at_other test a b left is h = ap (λ ns. slice_get ns left) (passing_begins test a b false is h)

pub at_end : (test : ℕ → Bool) (a b left : ℕ) → b ≤ a → slice_get (passing test a b) left ≡ None
at_end test a b left h = let e : b - a ≡ 0 = omega arith in ap (λ n. slice_get (filter test (range_with_len a n)) left) e

pub ruleset search_laws = (at_first, at_later, at_other, at_end)

pub ruleset place_laws = (behind_the_first, slice_get-map)
