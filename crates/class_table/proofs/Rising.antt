-- Rising numbers: the numbers that pass a test rise, and each class has more above it than each of its super types.
use Rattle.std.proofs.Common.{◌≡◌, ◌∙◌, ◌⊎◌, inl, inr, ℕ, zero, suc, ◌+◌, ◌<◌, ◌≤◌, Some, List, [], ◌∷◌, Contains, map, length, get_or, slice_index, ap, subst, sym, refl, arith, Bool, true, false, cond}
use Rattle.std.specs.List.Sorted.{IsStrictlyIncreasing}
use Rattle.std.proofs.lemmas.List.{length-map}
use Rattle.program_model.specs.declared.kinds.ClassId.{ClassId}
use Rattle.program_model.specs.declared.program.Class.{Class}
use Rattle.program_model.specs.declared.program.Program.{Program}
use Rattle.program_model.specs.Hierarchy.{above, class_number, itself, IsDirectSuper, IsHierarchy, IsUnder}
use Rattle.program_model.specs.Lookups.{class_at}
use Rattle.class_table.specs.Numbers.{numbers_where}

-- ---- lists of rising numbers

abbrev pub Rising : ℕ → List ℕ → Type 0
Rising b [] = Unit {0}
Rising b (x ∷ xs) = (b ≤ x) × Rising (x + 1) xs

abbrev pub Among : List ℕ → ℕ → Type 0
Among [] z = ⊥
Among (x ∷ xs) z = (z ≡ x) ⊎ Among xs z

from_bound : (b : ℕ) (xs : List ℕ) (z : ℕ) → Rising b xs → Among xs z → b ≤ z
from_bound b [] z rising among = absurd among
from_bound b (x ∷ xs) z rising (inl same) = omega (arith, rising.0, same)
from_bound b (x ∷ xs) z rising (inr rest) = let later = from_bound (x + 1) xs z rising.1 rest in omega (arith, rising.0, later)

-- among numbers behind x there is not x
not_first : (x : ℕ) (xs : List ℕ) (z : ℕ) → x + 1 ≤ z → (z ≡ x) ⊎ Among xs z → Among xs z
not_first x xs z behind (inl same) = absurd (omega (arith, same))
not_first x xs z behind (inr rest) = rest

no_more : (xs ys : List ℕ) (b : ℕ) → Rising b ys → Rising b xs → ((z : ℕ) → Among ys z → Among xs z) → length ys ≤ length xs
no_more [] [] b rising_y rising_x within = omega arith
no_more [] (y ∷ ys) b rising_y rising_x within = absurd (within y (inl refl))
no_more (x ∷ xs) [] b rising_y rising_x within = omega arith
no_more (x ∷ xs) (y ∷ ys) b rising_y rising_x within = elim (within y (inl refl)) [
  | inl same ↦
      let rising : Rising (x + 1) ys = subst (λ n. Rising (n + 1) ys) same rising_y.1 in
      let rest = no_more xs ys (x + 1) rising rising_x.1 (λ z among. not_first x xs z (from_bound (x + 1) ys z rising among) (within z (inr among))) in
      omega (arith, rest)
  | inr later ↦
      let behind = from_bound (x + 1) xs y rising_x.1 later in
      let rest = no_more xs (y ∷ ys) (x + 1) (behind, rising_y.1) rising_x.1 (λ z among. not_first x xs z (from_bound (x + 1) (y ∷ ys) z (behind, rising_y.1) among) (within z among)) in
      omega (arith, rest)
]

fewer : (xs ys : List ℕ) (b z : ℕ) → Rising b ys → Rising b xs → ((n : ℕ) → Among ys n → Among xs n) → Among xs z → (Among ys z → ⊥) → length ys < length xs
fewer [] ys b z rising_y rising_x within more none = absurd more
fewer (x ∷ xs) [] b z rising_y rising_x within more none = omega arith
fewer (x ∷ xs) (y ∷ ys) b z rising_y rising_x within more none = elim (within y (inl refl)) [
  | inl same ↦
      let rising : Rising (x + 1) ys = subst (λ n. Rising (n + 1) ys) same rising_y.1 in
      let other : Among xs z = elim more [ inl here ↦ absurd (none (inl (here ∙ sym same))) | inr rest ↦ rest ] in
      let rest = fewer xs ys (x + 1) z rising rising_x.1 (λ n among. not_first x xs n (from_bound (x + 1) ys n rising among) (within n (inr among))) other (λ among. none (inr among)) in
      omega (arith, rest)
  | inr later ↦
      let behind = from_bound (x + 1) xs y rising_x.1 later in
      let rest = no_more xs (y ∷ ys) (x + 1) (behind, rising_y.1) rising_x.1 (λ n among. not_first x xs n (from_bound (x + 1) (y ∷ ys) n (behind, rising_y.1) among) (within n among)) in
      omega (arith, rest)
]

rising_from : (b : ℕ) (xs : List ℕ) → (0 < length xs → b ≤ slice_index xs 0) → IsStrictlyIncreasing xs → Rising b xs
rising_from b [] low increasing = tt
rising_from b (x ∷ xs) low increasing = (
  low (omega arith),
  rising_from (x + 1) xs (λ h. let next = increasing 0 (omega (arith, h)) in omega (arith, next)) (λ k h.
      let same : suc k + 1 ≡ suc (k + 1) = omega arith in
      let next = increasing (suc k) (omega (arith, h)) in
      let P : ℕ → Type 0 = λ n. slice_index xs k < slice_index (x ∷ xs) n in
      subst P same next),
)

increasing_from : (b : ℕ) (xs : List ℕ) → Rising b xs → IsStrictlyIncreasing xs
increasing_from b [] rising k h = absurd (omega arith)
increasing_from b (x ∷ []) rising k h = absurd (omega arith)
increasing_from b (x ∷ y ∷ ys) rising zero h = let next = rising.1.0 in omega arith
increasing_from b (x ∷ y ∷ ys) rising (suc k) h =
    let same : suc (k + 1) ≡ suc k + 1 = omega arith in
    let P : ℕ → Type 0 = λ n. slice_index (y ∷ ys) k < slice_index (x ∷ y ∷ ys) n in
    subst P same (increasing_from (x + 1) (y ∷ ys) rising.1 k (omega arith))

lower : (b c : ℕ) (xs : List ℕ) → b ≤ c → Rising c xs → Rising b xs
lower b c [] below rising = tt
lower b c (x ∷ xs) below rising = ((let first = rising.0 in omega arith), rising.1)

rising_by : {X : Type 0} (test : X → Bool) (first : ℕ) (xs : List X) (b : Bool) → Rising (first + 1) (numbers_where test (first + 1) xs) → Rising first (cond b (first ∷ numbers_where test (first + 1) xs) (numbers_where test (first + 1) xs))
rising_by test first xs true rest = ((omega arith), rest)
rising_by test first xs false rest = lower first (first + 1) (numbers_where test (first + 1) xs) (omega arith) rest

rising_where : {X : Type 0} (test : X → Bool) (first : ℕ) (xs : List X) → Rising first (numbers_where test first xs)
rising_where test first [] = tt
rising_where test first (x ∷ xs) = rising_by test first xs (test x) (rising_where test (first + 1) xs)

-- the numbers of those that pass the test rise
pub numbers_rise : {X : Type 0} (test : X → Bool) (xs : List X) → IsStrictlyIncreasing (numbers_where test 0 xs)
numbers_rise test xs = increasing_from 0 (numbers_where test 0 xs) (rising_where test 0 xs)

-- ---- classes by their numbers

record Held (xs : List ClassId) (z : ℕ) : Type 0 where
  found : ClassId
  same : found.0 ≡ z
  held : Contains xs found

among_of : (xs : List ClassId) (d : ClassId) (k : ℕ) → k < length xs → get_or xs k d ≡ d → Among (map class_number xs) d.0
among_of [] d k h is = absurd (omega arith)
among_of (x ∷ xs) d zero h is = inl (ap class_number (sym is))
among_of (x ∷ xs) d (suc k) h is = inr (among_of xs d k (omega arith) is)

of_among : (xs : List ClassId) (z : ℕ) → Among (map class_number xs) z → Held xs z
of_among [] z among = absurd among
of_among (x ∷ xs) z (inl here) = record { found = x; same = sym here; held = (0, omega arith, refl) }
of_among (x ∷ xs) z (inr rest) = let r = of_among xs z rest in record { found = r.found; same = r.same; held = (suc r.held.0, omega (arith, r.held.1), r.held.2) }

-- a direct super type has fewer above it
pub fewer_above : (p : Program) (c d : ClassId) (k e : Class) → IsHierarchy p → class_at p c ≡ Some k → class_at p d ≡ Some e → IsDirectSuper p c d → length e.above.items < length k.above.items
fewer_above p c d k e hierarchy at_c at_d direct =
    let of_c = hierarchy.supers c k at_c in
    let of_d = hierarchy.supers d e at_d in
    let xs = map class_number k.above.items in
    let ys = map class_number e.above.items in
    let within : (z : ℕ) → Among ys z → Among xs z = λ z among.
    let f = of_among e.above.items z among in
    let under : IsUnder p d f.found = (of_d.above.exact f.found).0 f.held in
    let here : Contains k.above.items f.found = (of_c.above.exact f.found).1 (above c d f.found direct under) in
    subst (Among xs) f.same (among_of k.above.items f.found here.0 here.1 here.2) in
    let own : Contains k.above.items c = (of_c.above.exact c).1 (itself c) in
    let none : Among ys c.0 → ⊥ = λ among.
    let f = of_among e.above.items c.0 among in
    let under : IsUnder p d f.found = (of_d.above.exact f.found).0 f.held in
    let whole : f.found ≡ c = λ i. record { 0 = f.same i } in
    of_c.acyclic d direct (subst (IsUnder p d) whole under) in
    let less = fewer xs ys 0 c.0 (rising_from 0 ys (λ _. omega arith) of_d.above.ordered) (rising_from 0 xs (λ _. omega arith) of_c.above.ordered) within (among_of k.above.items c own.0 own.1 own.2) none in
    omega (arith, less, length-map k.above.items class_number, length-map e.above.items class_number)
