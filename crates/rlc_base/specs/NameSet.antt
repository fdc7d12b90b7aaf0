-- A set of numbers below 128, kept as the bits of one number: the number k is in the set where bit k is 1.
-- Contracts see a set as std's `FinSet nat_cmp` and speak its words alone; what stands here ties the bits to it.
use Rattle.std.specs.Prelude.{◌≡◌, ◌≢◌, ◌⊎◌, ℕ, ◌+◌, ◌-◌, ◌*◌, ◌/◌, ◌%◌, ◌^◌, ◌<◌, ◌≤◌, Bool, true, false, cond, not, ◌&&◌, ◌||◌, ◌==◌, min, max, zero, suc, refl, bit_and, bit_or}
use Rattle.std.specs.Ordering.{nat_cmp}
use Rattle.std.specs.Cmp.{nat_cmp_total, unsigned_tied}
use Rattle.std.specs.FinSet as set
use Rattle.std.specs.Bool.{Decides}
use Rattle.std.specs.Int.{bit_at, bit_not, w128}
use Rattle.std.proofs.Common.{sym, ap, ◌∙◌, ltb, arith, zero-le, inl, inr, mod-eq_of_lt, lt-ltb, ne_eqb, lit<, ap₂, mod-lt, lt_of_le_of_lt, eq-eqb, eqb-true, true≢false}
use Rattle.std.proofs.lemmas.Nat.{mod-pow-add, or_lt, and_le_l}
use Rattle.std.proofs.lemmas.Nat.Bits.{bit_at-lt, bit_at-zero, bit_at_above, bit_at_or, bit_at_and, bit_at_not, bit_at_set_same, bit_at_set_other, shr_and_one}
use Rattle.std.proofs.lemmas.Bool.{and_left, le-ltb, cases_lt, cases_eq, or_left, and_parts, and_from}
use Rattle.std.proofs.lemmas.Bool.Decides.{nat_tests, same_from_decides, Decides-eqb}

-- the numbers below `count` at which `bits` has a 1
pub set_below : ℕ → ℕ → set.FinSet nat_cmp
set_below bits zero = set.empty
set_below bits (suc count) = cond (bit_at bits count == 1) (set.insert (set_below bits count) count) (set_below bits count)

-- the set whose bits these are
pub names_of : ℕ → set.FinSet nat_cmp
names_of bits = set_below bits 128

-- the bits of a set, from its members below `count`
pub bits_below : set.FinSet nat_cmp → ℕ → ℕ
bits_below s zero = 0
bits_below s (suc count) = cond (set.contains s count) (2 ^ count) 0 + bits_below s count

pub bits_of : set.FinSet nat_cmp → ℕ
bits_of s = bits_below s 128

-- two sets have the same members, what `==` answers
unfoldable pub is_same : set.FinSet nat_cmp → set.FinSet nat_cmp → Bool
is_same s t = set.is_subset s t && set.is_subset t s

-- whether a number is a member, with one member more
pub inserted : (s : set.FinSet nat_cmp) (n k : ℕ) → set.contains (set.insert s n) k ≡ ((k == n) || set.contains s k)
inserted s n k = set.contains-insert nat_cmp_total s n k ∙ ap (λ b. b || set.contains s k) (unsigned_tied k n)

one_more : (bits count k : ℕ) (s : set.FinSet nat_cmp) (b : Bool) → (bit_at bits count == 1) ≡ b → set.contains s k ≡ (ltb k count && (bit_at bits k == 1)) → set.contains (cond b (set.insert s count) s) k ≡ (ltb k (suc count) && (bit_at bits k == 1))
one_more bits count k s true is rest = inserted s count k ∙ grind (arith, nat_tests)
one_more bits count k s false is rest = rest ∙ grind (arith, nat_tests)

pub contains-set_below : (bits count k : ℕ) → set.contains (set_below bits count) k ≡ (ltb k count && (bit_at bits k == 1))
unfolding set_below
contains-set_below bits zero k = set.contains-empty nat_cmp k ∙ sym (and_left _ _ (le-ltb k 0 zero-le))
contains-set_below bits (suc count) k = one_more bits count k (set_below bits count) _ refl (contains-set_below bits count k)

pub contains-names_of : (bits k : ℕ) → bits < 2 ^ 128 → set.contains (names_of bits) k ≡ (bit_at bits k == 1)
unfolding names_of
contains-names_of bits k small = contains-set_below bits 128 k ∙ elim (cases_lt k 128) [
  | inl below ↦ ap (λ b. b && (bit_at bits k == 1)) (lt-ltb k 128 below)
  | inr above ↦ and_left _ _ (le-ltb k 128 above) ∙ sym (ne_eqb _ _ (λ one. let none : bit_at bits k ≡ 0 = bit_at_above bits 128 k small above in omega arith))
]

-- a bit as a number at its place
bit_as_number : (x p : ℕ) → x < 2 → cond (x == 1) p 0 ≡ x * p
bit_as_number zero p h = omega arith
bit_as_number (suc zero) p h = omega arith
bit_as_number (suc (suc x)) p h = absurd (omega arith)

bits_below-names_of : (bits count : ℕ) → bits < 2 ^ 128 → bits_below (names_of bits) count ≡ bits % 2 ^ count
unfolding bits_below
bits_below-names_of bits zero small = omega arith
bits_below-names_of bits (suc count) small =
    let rest = bits_below-names_of bits count small in
    let one = ap (λ b. cond b (2 ^ count) 0) (contains-names_of bits count small) ∙ bit_as_number (bit_at bits count) (2 ^ count) (bit_at-lt bits count) in
    let next : suc count ≡ 1 + count = omega arith in
    (λ i. one i + rest i) ∙ sym (mod-pow-add bits 1 count) ∙ ap (λ n. bits % 2 ^ n) (sym next)

pub bits_of-names_of : (bits : ℕ) → bits < 2 ^ 128 → bits_of (names_of bits) ≡ bits
unfolding bits_of
bits_of-names_of bits small = bits_below-names_of bits 128 small ∙ mod-eq_of_lt small

-- two numbers of the same set are equal
pub same_bits : (a b : ℕ) → a < 2 ^ 128 → b < 2 ^ 128 → names_of a ≡ names_of b → a ≡ b
same_bits a b small_a small_b same = sym (bits_of-names_of a small_a) ∙ ap bits_of same ∙ bits_of-names_of b small_b

-- two sets with the same members are equal
pub same_members : (s t : set.FinSet nat_cmp) → ((k : ℕ) → set.contains s k ≡ set.contains t k) → s ≡ t
same_members s t each = set.same_set nat_cmp_total set.nat_cmp-IsAntisymmetric s t each

pub names_of-zero : names_of 0 ≡ set.empty
names_of-zero = same_members _ _ (λ k. contains-names_of 0 k (lit< tt) ∙ ap (λ b. b == 1) (bit_at-zero k) ∙ sym (set.contains-empty nat_cmp k))

-- what one bit of `a | b` and of `a & !b` says
either_bit : (x y : ℕ) → x < 2 → y < 2 → (max x y == 1) ≡ ((x == 1) || (y == 1))
either_bit zero zero h g = refl
either_bit zero (suc zero) h g = refl
either_bit (suc zero) zero h g = refl
either_bit (suc zero) (suc zero) h g = refl
either_bit zero (suc (suc y)) h g = absurd (omega arith)
either_bit (suc zero) (suc (suc y)) h g = absurd (omega arith)
either_bit (suc (suc x)) y h g = absurd (omega arith)

first_bit_alone : (x y : ℕ) → x < 2 → y < 2 → (min x (1 - y) == 1) ≡ ((x == 1) && not (y == 1))
first_bit_alone zero zero h g = refl
first_bit_alone zero (suc zero) h g = refl
first_bit_alone (suc zero) zero h g = refl
first_bit_alone (suc zero) (suc zero) h g = refl
first_bit_alone zero (suc (suc y)) h g = absurd (omega arith)
first_bit_alone (suc zero) (suc (suc y)) h g = absurd (omega arith)
first_bit_alone (suc (suc x)) y h g = absurd (omega arith)

pub names_of-or : (a b : ℕ) → a < 2 ^ 128 → b < 2 ^ 128 → names_of (bit_or a b) ≡ set.union (names_of a) (names_of b)
names_of-or a b small_a small_b = same_members _ _ (λ k.
    contains-names_of (bit_or a b) k (or_lt 128 a b small_a small_b) ∙ ap (λ x. x == 1) (bit_at_or a b k)
    ∙ either_bit (bit_at a k) (bit_at b k) (bit_at-lt a k) (bit_at-lt b k)
    ∙ sym (ap₂ (λ x y. x || y) (contains-names_of a k small_a) (contains-names_of b k small_b))
    ∙ sym (set.contains-union nat_cmp_total (names_of a) (names_of b) k))

bit_at-and_not : (a b k : ℕ) → a < 2 ^ 128 → b < 2 ^ 128 → bit_at (bit_and a (bit_not w128 b)) k ≡ min (bit_at a k) (1 - bit_at b k)
bit_at-and_not a b k small_a small_b = bit_at_and a (bit_not w128 b) k ∙ elim (cases_lt k 128) [
  | inl below ↦ ap (λ y. min (bit_at a k) y) (bit_at_not w128 b k small_b below)
  | inr above ↦ let none : bit_at a k ≡ 0 = bit_at_above a 128 k small_a above in omega arith
]

and_small : (a b : ℕ) → a < 2 ^ 128 → bit_and a b < 2 ^ 128
and_small a b small = lt_of_le_of_lt (and_le_l a b) small

pub names_of-and_not : (a b : ℕ) → a < 2 ^ 128 → b < 2 ^ 128 → names_of (bit_and a (bit_not w128 b)) ≡ set.difference (names_of a) (names_of b)
names_of-and_not a b small_a small_b = same_members _ _ (λ k.
    contains-names_of (bit_and a (bit_not w128 b)) k (and_small a _ small_a) ∙ ap (λ x. x == 1) (bit_at-and_not a b k small_a small_b)
    ∙ first_bit_alone (bit_at a k) (bit_at b k) (bit_at-lt a k) (bit_at-lt b k)
    ∙ sym (ap₂ (λ x y. x && not y) (contains-names_of a k small_a) (contains-names_of b k small_b))
    ∙ sym (set.contains-difference nat_cmp_total (names_of a) (names_of b) k))

pub or_small : (a b : ℕ) → a < 2 ^ 128 → b < 2 ^ 128 → bit_or a b < 2 ^ 128
or_small a b small_a small_b = or_lt 128 a b small_a small_b

pub set_small : (a n : ℕ) → a < 2 ^ 128 → bit_or a (1 * 2 ^ n % 2 ^ 128) < 2 ^ 128
set_small a n small = or_lt 128 a (1 * 2 ^ n % 2 ^ 128) small (mod-lt (1 * 2 ^ n) (lit< tt))

set_bit : (a n k : ℕ) → n < 128 → (bit_at (bit_or a (1 * 2 ^ n % 2 ^ 128)) k == 1) ≡ ((k == n) || (bit_at a k == 1))
set_bit a n k below = elim (cases_eq k n) [
  | inl same ↦
      let one = ap (bit_at (bit_or a (1 * 2 ^ n % 2 ^ 128))) same ∙ bit_at_set_same w128 a n below in
      eq-eqb _ _ one ∙ sym (or_left (k == n) (bit_at a k == 1) (eq-eqb k n same))
  | inr other ↦
      ap (λ x. x == 1) (bit_at_set_other w128 a n below k other) ∙ sym (ap (λ b. b || (bit_at a k == 1)) (ne_eqb k n other))
]

pub names_of-set : (a n : ℕ) → a < 2 ^ 128 → n < 128 → names_of (bit_or a (1 * 2 ^ n % 2 ^ 128)) ≡ set.insert (names_of a) n
names_of-set a n small below = same_members _ _ (λ k.
    contains-names_of _ k (set_small a n small) ∙ set_bit a n k below ∙ ap (λ b. (k == n) || b) (sym (contains-names_of a k small)) ∙ sym (inserted (names_of a) n k))

and-true : (x : Bool) → x ≡ (x && true)
and-true true = refl
and-true false = refl

and_not_false : (x y : Bool) → (x ≡ true → y ≡ true) → (x && not y) ≡ false
and_not_false true y h = ap not (h refl)
and_not_false false y h = refl

then_from_and_not : (x y : Bool) → (x && not y) ≡ false → x ≡ true → y ≡ true
then_from_and_not x true h one = refl
then_from_and_not x false h one = absurd (true≢false (sym one ∙ and-true x ∙ h))

-- a set lies within another exactly where their difference is empty
pub Decides-is_subset : (s t : set.FinSet nat_cmp) → Decides (set.is_subset s t) (set.difference s t ≡ set.empty)
Decides-is_subset s t = (
  λ within. same_members _ _ (λ k.
      set.contains-difference nat_cmp_total s t k
      ∙ and_not_false (set.contains s k) (set.contains t k) (set.is_subset-contains nat_cmp_total s t within k)
      ∙ sym (set.contains-empty nat_cmp k)),
  λ none. set.contains-is_subset nat_cmp_total s t (λ k.
      then_from_and_not (set.contains s k) (set.contains t k) (sym (set.contains-difference nat_cmp_total s t k) ∙ ap (λ d. set.contains d k) none ∙ set.contains-empty nat_cmp k)),
)

pub same_bools : (a b : Bool) → (a ≡ true → b ≡ true) → (b ≡ true → a ≡ true) → a ≡ b
same_bools a b there back = same_from_decides {P = a ≡ true} a b (λ h. h, λ h. h) (back, there)

-- two sets that lie within each other are equal
pub same_within : (s t : set.FinSet nat_cmp) → set.is_subset s t ≡ true → set.is_subset t s ≡ true → s ≡ t
same_within s t there back = same_members s t (λ k.
    same_bools (set.contains s k) (set.contains t k)
    (set.is_subset-contains nat_cmp_total s t there k)
    (set.is_subset-contains nat_cmp_total t s back k))

pub Decides-is_same : (s t : set.FinSet nat_cmp) → Decides (is_same s t) (s ≡ t)
unfolding is_same
Decides-is_same s t = (
  λ both. same_within s t (and_parts _ _ both).0 (and_parts _ _ both).1,
  λ same. and_from _ _
      (set.contains-is_subset nat_cmp_total s t (λ k one. sym (ap (λ r. set.contains r k) same) ∙ one))
      (set.contains-is_subset nat_cmp_total t s (λ k one. ap (λ r. set.contains r k) same ∙ one)),
)

pub is_same_tells : (s t : set.FinSet nat_cmp) → ((is_same s t ≡ true) × (s ≡ t)) ⊎ ((is_same s t ≡ false) × (s ≢ t))
is_same_tells s t = tells (is_same s t) (Decides-is_same s t)
  where
    tells : (answer : Bool) → Decides answer (s ≡ t) → ((answer ≡ true) × (s ≡ t)) ⊎ ((answer ≡ false) × (s ≢ t))
    tells true decides = inl (refl, decides.0 refl)
    tells false decides = inr (refl, λ same. true≢false (sym (decides.1 same)))

-- for a caller of `==`: it answers true exactly where the sets are equal
pub ruleset set_tests = (is_same_tells)

-- `a & !b` is 0 exactly where each member of a is one of b
pub and_not_zero : (a b : ℕ) → a < 2 ^ 128 → b < 2 ^ 128 → (bit_and a (bit_not w128 b) == 0) ≡ set.is_subset (names_of a) (names_of b)
and_not_zero a b small_a small_b =
    let both = bit_and a (bit_not w128 b) in
    let the_set = names_of-and_not a b small_a small_b in
    let within = Decides-is_subset (names_of a) (names_of b) in
    same_from_decides {P = bit_and a (bit_not w128 b) ≡ 0} _ _ (Decides-eqb both 0) (
      λ sub. same_bits both 0 (and_small a _ small_a) (lit< tt) (the_set ∙ within.0 sub ∙ sym names_of-zero),
      λ zero. within.1 (sym the_set ∙ ap names_of zero ∙ names_of-zero),
    )

-- two sets are equal exactly where their numbers are
pub same_number : (a b : ℕ) → a < 2 ^ 128 → b < 2 ^ 128 → (a == b) ≡ is_same (names_of a) (names_of b)
same_number a b small_a small_b =
    let same = Decides-is_same (names_of a) (names_of b) in
    same_from_decides {P = a ≡ b} _ _ (Decides-eqb a b) (λ h. same_bits a b small_a small_b (same.0 h), λ h. same.1 (ap names_of h))

-- the empty set is that of the number 0
pub zero_number : (a : ℕ) → a < 2 ^ 128 → Decides (a == 0) (names_of a ≡ set.empty)
zero_number a small = (
  λ zero. ap names_of (eqb-true a 0 zero) ∙ names_of-zero,
  λ none. eq-eqb a 0 (same_bits a 0 small (lit< tt) (none ∙ sym names_of-zero)),
)

-- the test `(a >> k) & 1 == 1`, and that no number from 128 on is a member
pub shifted_bit : (a k : ℕ) → a < 2 ^ 128 → (bit_and (a / 2 ^ k) 1 == 1) ≡ set.contains (names_of a) k
shifted_bit a k small = ap (λ x. x == 1) (shr_and_one a k) ∙ sym (contains-names_of a k small)

pub no_member_above : (a k : ℕ) → a < 2 ^ 128 → 128 ≤ k → false ≡ set.contains (names_of a) k
no_member_above a k small above =
    let none : bit_at a k ≡ 0 = bit_at_above a 128 k small above in
    sym (contains-names_of a k small ∙ ap (λ x. x == 1) none)

-- what the methods of a `NameSet` need
pub ruleset name_laws = (names_of-zero, names_of-or, names_of-and_not, names_of-set, and_not_zero, same_number, zero_number, shifted_bit, no_member_above, or_small, set_small)

-- what its derives need
pub ruleset bits_laws = (bits_of-names_of, same_bits)

-- equal sets have the same bits, and so one hash
pub same_sets_hash : (s t : set.FinSet nat_cmp) → is_same s t ≡ true → bits_of s ≡ bits_of t
same_sets_hash s t same = ap bits_of ((Decides-is_same s t).0 same)
