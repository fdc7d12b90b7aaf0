-- A set of numbers below 256, kept as the bits of two numbers of 128 bits each.
-- Contracts see it as std's `FinSet nat_cmp` and speak its words alone; what stands here ties the bits to it.
use Rattle.std.specs.Prelude.{◌≡◌, ◌≢◌, ℕ, ◌+◌, ◌-◌, ◌*◌, ◌/◌, ◌%◌, ◌^◌, ◌<◌, ◌≤◌, true, false, cond, not, ◌&&◌, ◌||◌, ◌==◌, zero, suc, bit_and, bit_or}
use Rattle.std.specs.Ordering.{nat_cmp}
use Rattle.std.specs.Cmp.{nat_cmp_total, unsigned_tied}
use Rattle.std.specs.FinSet as set
use Rattle.std.specs.Bool.{Decides}
use Rattle.std.specs.Int.{bit_at, bit_not, w128}
use Rattle.std.proofs.Common.{sym, ap, ◌∙◌, arith, inl, inr, mod-eq_of_lt, ne_eqb, lit<, ap₂, mod-lt, lt_of_le_of_lt, eq-eqb, eqb-true, true≢false, lt-ltb}
use Rattle.std.proofs.lemmas.Nat.{mod-pow-add, or_lt, and_le_l}
use Rattle.std.proofs.lemmas.Nat.Bits.{bit_at-lt, bit_at-zero, bit_at_above, bit_at_set_same, bit_at_set_other, bit_at_clear_same, bit_at_clear_other, bit_at_cat_low, bit_at_cat_high, shr_and_one}
use Rattle.std.proofs.lemmas.Bool.{and_left, le-ltb, cases_lt, cases_eq, or_left, and_parts, and_from}
use Rattle.std.proofs.lemmas.Bool.Decides.{same_from_decides, Decides-eqb}
use Rattle.rlc_base.specs.NameSet.{set_below, contains-set_below, same_members, inserted, is_same, Decides-is_same}

-- the numbers below 128 of the first, and those of the second, each 128 higher
abbrev joined : ℕ → ℕ → ℕ
joined low high = high * 2 ^ 128 + low

pub places_of : ℕ → ℕ → set.FinSet nat_cmp
places_of low high = set_below (joined low high) 256

-- the bits of a set, from its members below `count`
pub bits_below : set.FinSet nat_cmp → ℕ → ℕ
bits_below s zero = 0
bits_below s (suc count) = cond (set.contains s count) (2 ^ count) 0 + bits_below s count

pub low_of : set.FinSet nat_cmp → ℕ
low_of s = bits_below s 256 % 2 ^ 128

pub high_of : set.FinSet nat_cmp → ℕ
high_of s = bits_below s 256 / 2 ^ 128

joined_small : (low high : ℕ) → low < 2 ^ 128 → high < 2 ^ 128 → joined low high < 2 ^ 256
joined_small low high small_low small_high = omega arith

pub contains-places_of : (low high k : ℕ) → low < 2 ^ 128 → high < 2 ^ 128 → set.contains (places_of low high) k ≡ (bit_at (joined low high) k == 1)
unfolding places_of
contains-places_of low high k small_low small_high = contains-set_below (joined low high) 256 k ∙ elim (cases_lt k 256) [
  | inl below ↦ ap (λ b. b && (bit_at (joined low high) k == 1)) (lt-ltb k 256 below)
  | inr above ↦ and_left _ _ (le-ltb k 256 above) ∙ sym (ne_eqb _ _ (λ one. let none : bit_at (joined low high) k ≡ 0 = bit_at_above (joined low high) 256 k (joined_small low high small_low small_high) above in omega arith))
]

-- a bit as a number at its place
bit_as_number : (x p : ℕ) → x < 2 → cond (x == 1) p 0 ≡ x * p
bit_as_number zero p h = omega arith
bit_as_number (suc zero) p h = omega arith
bit_as_number (suc (suc x)) p h = absurd (omega arith)

bits_below-places_of : (low high count : ℕ) → low < 2 ^ 128 → high < 2 ^ 128 → bits_below (places_of low high) count ≡ joined low high % 2 ^ count
unfolding bits_below
bits_below-places_of low high zero small_low small_high = omega arith
bits_below-places_of low high (suc count) small_low small_high =
    let rest = bits_below-places_of low high count small_low small_high in
    let n = joined low high in
    let one = ap (λ b. cond b (2 ^ count) 0) (contains-places_of low high count small_low small_high) ∙ bit_as_number (bit_at n count) (2 ^ count) (bit_at-lt n count) in
    let next : suc count ≡ 1 + count = omega arith in
    (λ i. one i + rest i) ∙ sym (mod-pow-add n 1 count) ∙ ap (λ m. n % 2 ^ m) (sym next)

all_bits : (low high : ℕ) → low < 2 ^ 128 → high < 2 ^ 128 → bits_below (places_of low high) 256 ≡ joined low high
all_bits low high small_low small_high = bits_below-places_of low high 256 small_low small_high ∙ mod-eq_of_lt (joined_small low high small_low small_high)

low_part : (low high : ℕ) → low < 2 ^ 128 → joined low high % 2 ^ 128 ≡ low
low_part low high small = omega arith

high_part : (low high : ℕ) → low < 2 ^ 128 → joined low high / 2 ^ 128 ≡ high
high_part low high small = omega arith

pub low_of-places_of : (low high : ℕ) → low < 2 ^ 128 → high < 2 ^ 128 → low_of (places_of low high) ≡ low
unfolding low_of
low_of-places_of low high small_low small_high = ap (λ n. n % 2 ^ 128) (all_bits low high small_low small_high) ∙ low_part low high small_low

pub high_of-places_of : (low high : ℕ) → low < 2 ^ 128 → high < 2 ^ 128 → high_of (places_of low high) ≡ high
unfolding high_of
high_of-places_of low high small_low small_high = ap (λ n. n / 2 ^ 128) (all_bits low high small_low small_high) ∙ high_part low high small_low

-- two pairs of the same set are equal
pub same_halves : (a b c d : ℕ) → a < 2 ^ 128 → b < 2 ^ 128 → c < 2 ^ 128 → d < 2 ^ 128 → places_of a b ≡ places_of c d → (a ≡ c) × (b ≡ d)
same_halves a b c d small_a small_b small_c small_d same = (
  sym (low_of-places_of a b small_a small_b) ∙ ap low_of same ∙ low_of-places_of c d small_c small_d,
  sym (high_of-places_of a b small_a small_b) ∙ ap high_of same ∙ high_of-places_of c d small_c small_d,
)

-- a member's bit stands in one of the halves
low_bit : (low high k : ℕ) → k < 128 → bit_at (joined low high) k ≡ bit_at low k
low_bit low high k below = bit_at_cat_low high 128 low k below

high_bit : (low high k : ℕ) → low < 2 ^ 128 → 128 ≤ k → bit_at (joined low high) k ≡ bit_at high (k - 128)
high_bit low high k small above = bit_at_cat_high high 128 low k small above

pub contains_low : (low high k : ℕ) → low < 2 ^ 128 → high < 2 ^ 128 → k < 128 → set.contains (places_of low high) k ≡ (bit_at low k == 1)
contains_low low high k small_low small_high below = contains-places_of low high k small_low small_high ∙ ap (λ x. x == 1) (low_bit low high k below)

pub contains_high : (low high k : ℕ) → low < 2 ^ 128 → high < 2 ^ 128 → 128 ≤ k → set.contains (places_of low high) k ≡ (bit_at high (k - 128) == 1)
contains_high low high k small_low small_high above = contains-places_of low high k small_low small_high ∙ ap (λ x. x == 1) (high_bit low high k small_low above)

pub places_of-zero : places_of 0 0 ≡ set.empty
places_of-zero = same_members _ _ (λ k. contains-places_of 0 0 k (lit< tt) (lit< tt) ∙ ap (λ b. b == 1) (bit_at-zero k) ∙ sym (set.contains-empty nat_cmp k))

-- one bit more
pub set_small : (a n : ℕ) → a < 2 ^ 128 → bit_or a (1 * 2 ^ n % 2 ^ 128) < 2 ^ 128
set_small a n small = or_lt 128 a (1 * 2 ^ n % 2 ^ 128) small (mod-lt (1 * 2 ^ n) (lit< tt))

set_bit : (a n k : ℕ) → n < 128 → (bit_at (bit_or a (1 * 2 ^ n % 2 ^ 128)) k == 1) ≡ ((k == n) || (bit_at a k == 1))
set_bit a n k below = elim (cases_eq k n) [
  | inl same ↦
      let one = ap (bit_at (bit_or a (1 * 2 ^ n % 2 ^ 128))) same ∙ bit_at_set_same w128 a n below in
      eq-eqb _ _ one ∙ sym (or_left (k == n) (bit_at a k == 1) (eq-eqb k n same))
  | inr other ↦
      ap (λ x. x == 1) (bit_at_set_other w128 a n below k other) ∙ sym (ap (λ b. b || (bit_at a k == 1)) (ne_eqb k n other))
]

other_number : (k n : ℕ) → k ≢ n → (k == n) ≡ false
other_number k n other = ne_eqb k n other

shifted_number : (k n : ℕ) → 128 ≤ k → 128 ≤ n → (k - 128 == n - 128) ≡ (k == n)
shifted_number k n above_k above_n = same_from_decides {P = k ≡ n} _ _ (
  λ equal. let same : k - 128 ≡ n - 128 = eqb-true _ _ equal in omega arith,
  λ same. eq-eqb _ _ (ap (λ x. x - 128) same),
) (Decides-eqb k n)

pub with_low : (low high n : ℕ) → low < 2 ^ 128 → high < 2 ^ 128 → n < 128 → places_of (bit_or low (1 * 2 ^ n % 2 ^ 128)) high ≡ set.insert (places_of low high) n
with_low low high n small_low small_high below = same_members _ _ (λ k. elim (cases_lt k 128) [
  | inl lower ↦
      contains_low _ high k (set_small low n small_low) small_high lower ∙ set_bit low n k below
      ∙ ap (λ b. (k == n) || b) (sym (contains_low low high k small_low small_high lower)) ∙ sym (inserted (places_of low high) n k)
  | inr upper ↦
      let other : k ≢ n = omega arith in
      contains_high _ high k (set_small low n small_low) small_high upper ∙ sym (contains_high low high k small_low small_high upper)
      ∙ ap (λ b. b || set.contains (places_of low high) k) (sym (other_number k n other)) ∙ sym (inserted (places_of low high) n k)
])

pub with_high : (low high n : ℕ) → low < 2 ^ 128 → high < 2 ^ 128 → 128 ≤ n → n < 256 → places_of low (bit_or high (1 * 2 ^ (n - 128) % 2 ^ 128)) ≡ set.insert (places_of low high) n
with_high low high n small_low small_high above below = same_members _ _ (λ k. elim (cases_lt k 128) [
  | inl lower ↦
      let other : k ≢ n = omega arith in
      contains_low low _ k small_low (set_small high (n - 128) small_high) lower ∙ sym (contains_low low high k small_low small_high lower)
      ∙ ap (λ b. b || set.contains (places_of low high) k) (sym (other_number k n other)) ∙ sym (inserted (places_of low high) n k)
  | inr upper ↦
      let short : n - 128 < 128 = omega arith in
      contains_high low _ k small_low (set_small high (n - 128) small_high) upper ∙ set_bit high (n - 128) (k - 128) short
      ∙ ap₂ (λ x y. x || y) (shifted_number k n upper above) (sym (contains_high low high k small_low small_high upper)) ∙ sym (inserted (places_of low high) n k)
])

-- one bit less
pub cleared_small : (a b : ℕ) → a < 2 ^ 128 → bit_and a b < 2 ^ 128
cleared_small a b small = lt_of_le_of_lt (and_le_l a b) small

removed : (s : set.FinSet nat_cmp) (n k : ℕ) → set.contains (set.remove s n) k ≡ (not (k == n) && set.contains s k)
removed s n k = set.contains-remove nat_cmp_total s n k ∙ ap (λ b. not b && set.contains s k) (unsigned_tied k n)

cleared_bit : (a n k : ℕ) → a < 2 ^ 128 → n < 128 → k < 128 → (bit_at (bit_and a (bit_not w128 (1 * 2 ^ n % 2 ^ 128))) k == 1) ≡ (not (k == n) && (bit_at a k == 1))
cleared_bit a n k small below lower = elim (cases_eq k n) [
  | inl same ↦
      let none = ap (bit_at (bit_and a (bit_not w128 (1 * 2 ^ n % 2 ^ 128)))) same ∙ bit_at_clear_same w128 a n below in
      ap (λ x. x == 1) none ∙ sym (ap (λ b. not b && (bit_at a k == 1)) (eq-eqb k n same))
  | inr other ↦
      ap (λ x. x == 1) (bit_at_clear_other w128 a n below k lower other) ∙ sym (ap (λ b. not b && (bit_at a k == 1)) (ne_eqb k n other))
]

pub without_low : (low high n : ℕ) → low < 2 ^ 128 → high < 2 ^ 128 → n < 128 → places_of (bit_and low (bit_not w128 (1 * 2 ^ n % 2 ^ 128))) high ≡ set.remove (places_of low high) n
without_low low high n small_low small_high below = same_members _ _ (λ k. elim (cases_lt k 128) [
  | inl lower ↦
      contains_low _ high k (cleared_small low _ small_low) small_high lower ∙ cleared_bit low n k small_low below lower
      ∙ ap (λ b. not (k == n) && b) (sym (contains_low low high k small_low small_high lower)) ∙ sym (removed (places_of low high) n k)
  | inr upper ↦
      let other : k ≢ n = omega arith in
      contains_high _ high k (cleared_small low _ small_low) small_high upper ∙ sym (contains_high low high k small_low small_high upper)
      ∙ ap (λ b. not b && set.contains (places_of low high) k) (sym (other_number k n other)) ∙ sym (removed (places_of low high) n k)
])

bit_above_half : (a k : ℕ) → a < 2 ^ 128 → 128 ≤ k → (bit_at a k == 1) ≡ false
bit_above_half a k small above = ap (λ x. x == 1) (bit_at_above a 128 k small above)

cleared_bit_any : (a n k : ℕ) → a < 2 ^ 128 → n < 128 → (bit_at (bit_and a (bit_not w128 (1 * 2 ^ n % 2 ^ 128))) k == 1) ≡ (not (k == n) && (bit_at a k == 1))
cleared_bit_any a n k small below = elim (cases_lt k 128) [
  | inl lower ↦ cleared_bit a n k small below lower
  | inr upper ↦
      let other : k ≢ n = omega arith in
      bit_above_half _ k (cleared_small a _ small) upper ∙ sym (bit_above_half a k small upper) ∙ sym (ap (λ b. not b && (bit_at a k == 1)) (ne_eqb k n other))
]

pub without_high : (low high n : ℕ) → low < 2 ^ 128 → high < 2 ^ 128 → 128 ≤ n → n < 256 → places_of low (bit_and high (bit_not w128 (1 * 2 ^ (n - 128) % 2 ^ 128))) ≡ set.remove (places_of low high) n
without_high low high n small_low small_high above below = same_members _ _ (λ k. elim (cases_lt k 128) [
  | inl lower ↦
      let other : k ≢ n = omega arith in
      contains_low low _ k small_low (cleared_small high _ small_high) lower ∙ sym (contains_low low high k small_low small_high lower)
      ∙ ap (λ b. not b && set.contains (places_of low high) k) (sym (other_number k n other)) ∙ sym (removed (places_of low high) n k)
  | inr upper ↦
      let short : n - 128 < 128 = omega arith in
      contains_high low _ k small_low (cleared_small high _ small_high) upper ∙ cleared_bit_any high (n - 128) (k - 128) small_high short
      ∙ ap₂ (λ x y. not x && y) (shifted_number k n upper above) (sym (contains_high low high k small_low small_high upper)) ∙ sym (removed (places_of low high) n k)
])

-- the tests `(low >> n) & 1 == 1` and `(high >> (n - 128)) & 1 == 1`
pub low_test : (low high n : ℕ) → low < 2 ^ 128 → high < 2 ^ 128 → n < 128 → (bit_and (low / 2 ^ n) 1 == 1) ≡ set.contains (places_of low high) n
low_test low high n small_low small_high below = ap (λ x. x == 1) (shr_and_one low n) ∙ sym (contains_low low high n small_low small_high below)

pub high_test : (low high n : ℕ) → low < 2 ^ 128 → high < 2 ^ 128 → 128 ≤ n → (bit_and (high / 2 ^ (n - 128)) 1 == 1) ≡ set.contains (places_of low high) n
high_test low high n small_low small_high above = ap (λ x. x == 1) (shr_and_one high (n - 128)) ∙ sym (contains_high low high n small_low small_high above)

-- two sets are equal exactly where both halves are
pub same_pair : (a b c d : ℕ) → a < 2 ^ 128 → b < 2 ^ 128 → c < 2 ^ 128 → d < 2 ^ 128 → ((a == c) && (b == d)) ≡ is_same (places_of a b) (places_of c d)
same_pair a b c d small_a small_b small_c small_d =
    let same = Decides-is_same (places_of a b) (places_of c d) in
    same_from_decides {P = places_of a b ≡ places_of c d} _ _ (
      λ both. ap₂ places_of (eqb-true a c (and_parts _ _ both).0) (eqb-true b d (and_parts _ _ both).1),
      λ equal. let halves = same_halves a b c d small_a small_b small_c small_d equal in and_from _ _ (eq-eqb a c halves.0) (eq-eqb b d halves.1),
    ) same

-- the empty set is that of two zeros
pub zero_pair : (a b : ℕ) → a < 2 ^ 128 → b < 2 ^ 128 → Decides ((a == 0) && (b == 0)) (places_of a b ≡ set.empty)
zero_pair a b small_a small_b = (
  λ both. ap₂ places_of (eqb-true a 0 (and_parts _ _ both).0) (eqb-true b 0 (and_parts _ _ both).1) ∙ places_of-zero,
  λ none. let halves = same_halves a b 0 0 small_a small_b (lit< tt) (lit< tt) (none ∙ sym places_of-zero) in and_from _ _ (eq-eqb a 0 halves.0) (eq-eqb b 0 halves.1),
)

-- the same, where the first halves were compared already
pub same_when : (a b c d : ℕ) → a < 2 ^ 128 → b < 2 ^ 128 → c < 2 ^ 128 → d < 2 ^ 128 → (a == c) ≡ true → (b == d) ≡ is_same (places_of a b) (places_of c d)
same_when a b c d small_a small_b small_c small_d same = ap (λ x. x && (b == d)) (sym same) ∙ same_pair a b c d small_a small_b small_c small_d

pub same_unless : (a b c d : ℕ) → a < 2 ^ 128 → b < 2 ^ 128 → c < 2 ^ 128 → d < 2 ^ 128 → (a == c) ≡ false → (a == c) ≡ is_same (places_of a b) (places_of c d)
same_unless a b c d small_a small_b small_c small_d other = other ∙ ap (λ x. x && (b == d)) (sym other) ∙ same_pair a b c d small_a small_b small_c small_d

pub zero_when : (a b : ℕ) → a < 2 ^ 128 → b < 2 ^ 128 → (a == 0) ≡ true → Decides (b == 0) (places_of a b ≡ set.empty)
zero_when a b small_a small_b is_zero = (
  λ zero. (zero_pair a b small_a small_b).0 (ap (λ x. x && (b == 0)) is_zero ∙ zero),
  λ none. (and_parts _ _ ((zero_pair a b small_a small_b).1 none)).1,
)

pub zero_unless : (a b : ℕ) → a < 2 ^ 128 → b < 2 ^ 128 → (a == 0) ≡ false → Decides (a == 0) (places_of a b ≡ set.empty)
zero_unless a b small_a small_b other = (
  λ zero. absurd (true≢false (sym zero ∙ other)),
  λ none. (and_parts _ _ ((zero_pair a b small_a small_b).1 none)).0,
)

-- what the methods of `Places` need
pub ruleset places_laws = (places_of-zero, with_low, with_high, without_low, without_high, low_test, high_test, same_when, same_unless, zero_when, zero_unless, set_small, cleared_small)

-- what its derives need
pub ruleset halves_laws = (low_of-places_of, high_of-places_of, same_halves)
