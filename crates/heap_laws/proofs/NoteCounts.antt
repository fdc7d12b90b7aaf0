-- How many notes with small names there can be on the objects of a heap, and how many stand.
use Rattle.std.proofs.Common.{◌≡◌, inl, inr, ℕ, zero, suc, ◌+◌, ◌*◌, ◌<◌, ◌≤◌, Bool, true, false, List, refl, sym, ap, ◌∙◌, subst, true≢false, arith}
use Rattle.std.proofs.lemmas.Bool.{cases_lt}
use Rattle.ledger_obligations.specs.declared.note.Note.{Note}
use Rattle.ledger_obligations.specs.Obligations.{has_note, name_of, note}

-- ---- sums

abbrev pub sum_below : (ℕ → ℕ) → ℕ → ℕ
sum_below f zero = 0
sum_below f (suc n) = f n + sum_below f n

sums_le : (f g : ℕ → ℕ) (n : ℕ) → ((i : ℕ) → f i ≤ g i) → sum_below f n ≤ sum_below g n
sums_le f g zero each = omega arith
sums_le f g (suc n) each = let here = each n in let more = sums_le f g n each in omega (arith, here, more)

-- one of the parts is smaller
pub sums_lt : (f g : ℕ → ℕ) (n c : ℕ) → ((i : ℕ) → f i ≤ g i) → c < n → f c < g c → sum_below f n < sum_below g n
sums_lt f g zero c each below less = absurd (omega (arith, below))
sums_lt f g (suc n) c each below less = elim (cases_lt c n) [
  | inl before ↦ (let here = each n in let more = sums_lt f g n c each before less in omega (arith, here, more))
  | inr last ↦
      (let same : c ≡ n = omega (arith, below, last) in
      let here = subst (λ (i : ℕ). f i < g i) same less in
      let more = sums_le f g n each in
      omega (arith, here, more))
]

twice_at_most : (f : ℕ → ℕ) (n : ℕ) → ((i : ℕ) → f i ≤ 2) → sum_below f n ≤ 2 * n
twice_at_most f zero each = omega arith
twice_at_most f (suc n) each = let here = each n in let more = twice_at_most f n each in omega (arith, here, more)

at_most : (f : ℕ → ℕ) (n : ℕ) → ((i : ℕ) → f i ≤ 256) → sum_below f n ≤ 256 * n
at_most f zero each = omega arith
at_most f (suc n) each = let here = each n in let more = at_most f n each in omega (arith, here, more)

-- ---- counts

abbrev pub bit : Bool → ℕ
bit true = 1
bit false = 0

pub bit_le : (b c : Bool) → (b ≡ true → c ≡ true) → bit b ≤ bit c
bit_le true true on = omega arith
bit_le true false on = absurd (true≢false (sym (on refl)))
bit_le false true on = omega arith
bit_le false false on = omega arith

pub bit_lt : (b c : Bool) → b ≡ false → c ≡ true → bit b < bit c
bit_lt true c none one = absurd (true≢false none)
bit_lt false true none one = omega arith
bit_lt false false none one = absurd (true≢false (sym one))

pub bit_small : (b : Bool) → bit b ≤ 1
bit_small true = omega arith
bit_small false = omega arith

-- the notes of the object's name that stand: one that is kept and one that is not
abbrev pub count_name : List Note → ℕ → ℕ → ℕ
count_name ns k i = bit (has_note ns (note true k (name_of i))) + bit (has_note ns (note false k (name_of i)))

-- those of all small names of the object after number `k`
abbrev pub count_object : List Note → ℕ → ℕ
count_object ns k = sum_below (count_name ns (suc k)) 128

-- those of the first objects
abbrev pub count : List Note → ℕ → ℕ
count ns n = sum_below (count_object ns) n

name_small : (ns : List Note) (k i : ℕ) → count_name ns k i ≤ 2
name_small ns k i =
    let kept = bit_small (has_note ns (note true k (name_of i))) in
    let plain = bit_small (has_note ns (note false k (name_of i))) in
    omega (arith, kept, plain)

object_small : (ns : List Note) (k : ℕ) → count_object ns k ≤ 256
object_small ns k = twice_at_most (count_name ns (suc k)) 128 (name_small ns (suc k))

pub count_small : (ns : List Note) (n : ℕ) → count ns n ≤ 256 * n
count_small ns n = at_most (count_object ns) n (object_small ns)

module _ (ms ns : List Note) (on : (a : Note) → has_note ms a ≡ true → has_note ns a ≡ true) where
  name_le : (k i : ℕ) → count_name ms k i ≤ count_name ns k i
  name_le k i =
      let kept = bit_le (has_note ms (note true k (name_of i))) (has_note ns (note true k (name_of i))) (on (note true k (name_of i))) in
      let plain = bit_le (has_note ms (note false k (name_of i))) (has_note ns (note false k (name_of i))) (on (note false k (name_of i))) in
      omega (arith, kept, plain)

  object_le : (k : ℕ) → count_object ms k ≤ count_object ns k
  object_le k = sums_le (count_name ms (suc k)) (count_name ns (suc k)) 128 (name_le (suc k))

  name_lt : (kept : Bool) (k i : ℕ) → has_note ms (note kept k (name_of i)) ≡ false → has_note ns (note kept k (name_of i)) ≡ true → count_name ms k i < count_name ns k i
  name_lt true k i none one =
      let kept = bit_lt (has_note ms (note true k (name_of i))) (has_note ns (note true k (name_of i))) none one in
      let plain = bit_le (has_note ms (note false k (name_of i))) (has_note ns (note false k (name_of i))) (on (note false k (name_of i))) in
      omega (arith, kept, plain)
  name_lt false k i none one =
      let kept = bit_le (has_note ms (note true k (name_of i))) (has_note ns (note true k (name_of i))) (on (note true k (name_of i))) in
      let plain = bit_lt (has_note ms (note false k (name_of i))) (has_note ns (note false k (name_of i))) none one in
      omega (arith, kept, plain)

  number_lt : (kept : Bool) (n k i : ℕ) → k < n → i < 128 → has_note ms (note kept (suc k) (name_of i)) ≡ false → has_note ns (note kept (suc k) (name_of i)) ≡ true
      → count ms n < count ns n
  number_lt kept n k i below small none one =
      sums_lt (count_object ms) (count_object ns) n k object_le below
      (sums_lt (count_name ms (suc k)) (count_name ns (suc k)) 128 i (name_le (suc k)) small (name_lt kept (suc k) i none one))

  -- one more of them stands
  pub count_grows : (n : ℕ) (b : Note) → 0 < b.object → b.object < n + 1 → b.name.0 < 128 → has_note ms b ≡ false → has_note ns b ≡ true → count ms n < count ns n
  count_grows n b above below small none one = go b.object refl
    where
      go : (j : ℕ) → b.object ≡ j → count ms n < count ns n
      go zero is = absurd (omega (arith, above, is))
      go (suc k) is =
          number_lt b.kept n k b.name.0 (omega (arith, below, is)) small
          (ap (λ (j : ℕ). has_note ms (note b.kept j b.name)) (sym is) ∙ none)
          (ap (λ (j : ℕ). has_note ns (note b.kept j b.name)) (sym is) ∙ one)
