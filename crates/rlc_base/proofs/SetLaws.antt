-- Laws of the sets that `NameSet` is seen as, for the crates above: members, the algebra of union and difference, and the order.
--     member_of-..      whether a number is a member of a set made by `insert`, `union` or `difference`
--     union_..., minus_...      equations of sets;  from equal members two sets are equal: `same_members`
--     IsWithin s t      s is a subset of t, and its laws;  a set that is not within another has a member that the other lacks
use Rattle.std.specs.Ordering.{nat_cmp}
use Rattle.std.specs.Cmp.{nat_cmp_total, unsigned_tied}
use Rattle.std.specs.FinSet as set
use Rattle.std.specs.FinSet.{FinSet, contains, empty, insert, union, difference, is_subset, items}
use Rattle.std.specs.List.{list_any}
use Rattle.std.specs.Ordering.{eq_by_cmp}
use Rattle.std.proofs.Common.{◌≡◌, ℕ, Bool, true, false, not, ◌&&◌, ◌||◌, ◌⊎◌, List, [], ◌∷◌, refl, sym, ap, ◌∙◌, eqb, eqb-true, eq-eqb, inl, inr, true≢false}
use Rattle.std.proofs.Math.Bool.{or_comm, or_assoc, or_self, or-false, and-true, and-or_distrib_right}
use Rattle.std.proofs.lemmas.Bool.{or_left, or_right, or_cases, and_parts, and_from, not_from_false, not-true, false_from_ne_true}
pub use Rattle.rlc_base.specs.NameSet.{same_members, is_same, Decides-is_same, Decides-is_subset}
use Rattle.rlc_base.specs.NameSet.{inserted, same_within}

-- every member of s is one of t
abbrev pub IsWithin : FinSet nat_cmp → FinSet nat_cmp → Type 0
IsWithin s t = is_subset s t ≡ true

-- ---- members

pub member_of-empty : (k : ℕ) → contains (empty {R = nat_cmp}) k ≡ false
member_of-empty k = set.contains-empty nat_cmp k

pub member_of-insert : (s : FinSet nat_cmp) (n k : ℕ) → contains (insert s n) k ≡ (eqb k n || contains s k)
member_of-insert = inserted

pub member_of-union : (s t : FinSet nat_cmp) (k : ℕ) → contains (union s t) k ≡ (contains s k || contains t k)
member_of-union = set.contains-union nat_cmp_total

pub member_of-minus : (s t : FinSet nat_cmp) (k : ℕ) → contains (difference s t) k ≡ (contains s k && not (contains t k))
member_of-minus = set.contains-difference nat_cmp_total

-- the same, as facts
pub new_member : (s : FinSet nat_cmp) (n : ℕ) → contains (insert s n) n ≡ true
new_member s n = member_of-insert s n n ∙ or_left _ _ (eq-eqb n n refl)

pub old_member : (s : FinSet nat_cmp) (n k : ℕ) → contains s k ≡ true → contains (insert s n) k ≡ true
old_member s n k in_s = member_of-insert s n k ∙ or_right _ _ in_s

pub either_member : (s : FinSet nat_cmp) (n k : ℕ) → contains (insert s n) k ≡ true → (k ≡ n) ⊎ (contains s k ≡ true)
either_member s n k one = elim (or_cases _ _ (sym (member_of-insert s n k) ∙ one)) [ inl same ↦ inl (eqb-true k n same) | inr in_s ↦ inr in_s ]

pub left_member : (s t : FinSet nat_cmp) (k : ℕ) → contains s k ≡ true → contains (union s t) k ≡ true
left_member s t k in_s = member_of-union s t k ∙ or_left _ _ in_s

pub right_member : (s t : FinSet nat_cmp) (k : ℕ) → contains t k ≡ true → contains (union s t) k ≡ true
right_member s t k in_t = member_of-union s t k ∙ or_right _ _ in_t

pub union_member : (s t : FinSet nat_cmp) (k : ℕ) → contains (union s t) k ≡ true → (contains s k ≡ true) ⊎ (contains t k ≡ true)
union_member s t k one = or_cases _ _ (sym (member_of-union s t k) ∙ one)

pub minus_member : (s t : FinSet nat_cmp) (k : ℕ) → contains (difference s t) k ≡ true → (contains s k ≡ true) × (contains t k ≡ false)
minus_member s t k one =
    let parts = and_parts (contains s k) (not (contains t k)) (sym (member_of-minus s t k) ∙ one) in
    (parts.0, not-true (contains t k) parts.1)

pub member_of_minus : (s t : FinSet nat_cmp) (k : ℕ) → contains s k ≡ true → contains t k ≡ false → contains (difference s t) k ≡ true
member_of_minus s t k in_s out_t = member_of-minus s t k ∙ and_from _ _ in_s (not_from_false _ out_t)

-- ---- equations

neither : (a b c : Bool) → (a && not (b || c)) ≡ ((a && not b) && not c)
neither false b c = refl
neither true true c = refl
neither true false c = refl

given_back : (a b : Bool) → ((a && not b) || b) ≡ (a || b)
given_back false b = refl
given_back true true = refl
given_back true false = refl

pub union_comm : (s t : FinSet nat_cmp) → union s t ≡ union t s
union_comm s t = same_members _ _ (λ k. simp member_of-union (or_comm (contains s k) (contains t k)))

pub union_assoc : (s t u : FinSet nat_cmp) → union (union s t) u ≡ union s (union t u)
union_assoc s t u = same_members _ _ (λ k. simp member_of-union (or_assoc (contains s k) (contains t k) (contains u k)))

pub union_self : (s : FinSet nat_cmp) → union s s ≡ s
union_self s = same_members _ _ (λ k. simp member_of-union (or_self (contains s k)))

pub union-empty : (s : FinSet nat_cmp) → union s empty ≡ s
union-empty s = same_members _ _ (λ k. simp (member_of-union, member_of-empty) (or-false (contains s k)))

pub empty-union : (s : FinSet nat_cmp) → union empty s ≡ s
empty-union s = union_comm empty s ∙ union-empty s

pub insert-union : (s t : FinSet nat_cmp) (n : ℕ) → union (insert s n) t ≡ insert (union s t) n
insert-union s t n = same_members _ _ (λ k. simp (member_of-union, member_of-insert) (or_assoc (eqb k n) (contains s k) (contains t k)))

pub minus-empty : (s : FinSet nat_cmp) → difference s empty ≡ s
minus-empty s = same_members _ _ (λ k. simp (member_of-minus, member_of-empty) (and-true (contains s k)))

pub empty-minus : (s : FinSet nat_cmp) → difference empty s ≡ empty
empty-minus s = same_members _ _ (λ k. simp (member_of-minus, member_of-empty))

pub minus-union : (s t u : FinSet nat_cmp) → difference s (union t u) ≡ difference (difference s t) u
minus-union s t u = same_members _ _ (λ k. simp (member_of-minus, member_of-union) (neither (contains s k) (contains t k) (contains u k)))

pub union-minus : (s t u : FinSet nat_cmp) → difference (union s t) u ≡ union (difference s u) (difference t u)
union-minus s t u = same_members _ _ (λ k. simp (member_of-minus, member_of-union) (and-or_distrib_right (contains s k) (contains t k) (not (contains u k))))

-- what is taken away and put back
pub minus_union : (s t : FinSet nat_cmp) → union (difference s t) t ≡ union s t
minus_union s t = same_members _ _ (λ k. simp (member_of-minus, member_of-union) (given_back (contains s k) (contains t k)))

-- ---- the order

pub within_at : (s t : FinSet nat_cmp) → IsWithin s t → (k : ℕ) → contains s k ≡ true → contains t k ≡ true
within_at = set.is_subset-contains nat_cmp_total

pub within_from : (s t : FinSet nat_cmp) → ((k : ℕ) → contains s k ≡ true → contains t k ≡ true) → IsWithin s t
within_from = set.contains-is_subset nat_cmp_total

pub within_self : (s : FinSet nat_cmp) → IsWithin s s
within_self s = within_from s s (λ k in_s. in_s)

pub within_trans : (s t u : FinSet nat_cmp) → IsWithin s t → IsWithin t u → IsWithin s u
within_trans s t u st tu = within_from s u (λ k in_s. within_at t u tu k (within_at s t st k in_s))

pub within_antisym : (s t : FinSet nat_cmp) → IsWithin s t → IsWithin t s → s ≡ t
within_antisym = same_within

pub empty_within : (s : FinSet nat_cmp) → IsWithin empty s
empty_within s = within_from empty s (λ k one. absurd (true≢false (sym one ∙ member_of-empty k)))

pub within_empty : (s : FinSet nat_cmp) → IsWithin s empty → s ≡ empty
within_empty s h = within_antisym s empty h (empty_within s)

pub within_insert : (s : FinSet nat_cmp) (n : ℕ) → IsWithin s (insert s n)
within_insert s n = within_from s (insert s n) (old_member s n)

pub insert_within : (s t : FinSet nat_cmp) (n : ℕ) → IsWithin s t → contains t n ≡ true → IsWithin (insert s n) t
insert_within s t n st in_t = within_from (insert s n) t (λ k one.
    elim (either_member s n k one) [ inl same ↦ ap (contains t) same ∙ in_t | inr in_s ↦ within_at s t st k in_s ])

pub within_union_left : (s t : FinSet nat_cmp) → IsWithin s (union s t)
within_union_left s t = within_from s (union s t) (left_member s t)

pub within_union_right : (s t : FinSet nat_cmp) → IsWithin t (union s t)
within_union_right s t = within_from t (union s t) (right_member s t)

pub union_within : (s t u : FinSet nat_cmp) → IsWithin s u → IsWithin t u → IsWithin (union s t) u
union_within s t u su tu = within_from (union s t) u (λ k one.
    elim (union_member s t k one) [ inl in_s ↦ within_at s u su k in_s | inr in_t ↦ within_at t u tu k in_t ])

pub union_monotone : (s s' t t' : FinSet nat_cmp) → IsWithin s s' → IsWithin t t' → IsWithin (union s t) (union s' t')
union_monotone s s' t t' ss tt = union_within s t (union s' t')
    (within_trans s s' (union s' t') ss (within_union_left s' t'))
    (within_trans t t' (union s' t') tt (within_union_right s' t'))

-- a set within another adds nothing to it
pub union_of_within : (s t : FinSet nat_cmp) → IsWithin s t → union s t ≡ t
union_of_within s t st = within_antisym (union s t) t (union_within s t t st (within_self t)) (within_union_right s t)

pub minus_within : (s t : FinSet nat_cmp) → IsWithin (difference s t) s
minus_within s t = within_from (difference s t) s (λ k one. (minus_member s t k one).0)

pub minus_monotone : (s s' t : FinSet nat_cmp) → IsWithin s s' → IsWithin (difference s t) (difference s' t)
minus_monotone s s' t ss = within_from (difference s t) (difference s' t) (λ k one.
    let parts = minus_member s t k one in
    member_of_minus s' t k (within_at s s' ss k parts.0) parts.1)

pub minus_antitone : (s t t' : FinSet nat_cmp) → IsWithin t t' → IsWithin (difference s t') (difference s t)
minus_antitone s t t' tt = within_from (difference s t') (difference s t) (λ k one.
    let parts = minus_member s t' k one in
    member_of_minus s t k parts.0 (false_from_ne_true _ (λ in_t. true≢false (sym (within_at t t' tt k in_t) ∙ parts.1))))

-- nothing is left of a set exactly where it lies within what is taken away
pub minus_is_empty : (s t : FinSet nat_cmp) → IsWithin s t → difference s t ≡ empty
minus_is_empty s t = (Decides-is_subset s t).0

pub within_from_minus : (s t : FinSet nat_cmp) → difference s t ≡ empty → IsWithin s t
within_from_minus s t = (Decides-is_subset s t).1

-- a member of s that t lacks
abbrev pub Misses : FinSet nat_cmp → FinSet nat_cmp → Type 0
Misses s t = (k : ℕ) × (contains s k ≡ true) × (contains t k ≡ false)

one_more_number : (t : FinSet nat_cmp) (n : ℕ) (ns : List ℕ) (here : Bool) → contains t n ≡ here
    → ((k : ℕ) → list_any (eq_by_cmp nat_cmp k) ns ≡ true → contains t k ≡ true) ⊎ ((k : ℕ) × (list_any (eq_by_cmp nat_cmp k) ns ≡ true) × (contains t k ≡ false))
    → ((k : ℕ) → list_any (eq_by_cmp nat_cmp k) (n ∷ ns) ≡ true → contains t k ≡ true) ⊎ ((k : ℕ) × (list_any (eq_by_cmp nat_cmp k) (n ∷ ns) ≡ true) × (contains t k ≡ false))
one_more_number t n ns false out rest = inr (n, or_left _ (list_any (eq_by_cmp nat_cmp n) ns) (unsigned_tied n n ∙ eq-eqb n n refl), out)
one_more_number t n ns true in_t (inl each) = inl (λ k one.
    elim (or_cases (eq_by_cmp nat_cmp k n) (list_any (eq_by_cmp nat_cmp k) ns) one) [
      | inl tie ↦ ap (contains t) (eqb-true k n (sym (unsigned_tied k n) ∙ tie)) ∙ in_t
      | inr later ↦ each k later
    ])
one_more_number t n ns true in_t (inr (k, among, out)) = inr (k, or_right (eq_by_cmp nat_cmp k n) _ among, out)

-- each of the numbers is a member of t, or one is not
all_or_missing : (t : FinSet nat_cmp) (ns : List ℕ) → ((k : ℕ) → list_any (eq_by_cmp nat_cmp k) ns ≡ true → contains t k ≡ true) ⊎ ((k : ℕ) × (list_any (eq_by_cmp nat_cmp k) ns ≡ true) × (contains t k ≡ false))
all_or_missing t [] = inl (λ k one. absurd (true≢false (sym one)))
all_or_missing t (n ∷ ns) = one_more_number t n ns (contains t n) refl (all_or_missing t ns)

-- a set lies within another, or has a member that the other lacks
pub within_or_misses : (s t : FinSet nat_cmp) → IsWithin s t ⊎ Misses s t
within_or_misses s t = elim (all_or_missing t (items s)) [
  | inl each ↦ inl (within_from s t (λ k in_s. each k (sym (set.contains-items s k) ∙ in_s)))
  | inr (k, among, out) ↦ inr (k, set.contains-items s k ∙ among, out)
]

pub misses_from_false : (s t : FinSet nat_cmp) → is_subset s t ≡ false → Misses s t
misses_from_false s t not_within = elim (within_or_misses s t) [
  | inl within ↦ absurd (true≢false (sym within ∙ not_within))
  | inr misses ↦ misses
]

pub false_from_misses : (s t : FinSet nat_cmp) → Misses s t → is_subset s t ≡ false
false_from_misses s t (k, in_s, out_t) = false_from_ne_true _ (λ within. true≢false (sym (within_at s t within k in_s) ∙ out_t))
