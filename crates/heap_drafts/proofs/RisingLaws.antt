-- Numbers that rise.
use Rattle.std.proofs.Common.{◌≡◌, ◌∙◌, ap, sym, refl, subst, ℕ, zero, suc, ◌+◌, ◌-◌, ◌<◌, ◌≤◌, Bool, true, false, ◌&&◌, ◌||◌, nat_eq, List, [], ◌∷◌, ◌++◌, length, take, get_or, arith}
use Rattle.std.proofs.lemmas.Grind.{common_steps}
use Rattle.std.specs.Prelude.{nat_le, nat_lt, if◌then◌else◌}
use Rattle.std.specs.List.Sorted.{IsNonDecreasing}
use Rattle.ledger_state.specs.Heaps.{has_number}
use Rattle.heap_drafts.specs.Drafts.{HasNumbers, later, numbers_rise, with_beyond}

-- none of them is beyond `k`
abbrev pub up_to : ℕ → List ℕ → Bool
up_to k [] = true
up_to k (n ∷ ns) = nat_le n k && up_to k ns

and_both : (a b : Bool) → a ≡ true → b ≡ true → (a && b) ≡ true
and_both true b e f = f
and_both false b e f = absurd (cc)

and_left : (a b : Bool) → (a && b) ≡ true → a ≡ true
and_left true b e = refl
and_left false b e = absurd (cc)

and_right : (a b : Bool) → (a && b) ≡ true → b ≡ true
and_right true b e = e
and_right false b e = absurd (cc)

pub up_further : (k m : ℕ) (ns : List ℕ) → k ≤ m → up_to k ns ≡ true → up_to m ns ≡ true
up_further k m [] less e = refl
up_further k m (n ∷ ns) less e =
    let first : nat_le n k ≡ true = and_left (nat_le n k) (up_to k ns) e in
    let more : nat_le n m ≡ true = grind (arith, common_steps, first, less) in
    and_both (nat_le n m) (up_to m ns) more (up_further k m ns less (and_right (nat_le n k) (up_to k ns) e))

pub up_more : (k m : ℕ) (ns : List ℕ) → k < m → up_to k ns ≡ true → up_to m (ns ++ m ∷ []) ≡ true
up_more k m [] less e = let own : nat_le m m ≡ true = grind (arith, common_steps) in and_both (nat_le m m) true own refl
up_more k m (n ∷ ns) less e =
    let first : nat_le n k ≡ true = and_left (nat_le n k) (up_to k ns) e in
    let more : nat_le n m ≡ true = grind (arith, common_steps, first, less) in
    and_both (nat_le n m) (up_to m (ns ++ m ∷ [])) more (up_more k m ns less (and_right (nat_le n k) (up_to k ns) e))

-- a larger one at the end
pub rise_more : (j k m : ℕ) (ns : List ℕ) → j ≤ k → k < m → up_to k ns ≡ true → numbers_rise j ns ≡ true → numbers_rise j (ns ++ m ∷ []) ≡ true
rise_more j k m [] low less up rise = let first : nat_lt j m ≡ true = grind (arith, common_steps, low, less) in and_both (nat_lt j m) true first refl
rise_more j k m (n ∷ ns) low less up rise =
    let first : nat_le n k ≡ true = and_left (nat_le n k) (up_to k ns) up in
    let within : n ≤ k = grind (arith, common_steps, first) in
    and_both (nat_lt j n) (numbers_rise n (ns ++ m ∷ [])) (and_left (nat_lt j n) (numbers_rise n ns) rise)
    (rise_more n k m ns within less (and_right (nat_le n k) (up_to k ns) up) (and_right (nat_lt j n) (numbers_rise n ns) rise))

pub has_last : (xs : List ℕ) (k : ℕ) → has_number (xs ++ k ∷ []) k ≡ true
has_last [] k = let own : nat_eq k k ≡ true = grind (arith, common_steps) in ap (λ b. b || false) own
has_last (x ∷ xs) k = ap (λ b. nat_eq x k || b) (has_last xs k) ∙ or_true (nat_eq x k)
  where
    or_true : (a : Bool) → (a || true) ≡ true
    or_true true = refl
    or_true false = refl

pub has_still : (xs : List ℕ) (k m : ℕ) → has_number xs m ≡ true → has_number (xs ++ k ∷ []) m ≡ true
has_still [] k m h = absurd (cc)
has_still (x ∷ xs) k m h = go (nat_eq x m) refl h (has_still xs k m)
  where
    go : (b : Bool) → nat_eq x m ≡ b → (b || has_number xs m) ≡ true → (has_number xs m ≡ true → has_number (xs ++ k ∷ []) m ≡ true) → (b || has_number (xs ++ k ∷ []) m) ≡ true
    go true e any further = refl
    go false e any further = further any

-- the numbers up to a place, and that at the place
has_next : (xs : List ℕ) (i k : ℕ) → i < length xs → has_number (take (suc i) xs) k ≡ (has_number (take i xs) k || nat_eq (get_or xs i 0) k)
has_next [] i k within = absurd (omega arith)
has_next (x ∷ xs) zero k within = alone (nat_eq x k)
  where
    alone : (a : Bool) → (a || false) ≡ a
    alone true = refl
    alone false = refl
has_next (x ∷ xs) (suc i) k within = ap (λ t. nat_eq x k || t) (has_next xs i k (omega arith)) ∙ assoc (nat_eq x k) (has_number (take i xs) k) (nat_eq (get_or xs i 0) k)
  where
    assoc : (a b c : Bool) → (a || (b || c)) ≡ ((a || b) || c)
    assoc true b c = refl
    assoc false b c = refl

-- what is known of the numbers before a place: the last one is that before it
pub record Once (xs : List ℕ) (i last : ℕ) (once : List ℕ) : Type 0 where
  pub rise : numbers_rise 0 once ≡ true
  pub up : up_to last once ≡ true
  pub before : (i ≡ 0 → last ≡ 0) × (0 < i → last ≡ get_or xs (i - 1) 0)
  pub own : 0 < last → has_number once last ≡ true
  pub all : (k : ℕ) → 0 < k → has_number (take i xs) k ≡ true → has_number once k ≡ true

pub once_start : (xs : List ℕ) → Once xs 0 0 []
once_start xs = record { rise = refl; up = refl; before = (λ e. refl, λ e. absurd (omega arith)); own = λ e. absurd (omega arith); all = λ k above has. absurd (none k has) }
  where
    none : (k : ℕ) → has_number (take 0 xs) k ≡ true → ⊥
    none k has = cc

either : (a b : Bool) (P : Type 0) → (a ≡ true → P) → (b ≡ true → P) → (a || b) ≡ true → P
either true b P f g e = f refl
either false b P f g e = g e

-- a number beyond the last one
pub once_more : (xs : List ℕ) (i last m : ℕ) (once : List ℕ) → i < length xs → m ≡ get_or xs i 0 → last < m → Once xs i last once → Once xs (i + 1) m (once ++ m ∷ [])
once_more xs i last m once within is less so = record {
  rise = rise_more 0 last m once (omega arith) less so.up so.rise;
  up = up_more last m once less so.up;
  before = (λ e. absurd (omega (arith, e)), λ e. let n : i + 1 - 1 ≡ i = omega arith in is ∙ ap (λ j. get_or xs j 0) (sym n));
  own = λ e. has_last once m;
  all = λ k above has.
      let n : i + 1 ≡ suc i = omega arith in
      either (has_number (take i xs) k) (nat_eq (get_or xs i 0) k) (has_number (once ++ m ∷ []) k ≡ true)
      (λ e. has_still once m k (so.all k above e))
      (λ e. let same : m ≡ k = grind (arith, common_steps, e, is) in ap (has_number (once ++ m ∷ [])) (sym same) ∙ has_last once m)
      (sym (has_next xs i k within) ∙ ap (λ j. has_number (take j xs) k) (sym n) ∙ has);
}

-- the last one again
pub once_again : (xs : List ℕ) (i last m : ℕ) (once : List ℕ) → IsNonDecreasing xs → i < length xs → m ≡ get_or xs i 0 → m ≤ last → Once xs i last once → Once xs (i + 1) last once
once_again xs i last m once sorted within is low so = record {
  rise = so.rise;
  up = so.up;
  before = (λ e. absurd (omega (arith, e)), λ e. let n : i + 1 - 1 ≡ i = omega arith in sym same ∙ is ∙ ap (λ j. get_or xs j 0) (sym n));
  own = so.own;
  all = λ k above has.
      let n : i + 1 ≡ suc i = omega arith in
      either (has_number (take i xs) k) (nat_eq (get_or xs i 0) k) (has_number once k ≡ true)
      (so.all k above)
      (λ e. let at : last ≡ k = grind (arith, common_steps, e, is, same) in ap (has_number once) (sym at) ∙ so.own (subst (λ j. 0 < j) (sym at) above))
      (sym (has_next xs i k within) ∙ ap (λ j. has_number (take j xs) k) (sym n) ∙ has);
}
  where
    known : (t : Bool) → nat_lt 0 i ≡ t → last ≤ m
    known true e =
        let above : 0 < i = grind (arith, common_steps, e) in
        let was : last ≡ get_or xs (i - 1) 0 = so.before.1 above in
        let order : get_or xs (i - 1) 0 ≤ get_or xs i 0 = sorted (i - 1) i 0 (omega arith) within in
        omega (arith, was, order, is)
    known false e =
        let first : i ≡ 0 = grind (arith, common_steps, e) in
        let was : last ≡ 0 = so.before.0 first in
        omega (arith, was)

    same : m ≡ last
    same = let other : last ≤ m = known (nat_lt 0 i) refl in omega (arith, other, low)

-- a turn of the loop
pub once_turn : (xs : List ℕ) (i last m : ℕ) (once new : List ℕ) (r : ℕ) → IsNonDecreasing xs → i < length xs → m ≡ get_or xs i 0 → new ≡ with_beyond last m once → r ≡ later last m → Once xs i last once → Once xs (i + 1) r new
once_turn xs i last m once new r sorted within is put now so = go (nat_lt last m) refl
  where
    go : (b : Bool) → nat_lt last m ≡ b → Once xs (i + 1) r new
    go true e =
        let beyond : last < m = grind (arith, common_steps, e) in
        let list : once ++ m ∷ [] ≡ new = sym (put ∙ ap (λ t. if t then once ++ m ∷ [] else once) e) in
        let number : m ≡ r = sym (now ∙ ap (λ t. if t then m else last) e) in
        subst (λ ns. Once xs (i + 1) r ns) list (subst (λ n. Once xs (i + 1) n (once ++ m ∷ [])) number (once_more xs i last m once within is beyond so))
    go false e =
        let low : m ≤ last = grind (arith, common_steps, e) in
        let list : once ≡ new = sym (put ∙ ap (λ t. if t then once ++ m ∷ [] else once) e) in
        let number : last ≡ r = sym (now ∙ ap (λ t. if t then m else last) e) in
        subst (λ ns. Once xs (i + 1) r ns) list (subst (λ n. Once xs (i + 1) n once) number (once_again xs i last m once sorted within is low so))

take_past : (n : ℕ) (ys : List ℕ) → length ys ≤ n → take n ys ≡ ys
take_past zero [] low = refl
take_past zero (y ∷ ys) low = absurd (omega arith)
take_past (suc n) [] low = refl
take_past (suc n) (y ∷ ys) low = ap (λ zs. y ∷ zs) (take_past n ys (omega arith))

pub once_all : (xs : List ℕ) (i last : ℕ) (once : List ℕ) → length xs ≤ i → Once xs i last once → HasNumbers xs once
once_all xs i last once past so k above has = so.all k above (ap (λ ys. has_number ys k) (take_past i xs past) ∙ has)
