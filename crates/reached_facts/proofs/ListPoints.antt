-- Values that those of a list give, with their places, and the first place of a value.
use Rattle.std.proofs.Common.{◌≡◌, ◌∙◌, sym, ap, refl, subst, arith, rules, add-one, ℕ, ◌+◌, ◌<◌, zero, suc, Bool, true, false, Some, None, List, [], ◌∷◌, ◌++◌, inl, inr, take, get_or, length, append_assoc}
use Rattle.std.specs.Prelude.{nat_lt, position, Result, Ok, Err, IfOk}
use Rattle.std.specs.List.{flat_map, position_or_len}
use Rattle.std.proofs.lemmas.List.Quantifiers.{position-Some}
use Rattle.std.proofs.lemmas.List.Sums.{position_or_len_is}
use Rattle.std.proofs.lemmas.Option.{get_or_from_slice_get, slice_get-get_or, slice_get_within}
use Rattle.reached_pairs.specs.Searches.{IsAt, Stands}
use Rattle.reached_pairs.proofs.ListLaws.{append_none, at_behind, stands_append, stands_split}
use Rattle.reached_facts.specs.Points.{flat_from}

behind : {X : Type 0} (xs ys : List X) (y : X) → Stands ys y → Stands (xs ++ ys) y
behind xs ys y h = at_behind xs ys h.0 y h.1

take_none : {X : Type 0} (xs : List X) → take 0 xs ≡ []
take_none [] = refl
take_none (x ∷ xs) = refl

module _ {X Y : Type 0} (f : ℕ → X → List Y) where
  from_next : (start k n : ℕ) → n ≡ k + start → (xs : List X) (x : X) → IsAt xs k x → flat_from f start (take (suc k) xs) ≡ flat_from f start (take k xs) ++ f n x
  from_next start k n is [] x here = absurd (let never : None ≡ Some x = here in cc)
  from_next start zero n is (y ∷ xs) x here =
      let same : y ≡ x = cc in
      let place : n ≡ start = omega (arith, is) in
      ap (λ zs. f start y ++ flat_from f (suc start) zs) (take_none xs) ∙ sym (append_none (f start y)) ∙ ap (λ m. f m y) (sym place) ∙ ap (f n) same
  from_next start (suc k) n is (y ∷ xs) x here =
      ap (λ zs. f start y ++ zs) (from_next (suc start) k n (omega (arith, is)) xs x here) ∙ sym (append_assoc (f start y) (flat_from f (suc start) (take k xs)) (f n x))

  -- what the first values give, and the next one
  pub from_more : (k : ℕ) (xs : List X) (x : X) → IsAt xs k x → flat_from f 0 (take (k + 1) xs) ≡ flat_from f 0 (take k xs) ++ f k x
  from_more k xs x here = ap (λ n. flat_from f 0 (take n xs)) (add-one k) ∙ from_next 0 k k (omega arith) xs x here

  from_stands : (start : ℕ) (xs : List X) (y : Y) → Stands (flat_from f start xs) y → (i : ℕ) × ((n : ℕ) × ((n ≡ i + start) × ((x : X) × (IsAt xs i x × Stands (f n x) y))))
  from_stands start [] y h = absurd (let never : None ≡ Some y = h.1 in cc)
  from_stands start (x ∷ xs) y h =
      elim (stands_split (f start x) (flat_from f (suc start) xs) y h) [
        | inl here ↦ (0, (start, (omega arith, (x, (refl, here)))))
        | inr later ↦ (
            let one = from_stands (suc start) xs y later in
            (suc one.0, (one.1.0, ((let place = one.1.1.0 in omega (arith, place)), (one.1.1.1.0, one.1.1.1.1)))))
      ]

  -- a value of the list gives it
  pub from_whole : (xs : List X) (y : Y) → Stands (flat_from f 0 xs) y → (i : ℕ) × ((x : X) × (IsAt xs i x × Stands (f i x) y))
  from_whole xs y h =
      let one = from_stands 0 xs y h in
      let place : one.1.0 ≡ one.0 = (let is = one.1.1.0 in omega (arith, is)) in
      (one.0, (one.1.1.1.0, (one.1.1.1.1.0, subst (λ (n : ℕ). Stands (f n one.1.1.1.0) y) place one.1.1.1.1.1)))

  stands_by : (start i n : ℕ) → n ≡ i + start → (xs : List X) (x : X) (y : Y) → IsAt xs i x → Stands (f n x) y → Stands (flat_from f start xs) y
  stands_by start i n is [] x y here h = absurd (let never : None ≡ Some x = here in cc)
  stands_by start zero n is (z ∷ xs) x y here h =
      let same : z ≡ x = cc in
      let place : n ≡ start = omega (arith, is) in
      stands_append (f start z) (flat_from f (suc start) xs) y (subst (λ (w : X). Stands (f start w) y) (sym same) (subst (λ (m : ℕ). Stands (f m x) y) place h))
  stands_by start (suc i) n is (z ∷ xs) x y here h = behind (f start z) (flat_from f (suc start) xs) y (stands_by (suc start) i n (omega (arith, is)) xs x y here h)

  -- what a value of the list gives
  pub stands_from : (i : ℕ) (xs : List X) (x : X) (y : Y) → IsAt xs i x → Stands (f i x) y → Stands (flat_from f 0 xs) y
  stands_from i xs x y here h = stands_by 0 i i (omega arith) xs x y here h

-- what a value of a list gives
pub stands_flat : {X Y : Type 0} (f : X → List Y) (xs : List X) (k : ℕ) (x : X) (y : Y) → IsAt xs k x → Stands (f x) y → Stands (flat_map f xs) y
stands_flat f [] k x y here h = absurd (let never : None ≡ Some x = here in cc)
stands_flat f (z ∷ xs) zero x y here h = let same : z ≡ x = cc in stands_append (f z) (flat_map f xs) y (subst (λ w. Stands (f w) y) (sym same) h)
stands_flat f (z ∷ xs) (suc k) x y here h = behind (f z) (flat_map f xs) y (stands_flat f xs k x y here h)

-- the first value that passes a test
pub position_at : {X : Type 0} (test : X → Bool) (xs : List X) (n : ℕ) → position test xs ≡ Some n → (x : X) × (IsAt xs n x × (test x ≡ true))
position_at test [] n is = absurd (let never : None ≡ Some n = is in cc)
position_at test (x ∷ xs) n is =
    let one = position-Some test (x ∷ xs) n x is in
    (get_or (x ∷ xs) n x, (slice_get-get_or (x ∷ xs) n x one.0, one.1))

not_true : (b : Bool) → (b ≡ true → ⊥) → b ≡ false
not_true true h = absurd (h refl)
not_true false h = refl

less : (m n : ℕ) → m < n → nat_lt m n ≡ true
less m n h = search rules

position_by : {X : Type 0} (test : X → Bool) (xs : List X) (n : ℕ) → position_or_len test xs ≡ n → n < length xs → position test xs ≡ Some n
position_by test xs n is inside = (let within = less (position_or_len test xs) (length xs) (subst (λ (m : ℕ). m < length xs) (sym is) inside) in search (rules, within, is))

-- the one value that passes a test
pub position_found : {X : Type 0} (test : X → Bool) (xs : List X) (n : ℕ) (x : X) → IsAt xs n x → test x ≡ true → ((k : ℕ) (y : X) → IsAt xs k y → test y ≡ true → k ≡ n) → position test xs ≡ Some n
position_found test xs n x here is only =
    let inside = slice_get_within xs n x here in
    position_by test xs n
    (position_or_len_is test xs n x (omega (arith, inside))
    (λ k low. not_true (test (get_or xs k x)) (λ passes. let same = only k (get_or xs k x) (slice_get-get_or xs k x (omega (arith, low, inside))) passes in omega (arith, same, low)))
    (λ _. ap test (get_or_from_slice_get xs n x x here) ∙ is)) inside

-- what was there, and what the first values and the next one gave
pub pushed_more : {Y : Type 0} (start now more front new all : List Y) → now ≡ start ++ front → more ≡ now ++ new → all ≡ front ++ new → more ≡ start ++ all
pushed_more start now more front new all before after is = after ∙ ap (λ ys. ys ++ new) before ∙ append_assoc start front new ∙ ap (λ ys. start ++ ys) (sym is)

pub if_ok : {A E : Type 0} (r : Result A E) (P Q : A → Type 0) → ((x : A) → P x → Q x) → IfOk r P → IfOk r Q
if_ok (Ok x) P Q f h = f x h
if_ok (Err e) P Q f h = tt
