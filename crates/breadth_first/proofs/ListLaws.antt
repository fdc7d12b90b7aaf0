-- Lists that are read by places.
use Rattle.std.proofs.Common.{◌≡◌, ◌∙◌, sym, ap, refl, subst, arith, ℕ, ◌+◌, ◌<◌, ◌⊎◌, inl, inr, zero, suc, Some, None, List, [], ◌∷◌, ◌++◌, map, take, length}
use Rattle.std.proofs.lemmas.Option.{slice_get_within}
use Rattle.breadth_first.specs.Searches.{AreOnce, IsAt, Stands}

pub at_same : {X : Type 0} (xs : List X) (k : ℕ) (x y : X) → IsAt xs k x → IsAt xs k y → x ≡ y
at_same xs k x y a b = let both : Some x ≡ Some y = sym a ∙ b in cc

pub at_within : {X : Type 0} (xs : List X) (k : ℕ) (x : X) → IsAt xs k x → k < length xs
at_within xs k x h = slice_get_within xs k x h

pub at_place : {X : Type 0} (xs : List X) (k : ℕ) → k < length xs → (x : X) × IsAt xs k x
at_place [] k h = absurd (omega arith)
at_place (x ∷ xs) zero h = (x, refl)
at_place (x ∷ xs) (suc k) h = at_place xs k (omega arith)

pub at_append : {X : Type 0} (xs ys : List X) (k : ℕ) (x : X) → IsAt xs k x → IsAt (xs ++ ys) k x
at_append [] ys k x h = absurd (let never : None ≡ Some x = h in cc)
at_append (y ∷ xs) ys zero x h = h
at_append (y ∷ xs) ys (suc k) x h = at_append xs ys k x h

pub at_last : {X : Type 0} (xs : List X) (x : X) → IsAt (xs ++ x ∷ []) (length xs) x
at_last [] x = refl
at_last (y ∷ xs) x = at_last xs x

-- a place of a list with one value more is one of the list, or the last one
pub at_push : {X : Type 0} (xs : List X) (y : X) (k : ℕ) (x : X) → IsAt (xs ++ y ∷ []) k x → IsAt xs k x ⊎ ((k ≡ length xs) × (y ≡ x))
at_push [] y zero x h = inr (refl, (let both : Some y ≡ Some x = h in cc))
at_push [] y (suc k) x h = absurd (let never : None ≡ Some x = h in cc)
at_push (z ∷ xs) y zero x h = inl h
at_push (z ∷ xs) y (suc k) x h =
    elim (at_push xs y k x h) [
      | inl here ↦ inl here
      | inr last ↦ inr (ap suc last.0, last.1)
    ]

pub append_none : {X : Type 0} (xs : List X) → xs ≡ xs ++ []
append_none [] = refl
append_none (x ∷ xs) = ap (λ ys. x ∷ ys) (append_none xs)

-- a list of distinct values with another one more
pub once_push : {X : Type 0} (xs : List X) (y : X) → AreOnce xs → (Stands xs y → ⊥) → AreOnce (xs ++ y ∷ [])
once_push xs y once new i j x here there =
    elim (at_push xs y i x here) [
      | inl first ↦ elim (at_push xs y j x there) [
        | inl second ↦ once i j x first second
        | inr last ↦ absurd (new (i, first ∙ ap Some (sym last.1)))
      ]
      | inr last ↦ elim (at_push xs y j x there) [
        | inl second ↦ absurd (new (j, second ∙ ap Some (sym last.1)))
        | inr other ↦ last.0 ∙ sym other.0
      ]
    ]

pub stands_append : {X : Type 0} (xs ys : List X) (x : X) → Stands xs x → Stands (xs ++ ys) x
stands_append xs ys x h = (h.0, at_append xs ys h.0 x h.1)

pub stands_last : {X : Type 0} (xs : List X) (x : X) → Stands (xs ++ x ∷ []) x
stands_last xs x = (length xs, at_last xs x)

pub at_map : {X Y : Type 0} (f : X → Y) (xs : List X) (k : ℕ) (x : X) → IsAt xs k x → IsAt (map f xs) k (f x)
at_map f [] k x h = absurd (let never : None ≡ Some x = h in cc)
at_map f (y ∷ xs) zero x h = let same : y ≡ x = cc in ap (λ z. Some (f z)) same
at_map f (y ∷ xs) (suc k) x h = at_map f xs k x h

-- a value of a mapped list comes from one of the list
pub map_at : {X Y : Type 0} (f : X → Y) (xs : List X) (k : ℕ) (y : Y) → IsAt (map f xs) k y → (x : X) × (IsAt xs k x × (f x ≡ y))
map_at f [] k y h = absurd (let never : None ≡ Some y = h in cc)
map_at f (x ∷ xs) zero y h = let same : f x ≡ y = cc in (x, (refl, same))
map_at f (x ∷ xs) (suc k) y h = map_at f xs k y h

pub map_append : {X Y : Type 0} (f : X → Y) (xs ys : List X) → map f (xs ++ ys) ≡ map f xs ++ map f ys
map_append f [] ys = refl
map_append f (x ∷ xs) ys = ap (λ zs. f x ∷ zs) (map_append f xs ys)

pub map_same : {X Y : Type 0} (f g : X → Y) (xs : List X) → ((k : ℕ) (x : X) → IsAt xs k x → f x ≡ g x) → map f xs ≡ map g xs
map_same f g [] h = refl
map_same f g (x ∷ xs) h =
    let first : f x ≡ g x = h 0 x refl in
    let rest = map_same f g xs (λ k y here. h (suc k) y here) in
    (λ i. first i ∷ rest i)

pub length_mapped : {X Y : Type 0} (f : X → Y) (xs : List X) → length (map f xs) ≡ length xs
length_mapped f [] = refl
length_mapped f (x ∷ xs) = ap suc (length_mapped f xs)

-- a place of two lists is one of the first, or one of the second
pub at_split : {X : Type 0} (xs ys : List X) (k : ℕ) (x : X) → IsAt (xs ++ ys) k x → IsAt xs k x ⊎ ((j : ℕ) × ((k ≡ length xs + j) × IsAt ys j x))
at_split [] ys k x h = inr (k, ((omega arith), h))
at_split (y ∷ xs) ys zero x h = inl h
at_split (y ∷ xs) ys (suc k) x h =
    elim (at_split xs ys k x h) [
      | inl here ↦ inl here
      | inr later ↦ inr (later.0, ((let place = later.1.0 in omega (arith, place)), later.1.1))
    ]

pub at_front : {X : Type 0} (xs ys : List X) (k : ℕ) (x : X) → k < length xs → IsAt (xs ++ ys) k x → IsAt xs k x
at_front [] ys k x within h = absurd (omega arith)
at_front (y ∷ xs) ys zero x within h = h
at_front (y ∷ xs) ys (suc k) x within h = at_front xs ys k x (omega arith) h

pub at_back : {X : Type 0} (xs ys : List X) (k j : ℕ) (x : X) → k ≡ length xs + j → IsAt (xs ++ ys) k x → IsAt ys j x
at_back [] ys k j x place h = let same : k ≡ j = omega (arith, place) in subst (λ (n : ℕ). IsAt ys n x) same h
at_back (y ∷ xs) ys zero j x place h = absurd (omega (arith, place))
at_back (y ∷ xs) ys (suc k) j x place h = at_back xs ys k j x (omega (arith, place)) h

pub at_behind : {X : Type 0} (xs ys : List X) (j : ℕ) (x : X) → IsAt ys j x → (k : ℕ) × IsAt (xs ++ ys) k x
at_behind [] ys j x h = (j, h)
at_behind (y ∷ xs) ys j x h = let one = at_behind xs ys j x h in (suc one.0, one.1)

pub stands_split : {X : Type 0} (xs ys : List X) (x : X) → Stands (xs ++ ys) x → Stands xs x ⊎ Stands ys x
stands_split xs ys x h =
    elim (at_split xs ys h.0 x h.1) [
      | inl here ↦ inl (h.0, here)
      | inr later ↦ inr (later.0, later.1.1)
    ]

pub stands_map : {X Y : Type 0} (f : X → Y) (xs : List X) (x : X) → Stands xs x → Stands (map f xs) (f x)
stands_map f xs x h = (h.0, at_map f xs h.0 x h.1)

-- a value of the first part of a list
pub stands_take : {X : Type 0} (xs : List X) (n : ℕ) (x : X) → Stands (take n xs) x → Stands xs x
stands_take xs zero x h = absurd (let inside = at_within (take 0 xs) h.0 x h.1 in omega (arith, inside))
stands_take [] (suc n) x h = h
stands_take (y ∷ xs) (suc n) x (zero, here) = (0, here)
stands_take (y ∷ xs) (suc n) x (suc k, here) = let one = stands_take xs n x (k, here) in (suc one.0, one.1)
