-- Lemmas on lists that are read by places.
use Rattle.std.proofs.Common.{◌≡◌, ◌∙◌, sym, ap, refl, subst, arith, ℕ, ◌<◌, ◌≤◌, zero, suc, Some, None, List, [], ◌∷◌, ◌++◌, map, length}
use Rattle.std.specs.Prelude.{slice_get}
use Rattle.std.specs.List.{All, AllZip, Contains}
use Rattle.std.proofs.lemmas.Option.{slice_get-get_or, get_or_from_slice_get, slice_get_within}
use Rattle.java_cfg.specs.Reach.{AreOnce}

-- the value at a place of a list
abbrev pub Stands : {X : Type 0} → List X → X → Type 0
Stands xs x = (k : ℕ) × (slice_get xs k ≡ Some x)

pub stands : {X : Type 0} (xs : List X) (x : X) → Contains xs x → Stands xs x
stands xs x h = (h.0, slice_get-get_or xs h.0 x h.1 ∙ ap Some h.2)

pub contains : {X : Type 0} (xs : List X) (k : ℕ) (x : X) → slice_get xs k ≡ Some x → Contains xs x
contains xs k x h = (k, slice_get_within xs k x h, get_or_from_slice_get xs k x x h)

pub place_within : {X : Type 0} (xs : List X) (k : ℕ) → k < length xs → (x : X) × (slice_get xs k ≡ Some x)
place_within [] k h = absurd (omega arith)
place_within (x ∷ xs) zero h = (x, refl)
place_within (x ∷ xs) (suc k) h = place_within xs k (omega arith)

pub get_append : {X : Type 0} (xs ys : List X) (k : ℕ) (x : X) → slice_get xs k ≡ Some x → slice_get (xs ++ ys) k ≡ Some x
get_append [] ys k x h = absurd (let never : None ≡ Some x = h in cc)
get_append (y ∷ xs) ys zero x h = h
get_append (y ∷ xs) ys (suc k) x h = get_append xs ys k x h

-- a value within the first part of a list
pub get_back : {X : Type 0} (xs ys : List X) (k : ℕ) (x : X) → k < length xs → slice_get (xs ++ ys) k ≡ Some x → slice_get xs k ≡ Some x
get_back [] ys k x within h = absurd (omega arith)
get_back (y ∷ xs) ys zero x within h = h
get_back (y ∷ xs) ys (suc k) x within h = get_back xs ys k x (omega arith) h

pub get_map : {X Y : Type 0} (f : X → Y) (xs : List X) (k : ℕ) (x : X) → slice_get xs k ≡ Some x → slice_get (map f xs) k ≡ Some (f x)
get_map f [] k x h = absurd (let never : None ≡ Some x = h in cc)
get_map f (y ∷ xs) zero x h = let same : y ≡ x = cc in ap (λ z. Some (f z)) same
get_map f (y ∷ xs) (suc k) x h = get_map f xs k x h

-- a value of a mapped list comes from one of the list
pub map_get : {X Y : Type 0} (f : X → Y) (xs : List X) (k : ℕ) (y : Y) → slice_get (map f xs) k ≡ Some y → (x : X) × ((slice_get xs k ≡ Some x) × (f x ≡ y))
map_get f [] k y h = absurd (let never : None ≡ Some y = h in cc)
map_get f (x ∷ xs) zero y h = let same : f x ≡ y = cc in (x, (refl, same))
map_get f (x ∷ xs) (suc k) y h = map_get f xs k y h

pub map_append : {X Y : Type 0} (f : X → Y) (xs ys : List X) → map f (xs ++ ys) ≡ map f xs ++ map f ys
map_append f [] ys = refl
map_append f (x ∷ xs) ys = ap (λ zs. f x ∷ zs) (map_append f xs ys)

pub map_same : {X Y : Type 0} (f g : X → Y) (xs : List X) → All (λ x. f x ≡ g x) xs → map f xs ≡ map g xs
map_same f g [] h = refl
map_same f g (x ∷ xs) h =
    let first : f x ≡ g x = h 0 x (omega arith) in
    let rest = map_same f g xs (λ k d within. h (suc k) d (omega arith)) in
    (λ i. first i ∷ rest i)

pub map_map : {X Y Z : Type 0} (f : Y → Z) (g : X → Y) (xs : List X) → map f (map g xs) ≡ map (λ x. f (g x)) xs
map_map f g [] = refl
map_map f g (x ∷ xs) = ap (λ zs. f (g x) ∷ zs) (map_map f g xs)

pub length_mapped : {X Y : Type 0} (f : X → Y) (xs : List X) → length (map f xs) ≡ length xs
length_mapped f [] = refl
length_mapped f (x ∷ xs) = ap suc (length_mapped f xs)

pub contains_map : {X Y : Type 0} (f : X → Y) (xs : List X) (x : X) → Contains xs x → Contains (map f xs) (f x)
contains_map f xs x h = let at = stands xs x h in contains (map f xs) at.0 (f x) (get_map f xs at.0 x at.1)

-- the list without the value at a place
abbrev without : {X : Type 0} → List X → ℕ → List X
without [] j = []
without (x ∷ xs) zero = xs
without (x ∷ xs) (suc j) = x ∷ without xs j

without_length : {X : Type 0} (xs : List X) (j : ℕ) (x : X) → slice_get xs j ≡ Some x → length xs ≡ suc (length (without xs j))
without_length [] j x h = absurd (let never : None ≡ Some x = h in cc)
without_length (y ∷ xs) zero x h = refl
without_length (y ∷ xs) (suc j) x h = ap suc (without_length xs j x h)

without_stands : {X : Type 0} (xs : List X) (j k : ℕ) (x : X) → slice_get xs k ≡ Some x → (j ≡ k → ⊥) → Stands (without xs j) x
without_stands [] j k x h other = absurd (let never : None ≡ Some x = h in cc)
without_stands (y ∷ xs) zero zero x h other = absurd (other refl)
without_stands (y ∷ xs) zero (suc k) x h other = (k, h)
without_stands (y ∷ xs) (suc j) zero x h other = (0, h)
without_stands (y ∷ xs) (suc j) (suc k) x h other =
    let rest = without_stands xs j k x h (λ same. other (ap suc same)) in
    (suc rest.0, rest.1)

-- values that differ from each other and all stand in a list are no more than it has
pub once_length : {X : Type 0} (xs ys : List X) → AreOnce xs → ((k : ℕ) (x : X) → slice_get xs k ≡ Some x → Stands ys x) → length xs ≤ length ys
once_length [] ys once all = omega arith
once_length (x ∷ xs) ys once all =
    let at = all 0 x refl in
    let rest = once_length xs (without ys at.0)
    (λ i j y here there. let same : suc i ≡ suc j = once (suc i) (suc j) y here there in omega arith)
    (λ k y here.
    let place = all (suc k) y here in
    without_stands ys at.0 place.0 y place.1 (λ (same : at.0 ≡ place.0).
    let equal : Some x ≡ Some y = sym at.1 ∙ ap (slice_get ys) same ∙ place.1 in
    let first : slice_get (x ∷ xs) 0 ≡ Some y = equal in
    let never : 0 ≡ suc k = once 0 (suc k) y first here in
    omega arith))
    in
    omega (arith, rest, without_length ys at.0 x at.1)

-- two lists of one length of which a relation holds place by place
pub zip_places : {X Y : Type 0} (R : X → Y → Type 0) (xs : List X) (ys : List Y) (k : ℕ) (y : Y) → AllZip R xs ys → slice_get ys k ≡ Some y → (x : X) × ((slice_get xs k ≡ Some x) × R x y)
zip_places R [] [] k y h at = absurd (let never : None ≡ Some y = at in cc)
zip_places R [] (z ∷ ys) k y h at = absurd h
zip_places R (x ∷ xs) [] k y h at = absurd h
zip_places R (x ∷ xs) (z ∷ ys) zero y h at = let same : z ≡ y = cc in (x, (refl, subst (R x) same h.0))
zip_places R (x ∷ xs) (z ∷ ys) (suc k) y h at = zip_places R xs ys k y h.1 at

pub zip_places_left : {X Y : Type 0} (R : X → Y → Type 0) (xs : List X) (ys : List Y) (k : ℕ) (x : X) → AllZip R xs ys → slice_get xs k ≡ Some x → (y : Y) × ((slice_get ys k ≡ Some y) × R x y)
zip_places_left R [] [] k x h at = absurd (let never : None ≡ Some x = at in cc)
zip_places_left R [] (z ∷ ys) k x h at = absurd h
zip_places_left R (z ∷ xs) [] k x h at = absurd h
zip_places_left R (z ∷ xs) (y ∷ ys) zero x h at = let same : z ≡ x = cc in (y, (refl, subst (λ (w : _). R w y) same h.0))
zip_places_left R (z ∷ xs) (y ∷ ys) (suc k) x h at = zip_places_left R xs ys k x h.1 at

pub zip_weaker : {X Y : Type 0} (R Q : X → Y → Type 0) → ((x : X) (y : Y) → R x y → Q x y) → (xs : List X) (ys : List Y) → AllZip R xs ys → AllZip Q xs ys
zip_weaker R Q f [] [] h = tt
zip_weaker R Q f [] (y ∷ ys) h = absurd h
zip_weaker R Q f (x ∷ xs) [] h = absurd h
zip_weaker R Q f (x ∷ xs) (y ∷ ys) h = (f x y h.0, zip_weaker R Q f xs ys h.1)
