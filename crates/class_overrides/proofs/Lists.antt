-- Filters, and lists of lists, under a test or a search.
use Rattle.std.proofs.Common.{◌≡◌, ◌∙◌, ap, sym, refl, Bool, true, false, cond, not, ◌&&◌, ◌||◌, Option, Some, None, List, [], ◌∷◌, ◌++◌, filter, slice_get}
use Rattle.std.specs.List.{find, flat_map, list_all}
use Rattle.std.specs.Option.{is_some, option_or}
use Rattle.std.proofs.lemmas.List.Folds.{find-append, list_all-append}
use Rattle.std.proofs.lemmas.Grind.{flat_map-append}

pub first-filter : {X : Type 0} (f : X → Bool) (xs : List X) → slice_get (filter f xs) 0 ≡ find f xs
first-filter f [] = refl
first-filter f (x ∷ xs) = elim (f x) as (λ b. slice_get (cond b (x ∷ filter f xs) (filter f xs)) 0 ≡ cond b (Some x) (find f xs)) [ true ↦ refl | false ↦ first-filter f xs ]

pub find-filter : {X : Type 0} (f g : X → Bool) (xs : List X) → find f (filter g xs) ≡ find (λ x. g x && f x) xs
find-filter f g [] = refl
find-filter f g (x ∷ xs) = elim (g x) as (λ b. find f (cond b (x ∷ filter g xs) (filter g xs)) ≡ cond (b && f x) (Some x) (find (λ x. g x && f x) xs)) [ true ↦ ap (cond (f x) (Some x)) (find-filter f g xs) | false ↦ find-filter f g xs ]

pub list_all-filter : {X : Type 0} (f g : X → Bool) (xs : List X) → list_all f (filter g xs) ≡ list_all (λ x. not (g x) || f x) xs
list_all-filter f g [] = refl
list_all-filter f g (x ∷ xs) = elim (g x) as (λ b. list_all f (cond b (x ∷ filter g xs) (filter g xs)) ≡ ((not b || f x) && list_all (λ x. not (g x) || f x) xs)) [ true ↦ ap (λ y. f x && y) (list_all-filter f g xs) | false ↦ list_all-filter f g xs ]

pub list_all-flat_map : {X Y : Type 0} (f : Y → Bool) (g : X → List Y) (xs : List X) → list_all f (flat_map g xs) ≡ list_all (λ x. list_all f (g x)) xs
list_all-flat_map f g [] = refl
list_all-flat_map f g (x ∷ xs) = list_all-append f (g x) (flat_map g xs) ∙ ap (λ y. list_all f (g x) && y) (list_all-flat_map f g xs)

pub flat_map-flat_map : {X Y Z : Type 0} (f : Y → List Z) (g : X → List Y) (xs : List X) → flat_map f (flat_map g xs) ≡ flat_map (λ x. flat_map f (g x)) xs
flat_map-flat_map f g [] = refl
flat_map-flat_map f g (x ∷ xs) = flat_map-append f (g x) (flat_map g xs) ∙ ap (λ y. flat_map f (g x) ++ y) (flat_map-flat_map f g xs)

-- what the first of the lists that has such an element has
abbrev pub of_first : {X Y : Type 0} → Option X → (X → Option Y) → Option Y
of_first None f = None
of_first (Some x) f = f x

of_first_cons : {X Y : Type 0} (f : Y → Bool) (g : X → List Y) (x : X) (o : Option Y) (rest : Option X) → find f (g x) ≡ o → option_or o (of_first rest (λ y. find f (g y))) ≡ of_first (cond (is_some o) (Some x) rest) (λ y. find f (g y))
of_first_cons f g x None rest e = refl
of_first_cons f g x (Some y) rest e = sym e

pub find-flat_map : {X Y : Type 0} (f : Y → Bool) (g : X → List Y) (xs : List X) → find f (flat_map g xs) ≡ of_first (find (λ x. is_some (find f (g x))) xs) (λ x. find f (g x))
find-flat_map f g [] = refl
find-flat_map f g (x ∷ xs) = find-append f (g x) (flat_map g xs) ∙ ap (option_or (find f (g x))) (find-flat_map f g xs) ∙ of_first_cons f g x (find f (g x)) (find (λ x. is_some (find f (g x))) xs) refl
