-- What each element of a list gives is put before another list, the last one first.
use Rattle.std.proofs.Common.{◌≡◌, ◌∙◌, sym, ap, arith, ℕ, ◌+◌, ◌<◌, ◌≤◌, List, ◌∷◌, ◌++◌, map, drop, length, append_assoc, get_or}
use Rattle.std.specs.Prelude.{flat_map}
use Rattle.std.proofs.Math.Seq.{drop-length}
use Rattle.control_actions.specs.Remaining.{Todo}
use Rattle.control_actions.proofs.PushLemmas.{drop_at}

pub flat_none : {A : Type 0} (f : A → List Todo) (xs : List A) (rest : List Todo) → rest ≡ flat_map f (drop (length xs) xs) ++ rest
flat_none f xs rest = ap (λ ys. flat_map f ys ++ rest) (sym (drop-length xs))

pub flat_before : {A : Type 0} (f : A → List Todo) (xs : List A) (left k : ℕ) (x : A) (now before rest : List Todo) → left ≡ k + 1 → left ≤ length xs → now ≡ f (get_or xs k x) ++ before → before ≡ flat_map f (drop left xs) ++ rest → now ≡ flat_map f (drop k xs) ++ rest
flat_before f xs left k x now before rest next within is was =
    let inside : k < length xs = omega arith in
    is ∙ ap (λ ys. f (get_or xs k x) ++ ys) (was ∙ ap (λ n. flat_map f (drop n xs) ++ rest) next)
    ∙ sym (append_assoc (f (get_or xs k x)) (flat_map f (drop (k + 1) xs)) rest)
    ∙ ap (λ ys. flat_map f ys ++ rest) (sym (drop_at xs k x inside))

pub map_none : {A : Type 0} (f : A → Todo) (xs : List A) (rest : List Todo) → rest ≡ map f (drop (length xs) xs) ++ rest
map_none f xs rest = ap (λ ys. map f ys ++ rest) (sym (drop-length xs))

pub map_before : {A : Type 0} (f : A → Todo) (xs : List A) (left k : ℕ) (x : A) (now before rest : List Todo) → left ≡ k + 1 → left ≤ length xs → now ≡ f (get_or xs k x) ∷ before → before ≡ map f (drop left xs) ++ rest → now ≡ map f (drop k xs) ++ rest
map_before f xs left k x now before rest next within is was =
    let inside : k < length xs = omega arith in
    is ∙ ap (λ ys. f (get_or xs k x) ∷ ys) (was ∙ ap (λ n. map f (drop n xs) ++ rest) next)
    ∙ ap (λ ys. map f ys ++ rest) (sym (drop_at xs k x inside))
