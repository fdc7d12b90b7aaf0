-- Lists in the order of a number.
use Rattle.std.proofs.Common.{ℕ, ◌<◌, List, [], ◌∷◌, map, length, ap, arith}
use Rattle.std.specs.List.Sorted.{IsNonDecreasingBy}
use Rattle.std.proofs.lemmas.List.{get_or-map, length-map}

some_element : {X : Type 0} (xs : List X) (i : ℕ) → i < length xs → X
some_element [] i h = absurd (omega arith)
some_element (x ∷ xs) i h = x

-- what does not fall along a list does not fall along its images
pub nondecreasing_map : {X Y : Type 0} (f : X → Y) (n : Y → ℕ) (xs : List X) → IsNonDecreasingBy (λ x. n (f x)) xs → IsNonDecreasingBy n (map f xs)
nondecreasing_map f n xs order i j e le below =
    let len = length-map xs f in
    let within : j < length xs = omega arith in
    let before : i < length xs = omega arith in
    let d = some_element xs j within in
    let here = ap n (get_or-map f xs i d e before) in
    let there = ap n (get_or-map f xs j d e within) in
    let least = order i j d le within in
    omega (arith, here, there, least)
