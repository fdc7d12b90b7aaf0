-- Lists that are made number by number.
use Rattle.std.proofs.Common.{◌≡◌, ℕ, suc, ◌+◌, ◌-◌, ◌<◌, ◌≤◌, List, ◌++◌, arith}
use Rattle.std.proofs.lemmas.Grind.{common_steps}
use Rattle.std.specs.List.{flat_map, range_with_len}

-- what the next number makes joins what is made
pub flat_further : {X : Type 0} (f : ℕ → List X) (n i : ℕ) (xs : List X) → i < n → xs ++ flat_map f (range_with_len i (n - i)) ≡ (xs ++ f i) ++ flat_map f (range_with_len (i + 1) (n - (i + 1)))
flat_further f n i xs h =
    let e : n - i ≡ suc (n - (i + 1)) = omega arith in
    rw e (grind (arith, common_steps))

-- no number is left
pub flat_end : {X : Type 0} (f : ℕ → List X) (n i : ℕ) (xs : List X) → n ≤ i → xs ++ flat_map f (range_with_len i (n - i)) ≡ xs
flat_end f n i xs h =
    let e : n - i ≡ 0 = omega arith in
    rw e (grind (arith, common_steps))
