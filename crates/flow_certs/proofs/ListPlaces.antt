-- The first values of a list, and what stands behind them.
use Rattle.std.proofs.Common.{◌≡◌, ap, arith, ℕ, ◌≤◌, zero, suc, Some, List, [], ◌∷◌, ◌++◌, ◌+◌, ◌∙◌, length, drop, take}
use Rattle.std.proofs.lemmas.List.{take_more}
use Rattle.std.proofs.lemmas.Option.{get_or_from_slice_get, slice_get_within}
use Rattle.breadth_first.specs.Searches.{IsAt}

pub drop_at : {X : Type 0} (r : ℕ) (xs : List X) (x : X) (rest : List X) → x ∷ rest ≡ drop r xs → IsAt xs r x
drop_at zero [] x rest h = absurd (let never : x ∷ rest ≡ [] = h in cc)
drop_at zero (y ∷ xs) x rest h = let same : y ≡ x = cc in ap Some same
drop_at (suc r) [] x rest h = absurd (let never : x ∷ rest ≡ [] = h in cc)
drop_at (suc r) (y ∷ xs) x rest h = drop_at r xs x rest h

pub drop_next : {X : Type 0} (r : ℕ) (xs : List X) (x : X) (rest : List X) → x ∷ rest ≡ drop r xs → rest ≡ drop (suc r) xs
drop_next zero [] x rest h = absurd (let never : x ∷ rest ≡ [] = h in cc)
drop_next zero (y ∷ xs) x rest h = let same : rest ≡ xs = cc in same
drop_next (suc r) [] x rest h = absurd (let never : x ∷ rest ≡ [] = h in cc)
drop_next (suc r) (y ∷ xs) x rest h = drop_next r xs x rest h

pub drop_none : {X : Type 0} (r : ℕ) (xs : List X) → [] ≡ drop r xs → length xs ≤ r
drop_none r [] h = omega arith
drop_none zero (y ∷ xs) h = absurd (let never : [] ≡ y ∷ xs = h in cc)
drop_none (suc r) (y ∷ xs) h = let rest = drop_none r xs h in omega (arith, rest)

-- the first values of a list, and the next one
pub take_next : {X : Type 0} (xs : List X) (k : ℕ) (x : X) → IsAt xs k x → take (k + 1) xs ≡ take k xs ++ x ∷ []
take_next xs k x here = take_more xs k x (slice_get_within xs k x here) ∙ ap (λ y. take k xs ++ y ∷ []) (get_or_from_slice_get xs k x x here)
