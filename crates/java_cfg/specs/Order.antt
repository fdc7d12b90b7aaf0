-- Numbers that are given out in the order of their first use.
use Rattle.std.specs.Prelude.{ℕ, ◌+◌, ◌≤◌, max, List, [], ◌∷◌}

-- so many numbers are in use after the list, where the first `n` were before
abbrev pub counted : ℕ → List ℕ → ℕ
counted n [] = n
counted n (x ∷ xs) = counted (max n (x + 1)) xs

-- each number of the list is in use before, or is the next one, where the first `n` are in use at first
abbrev pub InOrder : ℕ → List ℕ → Type 0
InOrder n [] = Unit {0}
InOrder n (x ∷ xs) = (x ≤ n) × InOrder (max n (x + 1)) xs
