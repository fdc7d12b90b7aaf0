-- Steps over a table that grows.
use Rattle.std.proofs.Common.{◌≡◌, refl, arith, ℕ, ◌≤◌, List, [], ◌∷◌, ◌++◌, map, length}
use Rattle.control_actions.specs.declared.cell.Cell.{Cell}
use Rattle.control_actions.specs.declared.triple.Triple.{Triple}
use Rattle.control_actions.specs.Remaining.{todos}
use Rattle.control_actions.specs.Tables.{Keeps}
use Rattle.java_control.specs.Changes.{highest_steps, step_in}

-- one step more, over a table that keeps the lists of the others
pub steps_grown : (old new : List Cell) (xs : List Triple) (x : Triple) → Keeps old new → highest_steps xs ≤ length old → map (step_in new) (xs ++ x ∷ []) ≡ map (step_in old) xs ++ step_in new x ∷ []
steps_grown old new [] x kept small = refl
steps_grown old new (y ∷ xs) x kept small =
    let first = kept.same y.to (omega arith) in
    let rest = steps_grown old new xs x kept (omega arith) in
    (λ i. record { action = y.action; edge = y.edge; to = todos (first i); pos = y.pos } ∷ rest i)

pub steps_small : (xs : List Triple) (x : Triple) (n : ℕ) → highest_steps xs ≤ n → x.to ≤ n → highest_steps (xs ++ x ∷ []) ≤ n
steps_small [] x n few one = omega arith
steps_small (y ∷ xs) x n few one = let rest = steps_small xs x n (omega arith) one in omega (arith, rest)
