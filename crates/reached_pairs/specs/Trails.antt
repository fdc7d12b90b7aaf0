-- The steps that lead to a visit, one behind another.
use Rattle.std.specs.Prelude.{◌≡◌, ◌<◌, ℕ, Option, Some, None, List, [], ◌∷◌}
use Rattle.breadth_first.specs.Searches.{IsAt}
use Rattle.reached_pairs.specs.declared.visit.Source.{Source as Step}

-- each step goes on from an earlier visit
abbrev pub AreBehind : List (Option Step) → Type 0
AreBehind steps = (k : ℕ) (s : Step) → IsAt steps k (Some s) → s.visit < k

-- the steps, the last one first, lead back from one visit to the other
abbrev pub IsBack : List (Option Step) → List Step → ℕ → ℕ → Type 0
IsBack steps [] from to = from ≡ to
IsBack steps (s ∷ back) from to = IsAt steps from (Some s) × IsBack steps back s.visit to

-- the steps, the last one first, lead back from the visit to a start
abbrev pub IsBackToStart : List (Option Step) → List Step → ℕ → Type 0
IsBackToStart steps back from = (to : ℕ) × (IsBack steps back from to × IsAt steps to None)
