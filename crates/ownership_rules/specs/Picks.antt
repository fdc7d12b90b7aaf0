-- The k-th of births that stand in several lists, one behind another.
use Rattle.std.specs.Prelude.{ℕ, zero, suc, Option, Some, None, List, [], ◌∷◌}
use Rattle.control_actions.specs.declared.fact.Fact.{Fact}
use Rattle.control_actions.specs.declared.fact.Origin.{Origin}
use Rattle.ownership_rules.specs.declared.picks.Pick.{Pick}
use Rattle.ownership_rules.specs.declared.picks.Pick.TheVariants.{Found, Past}

-- the k-th, or how many of k are left behind the list
abbrev pub pick : List (Origin × Fact) → ℕ → Pick
pick [] k = Past k
pick (x ∷ xs) zero = Found x
pick (x ∷ xs) (suc k) = pick xs k

abbrev pub found : Pick → Option (Origin × Fact)
found (Found x) = Some x
found (Past k) = None

-- what was not found is sought in the next list
abbrev pub then_in : List (Origin × Fact) → Pick → Pick
then_in xs (Found x) = Found x
then_in xs (Past k) = pick xs k
