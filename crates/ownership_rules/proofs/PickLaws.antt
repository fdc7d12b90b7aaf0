-- The k-th of births that stand in several lists, one behind another.
use Rattle.std.proofs.Common.{◌≡◌, ◌≢◌, ℕ, zero, suc, ◌-◌, List, [], ◌∷◌, ◌++◌, refl, ap, arith}
use Rattle.std.specs.Prelude.{slice_get}
use Rattle.control_actions.specs.declared.fact.Fact.{Fact}
use Rattle.control_actions.specs.declared.fact.Origin.{Origin}
use Rattle.ownership_rules.specs.declared.picks.Pick.TheVariants.{Found, Past}
use Rattle.ownership_rules.specs.Picks.{found, pick, then_in}

pub pick-append : (xs ys : List (Origin × Fact)) (k : ℕ) → pick (xs ++ ys) k ≡ then_in ys (pick xs k)
pick-append [] ys k = refl
pick-append (x ∷ xs) ys zero = refl
pick-append (x ∷ xs) ys (suc k) = pick-append xs ys k

pub found-pick : (xs : List (Origin × Fact)) (k : ℕ) → found (pick xs k) ≡ slice_get xs k
found-pick [] k = refl
found-pick (x ∷ xs) zero = refl
found-pick (x ∷ xs) (suc k) = found-pick xs k

-- a list with one birth
pub one-first : (x : Origin × Fact) (k : ℕ) → k ≡ 0 → pick (x ∷ []) k ≡ Found x
one-first x zero h = refl
one-first x (suc k) h = absurd (omega arith)

pub one-past : (x : Origin × Fact) (k : ℕ) → k ≢ 0 → pick (x ∷ []) k ≡ Past (k - 1)
one-past x zero h = absurd (h refl)
one-past x (suc k) h = ap Past (omega arith)

pub ruleset one_laws = (one-first, one-past)

-- what the loops and the joins over lists of births need
pub ruleset pick_laws = (pick-append, found-pick)
