-- Walks from a start by steps that have labels.
use Rattle.std.specs.Prelude.{ℕ, zero, suc}

module _ {S : Type 0} (starts : S → Type 0) (leads : ℕ → S → S → Type 0) where
  -- so many steps lead from a start to the value
  abbrev pub IsWalk : ℕ → S → Type 0
  IsWalk zero s = starts s
  IsWalk (suc n) s = (b : S) × (IsWalk n b × ((label : ℕ) × leads label b s))
