-- The values to which a turn of a search comes: the starts, or all that one value leads to.
use Rattle.std.specs.Prelude.{◌≡◌, ℕ, Some, None, List}
use Rattle.breadth_first.specs.Searches.{Source, Stands}

module _ {S : Type 0} (starts : S → Type 0) (leads : ℕ → S → S → Type 0) where
  -- the points are the starts
  pub record AreStarts (points : List (S × Source)) : Type 0 where
    pub each : (s : S) (x : Source) → Stands points (s, x) → starts s × (x ≡ None)
    pub all : (s : S) → starts s → (x : Source) × Stands points (s, x)

  -- the points are the values to which the value at the place leads
  pub record AreSteps (place : ℕ) (b : S) (points : List (S × Source)) : Type 0 where
    pub each : (s : S) (x : Source) → Stands points (s, x) → (label : ℕ) × (leads label b s × (x ≡ Some (place, label)))
    pub all : (label : ℕ) (s : S) → leads label b s → (x : Source) × Stands points (s, x)
