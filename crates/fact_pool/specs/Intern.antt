-- What interning a value does to the list of a region.
use Rattle.std.specs.Prelude.{◌≡◌, ◌++◌, Bool, List, [], ◌∷◌, length, Result, Ok, Err, MatchBool}
use Rattle.fact_pool.specs.Regions.{StandsAt, Lacks}
use Rattle.fact_pool.specs.declared.handle.Handle.{Handle}

module _ {X E : Type 0} (eq : X → X → Bool) where
  -- x in the list xs, of which ys is left: it is new at the end, and its place is answered with `true`, or it stood at
  -- the place that is answered with `false`, or it was not there and could not be added
  abbrev pub IsInterned : List X → X → Result (Handle × Bool) E → List X → Type 0
  IsInterned xs x (Ok p) ys =
      MatchBool p.1
      (Lacks eq xs x × (p.0.0 ≡ length xs) × (ys ≡ xs ++ x ∷ []))
      (StandsAt eq xs p.0.0 x × (ys ≡ xs))
  IsInterned xs x (Err e) ys = Lacks eq xs x × (ys ≡ xs)
