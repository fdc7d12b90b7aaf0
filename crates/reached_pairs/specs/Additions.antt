-- What is put into a list of visits.
use Rattle.std.specs.Prelude.{◌≡◌, ◌<◌, ◌⊎◌, ◌++◌, ℕ, Option, Some, None, List, [], ◌∷◌, map, length}
use Rattle.rlc_base.specs.declared.code.Code.TheVariants as refused
use Rattle.rlc_base.specs.declared.faults.Refusal.{Refusal}
use Rattle.rlc_base.specs.declared.faults.Stop.{Stop}
use Rattle.rlc_base.specs.declared.faults.Stop.TheVariants as stops
use Rattle.rlc_base.specs.declared.place.Pos.{Pos}
use Rattle.breadth_first.specs.Searches.{AreOnce, IsAt, Stands}
use Rattle.fact_pool.specs.declared.handle.Handle.{Handle}
use Rattle.reached_pairs.specs.declared.visit.Point.{Point}
use Rattle.reached_pairs.specs.declared.visit.Source.{Source as Step}
use Rattle.reached_pairs.specs.declared.visit.Visit.{Visit}
use Rattle.reached_pairs.specs.Visited.{pair_of, source_of}

abbrev pub too_many : Pos → Refusal
too_many pos = record { code = refused.TooManyFacts; pos = pos }

-- why a pair is not put in, where so many are held then
abbrev pub IsPairCause : Pos → ℕ → Stop → Type 0
IsPairCause pos count (stops.Refused x) = ⊥
IsPairCause pos count (stops.TooMuch x) = (x ≡ too_many pos) × (1000000 < count)
IsPairCause pos count stops.NoMemory = Unit {0}

-- the visit is put last with its source and its pair, or it is there and nothing changes
pub record IsPut (visits : List Visit) (steps : List (Option Step)) (pairs : List (ℕ × Handle)) (v : Visit) (s : Option Step) (more : List Visit) (more_steps : List (Option Step)) (more_pairs : List (ℕ × Handle)) : Type 0 where
  pub is : (Stands visits v × ((more ≡ visits) × ((more_steps ≡ steps) × (more_pairs ≡ pairs))))
      ⊎ ((Stands visits v → ⊥) × ((more ≡ visits ++ v ∷ []) × ((more_steps ≡ steps ++ s ∷ []) × (more_pairs ≡ pairs ++ pair_of v))))

-- why a visit is not put in
abbrev pub IsPutCause : List Visit → List (ℕ × Handle) → Visit → Pos → Stop → Type 0
IsPutCause visits pairs v pos (stops.Refused x) = ⊥
IsPutCause visits pairs v pos (stops.TooMuch x) = (x ≡ too_many pos) × ((Stands visits v → ⊥) × (1000000 < length (pairs ++ pair_of v)))
IsPutCause visits pairs v pos stops.NoMemory = Unit {0}

module _ {F : Type 0} where
  -- the handle stands for the fact in the list, which it is behind if it was not there
  abbrev pub IsHandled : List F → Option F → Option Handle → List F → Type 0
  IsHandled facts None None more = more ≡ facts
  IsHandled facts None (Some h) more = ⊥
  IsHandled facts (Some f) None more = ⊥
  IsHandled facts (Some f) (Some h) more = IsAt more h.0 f × ((more ≡ facts) ⊎ ((Stands facts f → ⊥) × ((more ≡ facts ++ f ∷ []) × (h.0 ≡ length facts))))

  abbrev pub point_of : Point F → (ℕ × Option F) × Option (ℕ × ℕ)
  point_of x = ((x.node, x.fact), source_of x.source)

  -- points with their sources
  abbrev pub points_in : List (Point F) → List ((ℕ × Option F) × Option (ℕ × ℕ))
  points_in xs = map point_of xs

  -- more than a million distinct pairs of a node and a fact are among what was found and the points
  pub record ArePast (found : List (ℕ × Option F)) (points : List ((ℕ × Option F) × Option (ℕ × ℕ))) : Type 0 where
    pub pairs : List (ℕ × F)
    pub once : AreOnce pairs
    pub more : 1000000 < length pairs
    pub each : (i : ℕ) (x : ℕ × F) → IsAt pairs i x → Stands found (x.0, Some x.1) ⊎ ((s : Option (ℕ × ℕ)) × Stands points ((x.0, Some x.1), s))

  -- why points are not put in
  abbrev pub IsAddCause : List (ℕ × Option F) → List ((ℕ × Option F) × Option (ℕ × ℕ)) → Pos → Stop → Type 0
  IsAddCause found points pos (stops.Refused x) = ⊥
  IsAddCause found points pos (stops.TooMuch x) = (x ≡ too_many pos) × ArePast found points
  IsAddCause found points pos stops.NoMemory = Unit {0}
