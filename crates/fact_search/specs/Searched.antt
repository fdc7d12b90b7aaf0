-- What a search has visited, and why it stops early.
use Rattle.std.specs.Prelude.{◌≡◌, ◌<◌, ◌≤◌, ℕ, Option, Some, List, length}
use Rattle.rlc_base.specs.declared.faults.Stop.{Stop}
use Rattle.rlc_base.specs.declared.faults.Stop.TheVariants as stops
use Rattle.rlc_base.specs.declared.place.Pos.{Pos}
use Rattle.reached_pairs.specs.Searches.{AreOnce, HasStarts, IsAt, IsSearch}
use Rattle.reached_pairs.specs.Walks.{IsWalk}
use Rattle.fact_pool.specs.declared.handle.Handle.{Handle}
use Rattle.reached_pairs.specs.Additions.{too_many}
use Rattle.reached_pairs.specs.Visited.{AreVisits, found_in, sources_in}
use Rattle.reached_pairs.specs.declared.visit.Source.{Source as Step}
use Rattle.reached_pairs.specs.declared.visit.Visit.{Visit}

module _ {F : Type 0} (starts : ℕ × Option F → Type 0) (leads : ℕ → ℕ × Option F → ℕ × Option F → Type 0) where
  -- the visits are what a search has found that went on from the first `done` of them, first in, first out
  pub record IsSearched (facts : List F) (visits : List Visit) (pairs : List (ℕ × Handle)) (steps : List (Option Step)) (done : ℕ) : Type 0 where
    pub held : AreVisits facts visits pairs
    pub search : IsSearch starts leads (found_in facts visits) (sources_in steps) done done
    pub within : done ≤ length visits
    pub starting : HasStarts starts leads (found_in facts visits) (sources_in steps)

  -- walks reach more than a million distinct pairs of a node and a fact
  pub record ReachMany : Type 0 where
    pub pairs : List (ℕ × F)
    pub once : AreOnce pairs
    pub more : 1000000 < length pairs
    pub each : (i : ℕ) (x : ℕ × F) → IsAt pairs i x → (n : ℕ) × IsWalk starts leads n (x.0, Some x.1)

  -- why a search stops early, where `pos` is the place that is told
  abbrev pub IsSearchCause : Pos → Stop → Type 0
  IsSearchCause pos (stops.Refused x) = ⊥
  IsSearchCause pos (stops.TooMuch x) = (x ≡ too_many pos) × ReachMany
  IsSearchCause pos stops.NoMemory = Unit {0}
