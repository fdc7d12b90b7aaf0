-- A pool's slab, seen as the lists of the live regions.
use Rattle.std.specs.Prelude.{ℕ, ◌+◌, List, [], ◌∷◌, Option, Some, None}
use Rattle.std.specs.Ordering.{nat_cmp}
use Rattle.std.specs.FinMap as map
use Rattle.indexmap.specs.IndexSet.{IndexSet}
use Rattle.fact_pool.specs.Regions.{Regions}

module _ {X S : Type 0} where
  -- each list with its key, where the first slot has this key
  abbrev pub lists_from : ℕ → List (Option (IndexSet X S)) → List (ℕ × List X)
  lists_from key [] = []
  lists_from key (None ∷ rest) = lists_from (key + 1) rest
  lists_from key (Some s ∷ rest) = (key, s.keys) ∷ lists_from (key + 1) rest

  -- the map from the keys of the occupied slots to their lists
  unfoldable pub lists_of : List (Option (IndexSet X S)) → map.FinMap nat_cmp (List X)
  lists_of slots = map.from_entries (lists_from 0 slots)

  abbrev pub regions_of : List (Option (IndexSet X S)) → ℕ → Regions X
  regions_of slots begun = record { lists = lists_of slots; begun = begun }
