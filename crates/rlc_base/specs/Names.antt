-- The table of names, seen as the list of the names: a name's number is its place, counted from 0.
use Rattle.std.specs.Prelude.{◌≡◌, ℕ, ◌<◌, ◌≤◌, List, [], ◌∷◌, ◌++◌, length, map, nat_lt, if◌then◌else◌, slice_index_or, Vec}
use Rattle.std.specs.List.{position_or_len}
use Rattle.std.specs.Str.{bytes_eq}

-- the place of a name, or the length where the table lacks it
abbrev pub place_of : List (List ℕ) → List ℕ → ℕ
place_of names name = position_or_len (bytes_eq name) names

abbrev pub Holds : List (List ℕ) → List ℕ → Type 0
Holds names name = place_of names name < length names

abbrev pub Lacks : List (List ℕ) → List ℕ → Type 0
Lacks names name = place_of names name ≡ length names

-- the table once the name is taken in: as it was where it holds the name, and else with the name at its end
abbrev pub with_name : List (List ℕ) → List ℕ → List (List ℕ)
with_name names name = if nat_lt (place_of names name) (length names) then names else names ++ name ∷ []

-- at most 128 names, each once: the place of the name at k is k
pub record IsTable (names : List (List ℕ)) : Type 0 where
  pub few : length names ≤ 128
  pub once : (k : ℕ) → k < length names → place_of names (slice_index_or names k []) ≡ k

-- the names that the keys of an index set are
abbrev pub texts : {A : Type 0} → List (Vec ℕ A) → List (List ℕ)
texts keys = map (λ k. k.items) keys
