-- Visits, whose facts are read in the list of a region.
use Rattle.std.specs.Prelude.{◌≡◌, ◌≤◌, ◌<◌, ◌↔◌, ◌++◌, ℕ, Bool, true, Option, Some, None, List, [], ◌∷◌, map, length, slice_get}
use Rattle.breadth_first.specs.Searches.{AreOnce, IsAt}
use Rattle.fact_pool.specs.declared.handle.Handle.{Handle}
use Rattle.reached_pairs.specs.declared.visit.Source.{Source as Step}
use Rattle.reached_pairs.specs.declared.visit.Visit.{Visit}

-- `==` is equality
abbrev pub IsExact : {X : Type 0} → (X → X → Bool) → Type 0
IsExact {X} eq = (x y : X) → (eq x y ≡ true) ↔ (x ≡ y)

abbrev pub source_of : Option Step → Option (ℕ × ℕ)
source_of None = None
source_of (Some s) = Some (s.visit, s.arc)

abbrev pub sources_in : List (Option Step) → List (Option (ℕ × ℕ))
sources_in steps = map source_of steps

abbrev pub pair_with : ℕ → Option Handle → List (ℕ × Handle)
pair_with node None = []
pair_with node (Some h) = (node, h) ∷ []

-- the node and the handle of a visit with a fact
abbrev pub pair_of : Visit → List (ℕ × Handle)
pair_of v = pair_with v.node v.fact

abbrev pub pairs_in : List Visit → List (ℕ × Handle)
pairs_in [] = []
pairs_in (v ∷ visits) = pair_of v ++ pairs_in visits

module _ {F : Type 0} where
  abbrev pub fact_in : List F → Option Handle → Option F
  fact_in facts None = None
  fact_in facts (Some h) = slice_get facts h.0

  -- the node of a visit, and its fact
  abbrev pub known_in : List F → Visit → ℕ × Option F
  known_in facts v = (v.node, fact_in facts v.fact)

  -- what was found by visits
  abbrev pub found_in : List F → List Visit → List (ℕ × Option F)
  found_in facts visits = map (known_in facts) visits

  abbrev pub with_fact : ℕ → Option F → List (ℕ × F)
  with_fact node None = []
  with_fact node (Some f) = (node, f) ∷ []

  -- the pairs of a node and a fact among what was found
  abbrev pub facts_in : List (ℕ × Option F) → List (ℕ × F)
  facts_in [] = []
  facts_in (x ∷ found) = with_fact x.0 x.1 ++ facts_in found

  -- The visits are each there once, the list of facts has each fact of a visit once and no other, and the pairs are those of
  -- the visits with a fact.
  pub record AreVisits (facts : List F) (visits : List Visit) (pairs : List (ℕ × Handle)) : Type 0 where
    pub handles : (k : ℕ) (v : Visit) (h : Handle) → IsAt visits k v → v.fact ≡ Some h → h.0 < length facts
    pub used : (i : ℕ) → i < length facts → (k : ℕ) × ((v : Visit) × ((h : Handle) × (IsAt visits k v × ((v.fact ≡ Some h) × (h.0 ≡ i)))))
    pub facts_once : AreOnce facts
    pub once : AreOnce visits
    pub listed : pairs ≡ pairs_in visits
    pub few : length pairs ≤ 1000000
    pub count : length facts ≤ length pairs
