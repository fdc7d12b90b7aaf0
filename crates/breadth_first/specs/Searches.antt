-- What a search has found, first in, first out.
use Rattle.std.specs.Prelude.{◌≡◌, ℕ, zero, suc, ◌<◌, ◌≤◌, Option, Some, None, List, ◌++◌, length, slice_get}
use Rattle.breadth_first.specs.Walks.{IsWalk}

-- From where a value was found first: nothing where it is a start, and else the place of the value that led to it, and the
-- label of the step.
abbrev pub Source : Type 0
Source = Option (ℕ × ℕ)

-- sources in the order in which they come: the starts, and then by the place of the value that led on
abbrev pub rank : Source → ℕ
rank None = 0
rank (Some x) = suc x.0

-- so many sources lead back from the value at the place to a start
abbrev pub IsChain : List Source → ℕ → ℕ → Type 0
IsChain sources zero k = slice_get sources k ≡ Some None
IsChain sources (suc n) k = (x : ℕ × ℕ) × ((slice_get sources k ≡ Some (Some x)) × IsChain sources n x.0)

-- the value stands at the place of the list
abbrev pub IsAt : {X : Type 0} → List X → ℕ → X → Type 0
IsAt xs k x = slice_get xs k ≡ Some x

-- the value stands in the list
abbrev pub Stands : {X : Type 0} → List X → X → Type 0
Stands xs x = (k : ℕ) × IsAt xs k x

-- no value stands twice in the list
abbrev pub AreOnce : {X : Type 0} → List X → Type 0
AreOnce {X} xs = (i j : ℕ) (x : X) → IsAt xs i x → IsAt xs j x → i ≡ j

-- The search came to the values of `points`, each with its source: those that were not found yet were put behind the
-- others, with a source that they have there.
pub record Extends {S : Type 0} (found : List S) (sources : List Source) (points : List (S × Source)) (more : List S) (more_sources : List Source) : Type 0 where
  pub new : List S
  pub new_sources : List Source
  pub is : more ≡ found ++ new
  pub is_sources : more_sources ≡ sources ++ new_sources
  pub long : length new_sources ≡ length new
  pub each : (k : ℕ) (s : S) (x : Source) → IsAt new k s → IsAt new_sources k x → Stands points (s, x)
  pub all : (s : S) (x : Source) → Stands points (s, x) → Stands more s

module _ {S : Type 0} (starts : S → Type 0) (leads : ℕ → S → S → Type 0) where
  -- the source is one of the value at the place
  abbrev pub IsSource : List S → ℕ → S → Source → Type 0
  IsSource found k s None = starts s
  IsSource found k s (Some x) = (b : S) × ((x.0 < k) × (IsAt found x.0 b × leads x.1 b s))

  -- `found` is what a search has found that went on from the first `done` values, where no source comes behind rank `top`
  pub record IsSearch (found : List S) (sources : List Source) (done top : ℕ) : Type 0 where
    pub long : length sources ≡ length found
    pub traced : (k : ℕ) (s : S) (x : Source) → IsAt found k s → IsAt sources k x → IsSource found k s x
    pub ordered : (i j : ℕ) (x y : Source) → i ≤ j → IsAt sources i x → IsAt sources j y → rank x ≤ rank y
    pub near : (k : ℕ) (x : Source) → IsAt sources k x → rank x ≤ top
    pub closed : (k : ℕ) → k < done → (b s : S) (label : ℕ) → IsAt found k b → leads label b s
        → (j : ℕ) × ((x : Source) × (IsAt found j s × (IsAt sources j x × (rank x ≤ suc k))))

  -- each start is found as a start
  abbrev pub HasStarts : List S → List Source → Type 0
  HasStarts found sources = (s : S) → starts s → (j : ℕ) × (IsAt found j s × IsAt sources j None)

  -- What a search has found is what is reached, and the chain of each value is the shortest walk to it.
  pub record IsShortest (found : List S) (sources : List Source) : Type 0 where
    pub reached : (k n : ℕ) (s : S) → IsAt found k s → IsChain sources n k → IsWalk starts leads n s
    pub chained : (k : ℕ) (s : S) → IsAt found k s → (n : ℕ) × IsChain sources n k
    pub least : (m : ℕ) (s : S) → IsWalk starts leads m s → (k : ℕ) × (IsAt found k s × ((n : ℕ) → IsChain sources n k → n ≤ m))
