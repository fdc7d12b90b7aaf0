-- What a contract sees of a pool: the lists of its live regions, and how many regions were begun.
use Rattle.std.specs.Prelude.{◌≡◌, ℕ, ◌≤◌, Bool, true, false, List, [], length, Some, IsSome, unwrap_or, slice_get, refl}
use Rattle.std.specs.List.{IsDistinct, list_any}
use Rattle.std.specs.Ordering.{nat_cmp}
use Rattle.std.specs.FinMap as map
use Rattle.std.specs.Coded.{Coded, code_by, coded×, coded_ℕ, coded_list}

-- how many values a list may hold, since a handle has 32 bits
abbrev pub most_values : ℕ
most_values = 4294967295

-- where the count of the regions that were begun stands still
abbrev pub most_begun : ℕ
most_begun = 18446744073709551615

pub record Regions (X : Type 0) : Type 0 where
  pub lists : map.FinMap nat_cmp (List X)
  pub begun : ℕ

abbrev pub regions_code : {X : Type 0} → Coded X → Coded (Regions X)
regions_code {X} code =
    code_by
    (map.FinMap nat_cmp (List X) × ℕ)
    (coded× (map.code coded_ℕ (coded_list code)) coded_ℕ)
    (λ p. (p.lists, p.begun))
    (λ p. record { lists = p.0; begun = p.1 })
    (λ _. refl)

module _ {X : Type 0} where
  -- the region has a list
  abbrev pub IsLive : Regions X → ℕ → Type 0
  IsLive p region = IsSome (map.get p.lists region)

  -- the list of a live region; a region that is not live has no values
  abbrev pub list_of : Regions X → ℕ → List X
  list_of p region = unwrap_or (map.get p.lists region) []

  -- the pool with this list for the region; all other lists and the count stay
  abbrev pub with_list : Regions X → ℕ → List X → Regions X
  with_list p region xs = record p { lists = map.insert p.lists region xs }

  -- the pool with no list for the region; all other lists and the count stay
  abbrev pub without_list : Regions X → ℕ → Regions X
  without_list p region = record p { lists = map.remove p.lists region }

module _ {X : Type 0} (eq : X → X → Bool) where
  -- each list has its values once, and no more of them than handles can name
  pub record IsSound (p : Regions X) : Type 0 where
    pub distinct : (region : ℕ) → IsDistinct eq (list_of p region)
    pub small : (region : ℕ) → length (list_of p region) ≤ most_values

  -- a value equal to x stands at this place of the list
  abbrev pub StandsAt : List X → ℕ → X → Type 0
  StandsAt xs place x = (y : X) × (slice_get xs place ≡ Some y) × (eq x y ≡ true)

  -- no value of the list is equal to x
  abbrev pub Lacks : List X → X → Type 0
  Lacks xs x = list_any (eq x) xs ≡ false

  -- the values at two places are equal exactly where the answer is true
  abbrev pub AreEqualAt : List X → ℕ → ℕ → Bool → Type 0
  AreEqualAt xs i j answer = (x y : X) → slice_get xs i ≡ Some x → slice_get xs j ≡ Some y → eq x y ≡ answer
