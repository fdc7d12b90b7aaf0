-- The search for what stands above a class.
use Rattle.std.specs.Prelude.{◌≡◌, ◌↔◌, ℕ, ◌+◌, Bool, true, false, List, [], ◌∷◌, ◌++◌, All, Contains, slice_index_or}
use Rattle.program_model.specs.declared.kinds.ClassId.{ClassId}
use Rattle.class_headers.specs.SuperTypes.{IsUnder}

-- the class has a mark
abbrev pub is_marked : List Bool → ClassId → Bool
is_marked marks c = slice_index_or marks c.0 false

-- how many have no mark
abbrev pub open_count : List Bool → ℕ
open_count [] = 0
open_count (true ∷ marks) = open_count marks
open_count (false ∷ marks) = open_count marks + 1

-- these classes have a mark, and no others
pub record AreMarked (found : List ClassId) (marks : List Bool) : Type 0 where
  pub exact : (c : ClassId) → (is_marked marks c ≡ true) ↔ Contains found c

-- a list grew by some of these classes, and has them all
pub record Grows (old more classes : List ClassId) : Type 0 where
  pub new : List ClassId
  pub is : more ≡ old ++ new
  pub only : All (Contains classes) new
  pub all : (c : ClassId) → Contains classes c → Contains more c

-- these are the class and what it stands under, and nothing else
pub record AreFound (direct : List (List ClassId)) (class' : ClassId) (found : List ClassId) : Type 0 where
  pub exact : (c : ClassId) → Contains found c ↔ IsUnder direct class' c

-- what the class stands under has a mark, and nothing else
pub record AreAbove (direct : List (List ClassId)) (class' : ClassId) (marks : List Bool) : Type 0 where
  pub exact : (c : ClassId) → (is_marked marks c ≡ true) ↔ IsUnder direct class' c
