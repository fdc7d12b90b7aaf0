-- What is reached from a value by steps, where `targets` lists the values to which one step may lead.
use Rattle.std.specs.Prelude.{◌≡◌, ℕ, zero, suc, Some, List, slice_get}
use Rattle.std.specs.List.{All, Contains}

module _ {C : Type 0} (targets : C → List C) where
  -- so many steps lead from one value to the other
  abbrev pub IsWalk : C → C → ℕ → Type 0
  IsWalk start end zero = start ≡ end
  IsWalk start end (suc n) = (c : C) × (IsWalk start c n × Contains (targets c) end)

  abbrev pub IsReached : C → C → Type 0
  IsReached start c = (n : ℕ) × IsWalk start c n

  -- the list holds what is reached, and nothing else
  pub record AreReached (start : C) (found : List C) : Type 0 where
    pub only : All (IsReached start) found
    pub all : (c : C) → IsReached start c → Contains found c

-- no value stands twice in the list
abbrev pub AreOnce : {X : Type 0} → List X → Type 0
AreOnce {X} xs = (i j : ℕ) (x : X) → slice_get xs i ≡ Some x → slice_get xs j ≡ Some x → i ≡ j
