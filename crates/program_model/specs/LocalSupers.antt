-- What one class shows of the super types, from the lists of the classes right above it.
use Rattle.std.specs.Prelude.{◌≡◌, ◌⊎◌, ◌<◌, List, map, length, All, Any, Contains}
use Rattle.std.specs.Option.{IsSomeAnd}
use Rattle.std.specs.List.Sorted.{IsStrictlyIncreasing}
use Rattle.program_model.specs.declared.kinds.ClassId.{ClassId}
use Rattle.program_model.specs.declared.program.Program.{Program}
use Rattle.program_model.specs.Lookups.{class_at}
use Rattle.program_model.specs.Hierarchy.{class_number}

-- the class lists `d`
abbrev pub Lists : Program → ClassId → ClassId → Type 0
Lists p c d = IsSomeAnd (class_at p c) (λ k. Contains k.above.items d)

-- `d` is one of these classes
unfoldable pub IsAmong : List ClassId → ClassId → Type 0
IsAmong classes d = Contains classes d

-- all that `e` lists is among these classes, and they are more
abbrev pub IsBelow : Program → List ClassId → ClassId → Type 0
IsBelow p classes e = IsSomeAnd (class_at p e) (λ k. (length k.above.items < length classes) × All (IsAmong classes) k.above.items)

-- `d` is the class itself, or one of those right above it lists it
abbrev pub IsSupported : Program → ClassId → List ClassId → ClassId → Type 0
IsSupported p c supers d = (d ≡ c) ⊎ Any (λ e. Lists p e d) supers

-- what a class lists, beside what those right above it list
pub record HasLocalSupers (p : Program) (c : ClassId) (classes supers : List ClassId) : Type 0 where
  pub ordered : IsStrictlyIncreasing (map class_number classes)
  pub itself : Contains classes c
  pub below : All (IsBelow p classes) supers
  pub only : All (IsSupported p c supers) classes
