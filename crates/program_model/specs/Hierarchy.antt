-- Super types (JLS 4.10.2, 8.1.4, 8.1.5, 9.1.3) and ignored exceptions.
use Rattle.std.specs.Prelude.{◌≡◌, ◌⊎◌, ◌↔◌, ◌<◌, ℕ, Bool, true, false, Some, List, [], ◌∷◌, ◌++◌, map, length, Contains, Any}
use Rattle.std.specs.List.Sorted.{IsStrictlyIncreasing}
use Rattle.program_model.specs.declared.kinds.ClassId.{ClassId}
use Rattle.program_model.specs.declared.program.Program.{Program}
use Rattle.program_model.specs.declared.program.Class.{Class}
use Rattle.program_model.specs.Lookups.{class_at, optional}

-- the number of a class
abbrev pub class_number : ClassId → ℕ
class_number c = c.0

abbrev pub HasClass : Program → ClassId → Type 0
HasClass p c = c.0 < length p.classes.items

abbrev pub implied_super : Program → Bool → List ClassId
implied_super p true = p.core.object ∷ []
implied_super p false = []

-- the super class and the super interfaces that a class names, and Object for an interface
abbrev pub direct_supers : Program → Class → List ClassId
direct_supers p k = optional k.sup ++ k.faces.items ++ implied_super p k.interface

abbrev pub IsDirectSuper : Program → ClassId → ClassId → Type 0
IsDirectSuper p c d = (k : Class) × (class_at p c ≡ Some k) × Contains (direct_supers p k) d

-- `c` is `d` or a subclass of it: the reflexive and transitive relation of super types
pub data IsUnder (p : Program) : ClassId → ClassId → Type 0 where
  itself : (c : ClassId) → IsUnder p c c
  above : (c e d : ClassId) → IsDirectSuper p c e → IsUnder p e d → IsUnder p c d

-- exceptions of the class are ignored: it is under a class of the one list, or stands in the other itself
abbrev pub IsIgnored : Program → ClassId → Type 0
IsIgnored p c = Any (λ d. IsUnder p c d) p.ignored.items ⊎ Contains p.exact.items c

-- these are the class and all classes above it, each once, in class order
pub record IsAbove (p : Program) (c : ClassId) (classes : List ClassId) : Type 0 where
  pub ordered : IsStrictlyIncreasing (map class_number classes)
  pub exact : (d : ClassId) → Contains classes d ↔ IsUnder p c d

-- what holds of the super types of one class
pub record HasSupers (p : Program) (c : ClassId) (k : Class) : Type 0 where
  pub known : (d : ClassId) → IsDirectSuper p c d → HasClass p d
  pub acyclic : (d : ClassId) → IsDirectSuper p c d → IsUnder p d c → ⊥
  pub above : IsAbove p c k.above.items

-- super types are classes of the program, none is above itself, and each class lists those above it
pub record IsHierarchy (p : Program) : Type 0 where
  pub supers : (c : ClassId) (k : Class) → class_at p c ≡ Some k → HasSupers p c k
