-- Trees that are the same, wherever they lie in memory, and stops that tell the same.
use Rattle.std.specs.Prelude.{◌≡◌, map}
use Rattle.rlc_base.specs.declared.faults.Stop.{Stop}
use Rattle.rlc_base.specs.declared.faults.Stop.TheVariants as stops
use Rattle.java_syntax.specs.DeclarationTrees.{unit_of}
use Rattle.program_front.specs.declared.trees.Trees.{Trees}

-- the sections of the stub files and the trees of the sources are the same
pub record AreSameTrees (t u : Trees) : Type 0 where
  pub sections : map (λ sections. map unit_of sections.items) t.stubs.items ≡ map (λ sections. map unit_of sections.items) u.stubs.items
  pub units : map unit_of t.sources.items ≡ map unit_of u.sources.items

-- The stops are one, where memory did not run out. Of one at a tree that is too deep the code is told, and not the place.
abbrev pub AreSameStops : Stop → Stop → Type 0
AreSameStops stops.NoMemory other = Unit {0}
AreSameStops (stops.Refused r) (stops.Refused q) = r ≡ q
AreSameStops (stops.Refused r) (stops.TooMuch q) = ⊥
AreSameStops (stops.Refused r) stops.NoMemory = Unit {0}
AreSameStops (stops.TooMuch r) (stops.Refused q) = ⊥
AreSameStops (stops.TooMuch r) (stops.TooMuch q) = r.code ≡ q.code
AreSameStops (stops.TooMuch r) stops.NoMemory = Unit {0}
