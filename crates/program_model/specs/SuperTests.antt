-- Super types and ignored exceptions as tests that compute, by what the classes list of those above them.
use Rattle.std.specs.Prelude.{Bool, ◌||◌, nat_eq, Option, Some, None, List, [], ◌∷◌}
use Rattle.std.specs.List.{list_any}
use Rattle.program_model.specs.declared.kinds.ClassId.{ClassId}
use Rattle.program_model.specs.declared.program.Program.{Program}
use Rattle.program_model.specs.declared.program.Class.{Class}
use Rattle.program_model.specs.Lookups.{class_at}

abbrev pub is_class : ClassId → ClassId → Bool
is_class c d = nat_eq c.0 d.0

abbrev pub has_class : List ClassId → ClassId → Bool
has_class cs c = list_any (λ x. is_class x c) cs

-- the class and all classes above it; a number of no class stands for itself alone
abbrev pub classes_above : ClassId → Option Class → List ClassId
classes_above c None = c ∷ []
classes_above c (Some k) = k.above.items

-- `c` is `d` or a subclass of it
abbrev pub is_under : Program → ClassId → ClassId → Bool
is_under p c d = has_class (classes_above c (class_at p c)) d

-- exceptions of the class are ignored
abbrev pub is_ignored : Program → ClassId → Bool
is_ignored p c = list_any (λ d. is_under p c d) p.ignored.items || has_class p.exact.items c
