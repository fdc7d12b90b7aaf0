-- The names that must be called on the objects of a type (Checker Framework manual, Must Call Checker).
use Rattle.std.specs.Prelude.{Bool, not, ◌||◌, Option, Some, None}
use Rattle.std.specs.FinSet as set
use Rattle.program_model.specs.declared.kinds.ClassId.{ClassId}
use Rattle.program_model.specs.declared.kinds.VType.{VType}
use Rattle.program_model.specs.declared.kinds.VType.TheVariants as types
use Rattle.program_model.specs.declared.program.Program.{Program}
use Rattle.program_model.specs.declared.program.Class.{Class}
use Rattle.program_model.specs.Lookups.{class_at}
pub use Rattle.program_model.specs.NameSets.{Names, no_names, is_empty}

abbrev pub must_in : Option Class → Names
must_in None = no_names
must_in (Some k) = k.must

-- the must-call set of a class
abbrev pub must_of : Program → ClassId → Names
must_of p c = must_in (class_at p c)

-- the must-call set of a type; only class types have one that is not empty
abbrev pub must_of_type : Program → VType → Names
must_of_type p (types.Obj c) = must_of p c
must_of_type p _ = no_names

abbrev pub must_of_optional : Program → Option VType → Names
must_of_optional p None = no_names
must_of_optional p (Some t) = must_of_type p t

-- what must be called on objects of `c` must be called on those of `d`
abbrev pub fits : Program → ClassId → ClassId → Bool
fits p c d = set.is_subset (must_of p c) (must_of p d)

-- some method must be called on objects of the class
abbrev pub is_heavy_class : Program → ClassId → Bool
is_heavy_class p c = not (is_empty (must_of p c))

-- ---- an object of a class that moves to a declared type

-- some method must be called on objects of the class, or on those of the type
abbrev pub is_heavy_as : Program → ClassId → Option VType → Bool
is_heavy_as p c t = is_heavy_class p c || not (is_empty (must_of_optional p t))

-- what must be called on objects of the class must be called on those of the type
abbrev pub fits_type : Program → ClassId → Option VType → Bool
fits_type p c t = set.is_subset (must_of p c) (must_of_optional p t)

-- what must be called on objects of the class and need not be on those of the type
abbrev pub beyond_type : Program → ClassId → Option VType → Names
beyond_type p c t = set.difference (must_of p c) (must_of_optional p t)
