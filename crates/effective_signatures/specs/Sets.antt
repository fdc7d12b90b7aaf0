-- The sets of names that annotations list.
use Rattle.std.specs.Prelude.{ℕ, nat_lt, Option, Some, None, List, length, fold, codes, if◌then◌else◌}
use Rattle.std.specs.FinSet as set
use Rattle.rlc_base.specs.Names.{place_of}
use Rattle.program_model.specs.declared.program.RawAnno.{RawAnno}
use Rattle.program_model.specs.NameSets.{Names, no_names}
use Rattle.annotation_kinds.specs.declared.annotation.AnnotationKind.TheVariants as annotations
use Rattle.annotation_kinds.specs.Annotations.{first_of, texts_at}

abbrev pub with_number : List (List ℕ) → Names → List ℕ → Names
with_number table names text = if nat_lt (place_of table text) (length table) then set.insert names (place_of table text) else names

-- the numbers that the table has for these names
abbrev pub numbers_of : List (List ℕ) → List (List ℕ) → Names
numbers_of table texts = fold (with_number table) no_names texts

abbrev pub value_set : List (List ℕ) → Option RawAnno → Option Names
value_set table None = None
value_set table (Some a) = Some (numbers_of table (texts_at a (codes "value")))

-- the set of a class's own annotation; of several the first counts
abbrev pub own_set : List (List ℕ) → List RawAnno → Option Names
own_set table annos = value_set table (first_of annotations.InheritableMustCall annos)

abbrev pub own_or : Option Names → Names → Names
own_or None inherited = inherited
own_or (Some own) inherited = own
