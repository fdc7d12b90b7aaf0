-- What indexing answers.
use Rattle.std.specs.Prelude.{◌≡◌, ◌≢◌, List, []}
use Rattle.class_names.specs.declared.class_name.ClassName.{ClassName}
use Rattle.class_names.specs.declared.names.Indexed.{Indexed}
use Rattle.class_names.specs.declared.names.Indexed.TheVariants.{Names, Doubles}
use Rattle.class_names.specs.ClassNames.{doubles}

-- the index of the classes, or those that have the name of an earlier one
abbrev pub IsIndexed : List ClassName → Indexed → Type 0
IsIndexed classes (Names names) = (names ≡ classes) × (doubles classes ≡ [])
IsIndexed classes (Doubles found) = (found.items ≡ doubles classes) × (found.items ≢ [])
