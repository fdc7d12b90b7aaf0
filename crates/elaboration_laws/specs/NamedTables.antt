-- The names of the classes of a table.
use Rattle.std.specs.Prelude.{◌≡◌, List, map}
use Rattle.program_model.specs.declared.program.Program.{Program}
use Rattle.class_names.specs.declared.class_name.ClassName.{ClassName}
use Rattle.class_names.specs.ClassNames.{names_of}

-- these are the names of all classes of the table, in class order
abbrev pub AreNamesOf : Program → List ClassName → Type 0
AreNamesOf p classes = names_of classes ≡ map (λ k. k.name) p.classes.items
