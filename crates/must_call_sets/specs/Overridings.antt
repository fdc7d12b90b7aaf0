-- All overridings of a program.
use Rattle.std.specs.Prelude.{List, map, length}
use Rattle.std.specs.List.{flat_map, range_with_len}
use Rattle.program_model.specs.declared.kinds.ClassId.{ClassId}
use Rattle.program_model.specs.declared.program.Program.{Program}
use Rattle.program_model.specs.Overrides.{Overriding, overrides_in}

-- all classes of a program, in class order
abbrev pub class_ids : Program → List ClassId
class_ids p = map (λ c. record { 0 = c }) (range_with_len 0 (length p.classes.items))

-- all overridings of a program, by the classes that declare or run the overriding methods
abbrev pub overridings : Program → List Overriding
overridings p = flat_map (overrides_in p) (class_ids p)
