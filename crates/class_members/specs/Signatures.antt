-- Method signatures (JLS 8.4.2).
use Rattle.std.specs.Prelude.{Bool, ◌&&◌}
use Rattle.std.specs.Str.{bytes_eq}
use Rattle.program_model.specs.declared.program.Method.{Method}
use Rattle.program_model.specs.Overrides.{are_types}

-- one name and one list of parameter types
abbrev pub have_one_signature : Method → Method → Bool
have_one_signature m n = bytes_eq m.name n.name && are_types m.sig.params.items n.sig.params.items
