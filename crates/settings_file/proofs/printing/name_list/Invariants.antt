use Rattle.std.proofs.Common.{◌≡◌, map, take}
use Rattle.toml.specs.Data.{string}
use Rattle.toml.specs.View.{view}
use Rattle.settings_file.proofs.printing.name_list.Given as goal

abbrev pub invariant-each : goal.invariant-each
invariant-each l = map view l.values.items ≡ map string (take l.name-index l.names)
