use Rattle.std.proofs.Common.{◌≡◌, ◌++◌, take}
use Rattle.leak_report.specs.MissingNames.{names_text}
use Rattle.leak_report.proofs.names.put_names.Given as goal

abbrev pub invariant-each : goal.invariant-each
invariant-each l = l.into ≡ l.initial.into ++ names_text l.p (take l.name-index l.names)
