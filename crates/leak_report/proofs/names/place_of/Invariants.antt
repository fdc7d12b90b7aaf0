use Rattle.std.proofs.Common.{◌≡◌, ◌++◌, drop, take}
use Rattle.leak_report.specs.MissingNames.{placed}
use Rattle.leak_report.proofs.names.place_of.Given as goal

abbrev pub invariant-each : goal.invariant-each
invariant-each l = placed l.p l.name l.names ≡ take l.at l.names ++ placed l.p l.name (drop l.at l.names)
