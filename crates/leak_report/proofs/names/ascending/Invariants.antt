use Rattle.std.proofs.Common.{◌≡◌}
use Rattle.leak_report.specs.MissingNames.{ascending_below}
use Rattle.leak_report.proofs.names.ascending.Given as goal

abbrev pub invariant-each : goal.invariant-each
invariant-each l = l.sorted.items ≡ ascending_below l.p l.names l.number
