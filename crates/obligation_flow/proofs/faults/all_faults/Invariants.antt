use Rattle.std.proofs.Common.{◌≡◌, take}
use Rattle.std.specs.Prelude.{map}
use Rattle.obligation_flow.specs.Faults.{AreNamed, breach_of}
use Rattle.obligation_flow.proofs.faults.all_faults.Given as goal

abbrev pub invariant-each : goal.invariant-each
invariant-each l = record {
  breaches : map breach_of l.faults.items ≡ take l.breach-index l.breaches;
  named : AreNamed l.origins.keys l.faults.items;
}
