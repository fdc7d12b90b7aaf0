use Rattle.std.proofs.Common.{◌≡◌, nat_eq, take}
use Rattle.indexmap.specs.IndexSet.{insert_all}
use Rattle.draft_stages.proofs.aliases.add_numbers.Given as goal

abbrev pub invariant-each : goal.invariant-each
invariant-each l = l.among.keys ≡ insert_all nat_eq l.fn.among.keys (take l.number-index l.numbers)
