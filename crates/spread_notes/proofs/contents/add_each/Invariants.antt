use Rattle.std.proofs.Common.{◌≡◌, ◌++◌, take}
use Rattle.std.specs.List.{flat_map}
use Rattle.ledger_obligations.specs.Obligations.{keep_own}
use Rattle.spread_notes.proofs.contents.add_each.Given as goal

abbrev pub invariant-each : goal.invariant-each
invariant-each l = l.into.items ≡ l.fn.into.items ++ flat_map (keep_own l.p l.heap l.this) (take l.promise-index l.promises)
