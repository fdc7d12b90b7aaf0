use Rattle.std.proofs.Common.{◌≡◌, take}
use Rattle.std.specs.List.{flat_map}
use Rattle.ledger_obligations.specs.Obligations.{follows}
use Rattle.spread_notes.proofs.follows.all_follows.Given as goal

abbrev pub invariant-each : goal.invariant-each
invariant-each l = l.further.items ≡ flat_map (follows l.p l.heap) (take l.a-index l.notes)
