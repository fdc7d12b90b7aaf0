use Rattle.std.proofs.Common.{◌≡◌, drop}
use Rattle.ledger_obligations.specs.Obligations.{joined}
use Rattle.spread_notes.proofs.follows.join.Given as goal

-- what the rest makes of the notes so far is what all make of the first ones
abbrev pub invariant-each : goal.invariant-each
invariant-each l = joined l.notes.items (drop l.a-index l.further) ≡ joined l.fn.notes.items l.further
