use Rattle.std.proofs.Common.{◌≡◌, filter, take}
use Rattle.ledger_state.specs.Heaps.{is_reached}
use Rattle.draft_stages.proofs.aliases.with_roots.Given as goal

abbrev pub invariant-each : goal.invariant-each
invariant-each l = l.found.items ≡ filter (is_reached l.heap l.roots) (take l.number-index l.numbers)
