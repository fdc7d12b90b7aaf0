use Rattle.std.proofs.Common.{◌∷◌, map, reverse, take}
use Rattle.ledger_obligations.specs.Obligations.{held_in}
use Rattle.ledger_state.specs.Locals.{held}
use Rattle.heap_drafts.specs.LostObjects.{AllLost}
use Rattle.heap_drafts.proofs.losing.all_lost.Given as goal

abbrev pub invariant-each : goal.invariant-each
invariant-each l = AllLost l.heap (held l.top ∷ map held_in (reverse l.below)) (take l.number-index l.numbers) l.left.items
