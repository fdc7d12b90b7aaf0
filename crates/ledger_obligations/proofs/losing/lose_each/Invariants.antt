use Rattle.std.proofs.Common.{◌≡◌, ◌∷◌, ◌++◌, drop, map, reverse, take}
use Rattle.ledger_obligations.specs.Obligations.{held_in, lost_object}
use Rattle.ledger_state.specs.Heaps.{changed_from}
use Rattle.ledger_state.specs.Locals.{held}
use Rattle.ledger_obligations.proofs.losing.lose_each.Given as goal

-- the objects before the place are changed
abbrev pub invariant-each : goal.invariant-each
invariant-each l = l.objects ≡ changed_from 1 (lost_object l.before (held l.top ∷ map held_in (reverse l.below))) (take l.place l.fn.objects) ++ drop l.place l.fn.objects
