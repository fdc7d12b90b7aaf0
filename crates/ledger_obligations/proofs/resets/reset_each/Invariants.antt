use Rattle.std.proofs.Common.{◌≡◌, ◌++◌, drop, take}
use Rattle.ledger_obligations.specs.Obligations.{reset_in}
use Rattle.ledger_state.specs.Heaps.{changed_from}
use Rattle.ledger_obligations.proofs.resets.reset_each.Given as goal

-- the objects before the place are changed
abbrev pub invariant-each : goal.invariant-each
invariant-each l = l.objects ≡ changed_from 1 (reset_in l.p l.before l.roots) (take l.place l.fn.objects) ++ drop l.place l.fn.objects
