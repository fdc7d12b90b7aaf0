use Rattle.std.proofs.Common.{◌≡◌, ◌++◌, drop, take}
use Rattle.ledger_obligations.specs.Obligations.{given_up_by_holder}
use Rattle.ledger_state.specs.Heaps.{changed_from}
use Rattle.ledger_obligations.proofs.heap_changes.end_holder_of.Given as goal

-- the objects before the place are changed
abbrev pub invariant-each : goal.invariant-each
invariant-each l = l.objects ≡ changed_from 1 (given_up_by_holder l.holder) (take l.place l.fn.objects) ++ drop l.place l.fn.objects
