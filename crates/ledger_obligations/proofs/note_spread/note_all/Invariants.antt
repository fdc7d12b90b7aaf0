use Rattle.std.proofs.Common.{◌≡◌, ◌++◌, drop, take}
use Rattle.ledger_obligations.specs.Obligations.{noted_object}
use Rattle.ledger_state.specs.Heaps.{changed_from}
use Rattle.ledger_obligations.proofs.note_spread.note_all.Given as goal

-- the objects before the place are changed
abbrev pub invariant-each : goal.invariant-each
invariant-each l = l.objects ≡ changed_from 1 (noted_object l.notes) (take l.place l.fn.objects) ++ drop l.place l.fn.objects
