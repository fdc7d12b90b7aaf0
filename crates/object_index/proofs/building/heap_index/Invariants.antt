use Rattle.std.proofs.Common.{◌≡◌, ℕ, ◌≤◌, Some, true}
use Rattle.ledger_state.specs.declared.object.Object.{Object}
use Rattle.ledger_state.specs.Heaps.{object_at}
use Rattle.object_index.specs.ObjectIndexes.{is_indexed}
use Rattle.object_index.proofs.building.heap_index.Given as goal

-- each object before the place is in the index
abbrev pub invariant-each : goal.invariant-each
invariant-each l = (k : ℕ) (x : Object) → k ≤ l.place → object_at l.heap k ≡ Some x → is_indexed l.index k x ≡ true
