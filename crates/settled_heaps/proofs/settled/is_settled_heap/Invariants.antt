use Rattle.std.proofs.Common.{◌≡◌, ℕ, ◌≤◌, ◌∷◌, Some, true, map, reverse}
use Rattle.ledger_obligations.specs.Obligations.{held_in}
use Rattle.ledger_state.specs.declared.object.Object.{Object}
use Rattle.ledger_state.specs.Heaps.{object_at}
use Rattle.ledger_state.specs.Locals.{held}
use Rattle.settled_heaps.specs.Settled.{is_settled}
use Rattle.settled_heaps.proofs.settled.is_settled_heap.Given as goal

-- the objects before the place are settled
abbrev pub invariant-each : goal.invariant-each
invariant-each l = (k : ℕ) (x : Object) → k ≤ l.place → object_at l.heap k ≡ Some x → is_settled l.heap (held l.top ∷ map held_in (reverse l.below)) k x ≡ true
