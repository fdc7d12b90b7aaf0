use Rattle.std.proofs.Common.{◌≡◌, ℕ, ◌≤◌, Some, true}
use Rattle.ledger_state.specs.declared.object.Object.{Object}
use Rattle.ledger_state.specs.Heaps.{object_at}
use Rattle.frame_owners.specs.FrameOwners.{is_listed, lists_in}
use Rattle.frame_owners.proofs.owners.owner_lists.Given as goal

-- each object before the place stands in the list of its frame
abbrev pub invariant-each : goal.invariant-each
invariant-each l = (k : ℕ) (x : Object) → k ≤ l.place → object_at l.heap k ≡ Some x → is_listed (lists_in l.lists.items) x.owner k ≡ true
