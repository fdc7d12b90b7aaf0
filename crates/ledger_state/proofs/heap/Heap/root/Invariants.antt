use Rattle.std.proofs.Common.{◌≡◌, ◌-◌}
use Rattle.ledger_state.specs.Heaps.{root, root_within}
use Rattle.ledger_state.proofs.heap.Heap.root.Given as goal

abbrev pub invariant-links : goal.invariant-links
invariant-links l = root l.self l.number ≡ root_within (l.end - l.counter) l.self l.at
