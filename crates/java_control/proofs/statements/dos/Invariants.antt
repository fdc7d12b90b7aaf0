use Rattle.std.proofs.Common.{◌≡◌, ◌≤◌, ◌++◌, drop, length, map}
use Rattle.control_actions.specs.Remaining.{Do, todos}
use Rattle.control_actions.specs.Tables.{Keeps, list_at}
use Rattle.java_control.proofs.statements.dos.Given as goal

abbrev pub invariant-loop-left : goal.invariant-loop-left
invariant-loop-left l = record {
  list : todos (list_at l.lists.cells.keys l.at) ≡ map (λ s. Do s l.d) (drop l.left l.statements) ++ todos (list_at l.fn.lists.cells.keys l.rest);
  within : l.at ≤ length l.lists.cells.keys;
  kept : Keeps l.fn.lists.cells.keys l.lists.cells.keys;
  some : l.left ≤ length l.statements;
}

abbrev pub decreases-loop-left : goal.decreases-loop-left
decreases-loop-left l = l.left
