use Rattle.std.proofs.Common.{◌≡◌, ◌≤◌, ◌++◌, drop, length}
use Rattle.java_control.specs.Statements.{declaration_front}
use Rattle.control_actions.specs.Remaining.{todos}
use Rattle.control_actions.specs.Tables.{Keeps, list_at}
use Rattle.java_control.proofs.statements.declaration.Given as goal

abbrev pub invariant-loop-left : goal.invariant-loop-left
invariant-loop-left l = record {
  list : todos (list_at l.lists.cells.keys l.at) ≡ declaration_front l.body l.d (drop l.left l.names) ++ todos (list_at l.fn.lists.cells.keys l.rest);
  within : l.at ≤ length l.lists.cells.keys;
  kept : Keeps l.fn.lists.cells.keys l.lists.cells.keys;
  some : l.left ≤ length l.names;
}

abbrev pub decreases-loop-left : goal.decreases-loop-left
decreases-loop-left l = l.left
