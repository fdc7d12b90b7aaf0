use Rattle.std.proofs.Common.{◌≡◌, ◌≤◌, ◌++◌, drop, length}
use Rattle.std.specs.Prelude.{flat_map}
use Rattle.java_control.specs.Statements.{closes}
use Rattle.control_actions.specs.Remaining.{todos}
use Rattle.control_actions.specs.Tables.{Keeps, list_at}
use Rattle.java_control.proofs.statements.closed.Given as goal

abbrev pub invariant-loop-left : goal.invariant-loop-left
invariant-loop-left l = record {
  list : todos (list_at l.lists.cells.keys l.at) ≡ flat_map (closes l.s l.d) (drop l.left l.resources) ++ todos (list_at l.fn.lists.cells.keys l.rest);
  within : l.at ≤ length l.lists.cells.keys;
  kept : Keeps l.fn.lists.cells.keys l.lists.cells.keys;
  some : l.left ≤ length l.resources;
}

abbrev pub decreases-loop-left : goal.decreases-loop-left
decreases-loop-left l = l.left
