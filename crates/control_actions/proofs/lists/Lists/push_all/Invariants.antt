use Rattle.std.proofs.Common.{◌≡◌, ◌≤◌, ◌++◌, drop, length, map}
use Rattle.control_actions.specs.Remaining.{todos}
use Rattle.control_actions.specs.Tables.{Keeps, list_at, view_in}
use Rattle.control_actions.proofs.lists.Lists.push_all.Given as goal

abbrev pub invariant-loop-left : goal.invariant-loop-left
invariant-loop-left l = record {
  list : todos (list_at l.self.cells.keys l.at) ≡ map (view_in l.fn.self.cells.keys) (drop l.left l.items) ++ todos (list_at l.fn.self.cells.keys l.tail);
  within : l.at ≤ length l.self.cells.keys;
  kept : Keeps l.fn.self.cells.keys l.self.cells.keys;
  some : l.left ≤ length l.items;
}

abbrev pub decreases-loop-left : goal.decreases-loop-left
decreases-loop-left l = l.left
