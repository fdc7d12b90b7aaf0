use Rattle.std.proofs.Common.{◌≡◌, ◌+◌, ◌≤◌, ◌++◌, ◌∷◌, drop, length}
use Rattle.expression_control.specs.Expressions.{evaluations}
use Rattle.control_actions.specs.Remaining.{Act, todos}
use Rattle.control_actions.specs.Tables.{Keeps, list_at}
use Rattle.expression_control.proofs.operands.applied.Given as goal

abbrev pub invariant-loop-left : goal.invariant-loop-left
invariant-loop-left l = record {
  list : todos (list_at l.lists.cells.keys l.at) ≡ evaluations (drop l.left l.operands) l.here ++ Act l.fn.action l.fn.pos ∷ todos (list_at l.fn.lists.cells.keys l.rest);
  within : l.at ≤ length l.lists.cells.keys;
  kept : Keeps l.fn.lists.cells.keys l.lists.cells.keys;
  some : l.left ≤ length l.operands;
  depth : l.here ≡ l.depth + l.left;
}

abbrev pub decreases-loop-left : goal.decreases-loop-left
decreases-loop-left l = l.left
