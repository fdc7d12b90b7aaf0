use Rattle.std.proofs.Common.{◌≡◌, ◌≤◌, ◌++◌, drop, length, map}
use Rattle.java_control.specs.Changes.{highest_steps, step_in}
use Rattle.java_control.specs.Control.{step_at}
use Rattle.java_control.specs.Exceptions.{throws}
use Rattle.control_actions.specs.Remaining.{todos}
use Rattle.control_actions.specs.Tables.{Keeps, list_at}
use Rattle.java_control.proofs.actions.add_throws.Given as goal

abbrev pub invariant-loop-class : goal.invariant-loop-class
invariant-loop-class l = record {
  steps : map (step_in l.lists.cells.keys) l.steps.items ++ map (step_at l.pos) (map (throws l.action l.place (todos (list_at l.fn.lists.cells.keys l.rest))) (drop l.class-index l.classes)) ≡ map (step_in l.fn.lists.cells.keys) l.fn.steps.items ++ map (step_at l.pos) (map (throws l.action l.place (todos (list_at l.fn.lists.cells.keys l.rest))) l.classes);
  within : highest_steps l.steps.items ≤ length l.lists.cells.keys;
  kept : Keeps l.fn.lists.cells.keys l.lists.cells.keys;
  rest : list_at l.lists.cells.keys l.rest ≡ list_at l.fn.lists.cells.keys l.rest;
}
