use Rattle.std.proofs.Common.{◌≡◌, ◌≤◌, ◌++◌, drop, length, map}
use Rattle.java_control.specs.Changes.{highest_steps, step_in}
use Rattle.java_control.specs.Control.{step_at}
use Rattle.java_control.specs.Exceptions.{caught}
use Rattle.control_actions.specs.Remaining.{todos}
use Rattle.control_actions.specs.Tables.{Keeps, list_at}
use Rattle.java_control.proofs.completions.add_caught.Given as goal

abbrev pub invariant-loop-index : goal.invariant-loop-index
invariant-loop-index l = record {
  steps : map (step_in l.lists.cells.keys) l.steps.items ++ map (step_at l.pos) (caught l.p l.body l.s l.index (drop l.index l.clauses) l.b l.d l.t l.place (todos (list_at l.fn.lists.cells.keys l.rest))) ≡ map (step_in l.fn.lists.cells.keys) l.fn.steps.items ++ map (step_at l.pos) (caught l.p l.body l.s 0 l.clauses l.b l.d l.t l.place (todos (list_at l.fn.lists.cells.keys l.rest)));
  within : highest_steps l.steps.items ≤ length l.lists.cells.keys;
  kept : Keeps l.fn.lists.cells.keys l.lists.cells.keys;
  rest : list_at l.lists.cells.keys l.rest ≡ list_at l.fn.lists.cells.keys l.rest;
}
