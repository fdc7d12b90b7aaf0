-- What the code's values of steps mean.
use Rattle.std.specs.Prelude.{ℕ, max, List, [], ◌∷◌}
use Rattle.control_actions.specs.declared.cell.Cell.{Cell}
use Rattle.control_actions.specs.declared.triple.Triple.{Triple}
use Rattle.java_control.specs.Control.{Step}
use Rattle.control_actions.specs.Remaining.{todos}
use Rattle.control_actions.specs.Tables.{list_at}

-- the step that a triple over a table means
abbrev pub step_in : List Cell → Triple → Step
step_in cells s = record { action = s.action; edge = s.edge; to = todos (list_at cells s.to); pos = s.pos }

abbrev pub highest_steps : List Triple → ℕ
highest_steps [] = 0
highest_steps (x ∷ xs) = max x.to (highest_steps xs)
