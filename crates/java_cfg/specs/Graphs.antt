-- The graph of a body: the controls that its start reaches by the control relation, and the steps of each.
use Rattle.std.specs.Prelude.{◌≡◌, ℕ, Some, List, map, length, slice_get, flat_map}
use Rattle.std.specs.List.{AllZip}
use Rattle.program_model.specs.declared.kinds.BodyId.{BodyId}
use Rattle.program_model.specs.declared.program.Program.{Program}
use Rattle.java_control.specs.Control.{Step, next_of, start_of}
use Rattle.java_control.specs.Remaining.{Todo}
use Rattle.java_cfg.specs.declared.arc.Arc.{Arc}
use Rattle.java_cfg.specs.Order.{InOrder}
use Rattle.java_cfg.specs.Reach.{AreOnce, AreReached, IsReached}

-- the controls to which one step of a control leads
abbrev pub targets_of : Program → BodyId → List Todo → List (List Todo)
targets_of p b control = map (λ (s : Step). s.to) (next_of p b control)

-- steps lead from the start of a body to the control
abbrev pub IsReachable : Program → BodyId → List Todo → Type 0
IsReachable p b control = IsReached (targets_of p b) (start_of p b) control

-- the arc is the step, and names by its place among the nodes the control that is left
pub record IsArcOf (nodes : List (List Todo)) (a : Arc) (s : Step) : Type 0 where
  pub action : a.action ≡ s.action
  pub edge : a.edge ≡ s.edge
  pub target : slice_get nodes a.to ≡ Some s.to
  pub pos : a.pos ≡ s.pos

-- the numbers of the nodes to which arcs lead, row by row
abbrev pub numbers_in : List Arc → List ℕ
numbers_in row = map (λ (a : Arc). a.to) row

-- the nodes and the rows of arcs are the graph of a body
pub record IsGraphOf (p : Program) (b : BodyId) (nodes : List (List Todo)) (rows : List (List Arc)) : Type 0 where
  -- node 0 is the start
  pub starts : slice_get nodes 0 ≡ Some (start_of p b)
  -- the nodes are the reachable controls
  pub reached : AreReached (targets_of p b) (start_of p b) nodes
  -- each once
  pub once : AreOnce nodes
  -- each node has a row
  pub rows_long : length rows ≡ length nodes
  -- the arcs of a node are the steps of its control, in order
  pub arcs : (k : ℕ) (control : List Todo) (row : List Arc) → slice_get nodes k ≡ Some control → slice_get rows k ≡ Some row → AllZip (IsArcOf nodes) row (next_of p b control)
  -- the nodes are numbered breadth first: each in the order in which the arcs of lower nodes first lead to it
  pub breadth_first : InOrder 1 (flat_map numbers_in rows)
