-- The rows of arcs of a body's graph, as a control relation over the numbers of the nodes.
use Rattle.std.specs.Prelude.{◌<◌, ◌^◌, ℕ, Option, Some, None, List, [], map, length, slice_get}
use Rattle.program_model.specs.declared.kinds.BodyId.{BodyId}
use Rattle.program_model.specs.declared.program.Program.{Program}
use Rattle.reached_pairs.specs.Searches.{IsAt}
use Rattle.java_cfg.specs.declared.arc.Arc.{Arc}
use Rattle.flow_rules.specs.WellFormed.{HasSmallInterests}
use Rattle.java_cfg.specs.SmallActions.{IsSmallAction}
use Rattle.flow_rules.specs.Births.{births_at_entry, births_of_step}
use Rattle.flow_rules.specs.Room.{HasRoom}
use Rattle.flow_rules.specs.Paths.{Comes, Move, Relation}

abbrev pub move_of : Arc → Move ℕ
move_of a = record { action = a.action; edge = a.edge; to = a.to; pos = a.pos }

abbrev pub row_in : Option (List Arc) → List Arc
row_in None = []
row_in (Some row) = row

-- the arcs of a node; none for a number that names no node
abbrev pub arcs_at : List (List Arc) → ℕ → List Arc
arcs_at rows k = row_in (slice_get rows k)

-- a body starts at node 0, and goes on along arcs
abbrev pub relation_in : List (List Arc) → Relation ℕ
relation_in rows = record { start = 0; next = λ k. map move_of (arcs_at rows k) }

-- the rows are those of a graph: its start reaches each node, and each arc leads to a node
pub record AreNodes (rows : List (List Arc)) : Type 0 where
  pub starts : 0 < length rows
  pub reached : (k : ℕ) → k < length rows → Comes (relation_in rows) k
  pub linked : (k i : ℕ) (a : Arc) → IsAt (arcs_at rows k) i a → a.to < length rows

-- Sets of places and of names have room for what the body and its arcs name, and births can be counted.
pub record FitsRows (p : Program) (b : BodyId) (rows : List (List Arc)) : Type 0 where
  pub room : HasRoom p b
  pub interests : HasSmallInterests p
  pub small : (k i : ℕ) (a : Arc) → IsAt (arcs_at rows k) i a → IsSmallAction p a.action
  pub few_at_entry : length (births_at_entry p b) < 2 ^ 32
  pub few : (k i : ℕ) (a : Arc) → IsAt (arcs_at rows k) i a → length (births_of_step p b a.action a.edge a.pos) < 2 ^ 32
