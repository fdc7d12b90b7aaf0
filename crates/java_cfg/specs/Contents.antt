-- What contracts see of a graph: its nodes and its rows of arcs.
use Rattle.std.specs.Prelude.{List}
use Rattle.java_control.specs.Remaining.{Todo}
use Rattle.java_cfg.specs.declared.arc.Arc.{Arc}
use Rattle.java_cfg.specs.declared.graph.Graph.{Graph}
use Rattle.java_cfg.specs.RowTests.{rows_of}
use Rattle.java_cfg.specs.Tables.{controls}

-- the controls that the nodes of a graph stand for
unfoldable pub nodes_of : Graph → List (List Todo)
nodes_of g = controls g.lists.cells.keys g.numbers.keys

-- the arcs of each node
unfoldable pub arcs_of : Graph → List (List Arc)
arcs_of g = rows_of g.rows.items
