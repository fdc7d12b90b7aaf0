-- The lines of a graph: the counts of its nodes and arcs, and its arcs, in the order of their nodes and of the steps of each.
use Rattle.std.specs.Prelude.{ℕ, zero, suc, ◌+◌, Bool, List, [], ◌++◌, codes, decimal, cond, length, slice_get, unwrap_or}
use Rattle.std.specs.List.{flat_map}
use Rattle.program_model.specs.declared.program.Program.{Program}
use Rattle.program_model.specs.declared.tree.Body.{Body}
use Rattle.program_texts.specs.Texts.{line_text}
use Rattle.control_actions.specs.declared.action.Edge.{Edge}
use Rattle.control_actions.specs.declared.action.Edge.TheVariants as edges
use Rattle.java_cfg.specs.declared.arc.Arc.{Arc}
use Rattle.graph_words.specs.Actions.{action_word}
use Rattle.graph_words.specs.Names.{class_word}

-- the way by which a step goes on
abbrev pub edge_word : Program → Edge → List ℕ
edge_word p edges.Go = codes "go"
edge_word p edges.Null = codes "null"
edge_word p edges.NonNull = codes "nonnull"
edge_word p edges.True = codes "true"
edge_word p edges.False = codes "false"
edge_word p (edges.Throws c) = codes "throws " ++ class_word p c

-- the node to which an arc leads, and its place
abbrev pub arc_end : Arc → List ℕ
arc_end a = codes " " ++ (decimal a.to ++ (codes " " ++ (line_text a.pos ++ codes "\n")))

-- an arc of a node: the node, what the step does, the way that it goes, the node to which it leads, and its place
abbrev pub arc_line : Program → Body → ℕ → Arc → List ℕ
arc_line p b node a = decimal node ++ (codes " " ++ (action_word p b a.action ++ (codes " " ++ (edge_word p a.edge ++ arc_end a))))

-- the arcs of a node
abbrev pub row_at : List (List Arc) → ℕ → List Arc
row_at rows node = unwrap_or (slice_get rows node) []

abbrev pub row_lines : Program → Body → ℕ → List Arc → List ℕ
row_lines p b node row = flat_map (arc_line p b node) row

-- the arcs of the nodes with a number below
abbrev pub arc_lines : Program → Body → List (List Arc) → ℕ → List ℕ
arc_lines p b rows zero = []
arc_lines p b rows (suc node) = arc_lines p b rows node ++ row_lines p b node (row_at rows node)

-- how many arcs the nodes with a number below have
abbrev pub arc_count : List (List Arc) → ℕ → ℕ
arc_count rows zero = 0
arc_count rows (suc node) = arc_count rows node + length (row_at rows node)

abbrev pub counts_line : List (List Arc) → ℕ → List ℕ
counts_line rows nodes = decimal nodes ++ (codes " nodes, " ++ (decimal (arc_count rows nodes) ++ codes " arcs\n"))

-- a graph of so many nodes, with or without its arcs
abbrev pub graph_lines : Program → Body → Bool → List (List Arc) → ℕ → List ℕ
graph_lines p b with_arcs rows nodes = counts_line rows nodes ++ cond with_arcs (arc_lines p b rows nodes) []
