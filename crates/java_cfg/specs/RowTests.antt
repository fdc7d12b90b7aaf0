-- A test on the arcs of a graph for actions that name a place that no set of places holds.
use Rattle.std.specs.Prelude.{Bool, not, List, map}
use Rattle.std.specs.Global.{Vec}
use Rattle.std.specs.List.{list_any}
use Rattle.program_model.specs.declared.program.Program.{Program}
use Rattle.java_cfg.specs.declared.arc.Arc.{Arc}
use Rattle.java_cfg.specs.SmallTests.{is_small_action}

-- the arc's action names such a place
abbrev pub is_large : Program → Arc → Bool
is_large p a = not (is_small_action p a.action)

abbrev pub has_large_arc : Program → List Arc → Bool
has_large_arc p row = list_any (λ (a : Arc). is_large p a) row

abbrev pub any_large : Program → List (List Arc) → Bool
any_large p rows = list_any (λ (row : List Arc). has_large_arc p row) rows

-- the same test, of rows as they are kept
abbrev pub any_large_row : Program → List (Vec Arc) → Bool
any_large_row p rows = list_any (λ (row : Vec Arc). has_large_arc p row.items) rows

-- the arcs of each row
abbrev pub rows_of : List (Vec Arc) → List (List Arc)
rows_of rows = map (λ (row : Vec Arc). row.items) rows
