use Rattle.std.proofs.Common.{◌≡◌, ◌++◌, take}
use Rattle.graph_words.specs.Arcs.{row_lines}
use Rattle.graph_words.proofs.arcs.put_row.Given as goal

abbrev pub invariant-each : goal.invariant-each
invariant-each l = l.into ≡ l.initial.into ++ row_lines l.p l.body l.node (take l.arc-index l.row)
