use Rattle.std.proofs.Common.{◌-◌, length}
use Rattle.java_cfg.specs.RowTests.{rows_of}
use Rattle.java_cfg.proofs.SearchLemmas.{IsSearch}
use Rattle.java_cfg.proofs.build.explore.Given as goal

abbrev pub invariant-nodes : goal.invariant-nodes
invariant-nodes l = IsSearch l.p l.b l.lists.cells.keys l.numbers.keys (rows_of l.rows.items)

abbrev pub decreases-nodes : goal.decreases-nodes
decreases-nodes l = 65536 - length l.rows.items
