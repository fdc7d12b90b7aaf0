use Rattle.std.proofs.Common.{◌≡◌, []}
use Rattle.std.specs.Prelude.{replicate}
use Rattle.rlc_base.specs.Names.{texts}
use Rattle.class_table.proofs.numbers.empty_rows.Given as goal

abbrev pub invariant-loop-row : goal.invariant-loop-row
invariant-loop-row l = texts l.rows.items ≡ replicate l._row []
