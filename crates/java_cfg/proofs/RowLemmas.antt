-- Lemmas on rows of arcs.
use Rattle.std.proofs.Common.{◌≡◌, refl, ap, List, [], ◌∷◌}
use Rattle.std.specs.Prelude.{◌||◌}
use Rattle.std.specs.Global.{Vec}
use Rattle.program_model.specs.declared.program.Program.{Program}
use Rattle.java_cfg.specs.declared.arc.Arc.{Arc}
use Rattle.java_cfg.specs.RowTests.{any_large, any_large_row, has_large_arc, rows_of}

-- the test of the rows, by what they hold
pub any_rows : (p : Program) (rows : List (Vec Arc)) → any_large_row p rows ≡ any_large p (rows_of rows)
any_rows p [] = refl
any_rows p (row ∷ rows) = ap (λ b. has_large_arc p row.items || b) (any_rows p rows)
