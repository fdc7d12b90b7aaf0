use Rattle.std.proofs.Common.{◌≡◌, ℕ, List, length, take}
use Rattle.rlc_base.specs.Names.{texts}
use Rattle.class_names.specs.ClassNames.{row_of, rows_in, simply_named_from}
use Rattle.class_names.proofs.rows.rows_of.Given as goal

abbrev pub invariant-loop-i : goal.invariant-loop-i
invariant-loop-i l = record {
  beside : length l.rows.items ≡ length l.names.keys;
  rows : (n : List ℕ) → row_of (texts l.names.keys) (rows_in l.rows.items) n ≡ simply_named_from 0 n (take l.i l.classes);
}
