use Rattle.std.proofs.Common.{◌≡◌, length, take}
use Rattle.rlc_base.specs.Names.{texts}
use Rattle.class_table.specs.Numbers.{AreNumbers}
use Rattle.class_table.proofs.numbers.member_numbers.Given as goal

abbrev pub invariant-loop-i : goal.invariant-loop-i
invariant-loop-i l = record {
  length : length l.rows.items ≡ l.count;
  numbers : AreNumbers l.count (take l.i l.owners) (texts l.rows.items);
}
