use Rattle.std.proofs.Common.{◌↔◌, IsTrue, length, take}
use Rattle.std.specs.List.{All}
use Rattle.class_names.specs.ClassNames.{rows_in}
use Rattle.super_checks.specs.Readiness.{AreReady, IsPairUnder}
use Rattle.super_checks.proofs.exceptions.are_under.Given as goal

abbrev pub invariant-loop-pair : goal.invariant-loop-pair
invariant-loop-pair l = record {
  under : IsTrue l.all ↔ All (IsPairUnder (rows_in l.direct)) (take l.pair-index l.pairs);
  ready : AreReady (length l.direct) l.marks.items;
}
