use Rattle.std.proofs.Common.{length, take}
use Rattle.class_names.specs.ClassNames.{rows_in}
use Rattle.class_names.specs.Meanings.{unit_of}
use Rattle.class_order.specs.Cases.{IsAmong, IsLeast}
use Rattle.super_checks.specs.Readiness.{AreReady}
use Rattle.super_checks.specs.SuperCases.{IsThrowsAt}
use Rattle.super_checks.proofs.throws.throws_in.Given as goal

abbrev pub invariant-loop-name : goal.invariant-loop-name
invariant-loop-name l = record {
  least : IsLeast (IsAmong (IsThrowsAt l.hierarchy.names.now (rows_in l.hierarchy.direct.now) l.hierarchy.throwable (unit_of l.scope)) (take l.name-index l.clause)) l.found;
  ready : AreReady (length l.hierarchy.direct.now) l.marks.items;
}
