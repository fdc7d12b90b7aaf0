use Rattle.std.proofs.Common.{length, map, take}
use Rattle.class_names.specs.ClassNames.{rows_in}
use Rattle.class_order.specs.Cases.{IsAmong, IsLeast}
use Rattle.class_order.specs.Declarations.{declaration_of}
use Rattle.super_checks.specs.Readiness.{AreReady}
use Rattle.super_checks.specs.SuperCases.{IsThrowsOf}
use Rattle.super_checks.proofs.throws.throws_refusal.Given as goal

abbrev pub invariant-loop-class : goal.invariant-loop-class
invariant-loop-class l = record {
  least : IsLeast (IsAmong (IsThrowsOf l.hierarchy.names.now (rows_in l.hierarchy.direct.now) l.hierarchy.throwable) (map declaration_of (take l.class-index l.order))) l.found;
  ready : AreReady (length l.hierarchy.direct.now) l.marks.items;
}
