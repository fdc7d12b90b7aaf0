use Rattle.std.proofs.Common.{length, map, take}
use Rattle.class_names.specs.ClassNames.{rows_in}
use Rattle.class_names.specs.Meanings.{unit_of}
use Rattle.class_order.specs.Cases.{IsAmong, IsLeast}
use Rattle.class_declarations.specs.Members.{written_of}
use Rattle.super_checks.specs.Readiness.{AreReady}
use Rattle.super_checks.specs.SuperCases.{IsThrowsIn}
use Rattle.super_checks.proofs.throws.throws_among.Given as goal

abbrev pub invariant-loop-tree : goal.invariant-loop-tree
invariant-loop-tree l = record {
  least : IsLeast (IsAmong (IsThrowsIn l.hierarchy.names.now (rows_in l.hierarchy.direct.now) l.hierarchy.throwable (unit_of l.scope)) (map written_of (take l.tree-index l.trees))) l.found;
  ready : AreReady (length l.hierarchy.direct.now) l.marks.items;
}
