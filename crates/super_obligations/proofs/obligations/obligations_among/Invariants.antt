use Rattle.std.proofs.Common.{length, map}
use Rattle.std.specs.List.{range_with_len}
use Rattle.class_order.specs.Cases.{IsAmong, IsLeast}
use Rattle.class_order.specs.Declarations.{declaration_of}
use Rattle.class_headers.specs.SuperTypes.{supers_of}
use Rattle.super_checks.specs.Readiness.{AreReady}
use Rattle.super_obligations.specs.Obligations.{IsObligationAt}
use Rattle.super_obligations.proofs.obligations.obligations_among.Given as goal

abbrev pub invariant-loop-number : goal.invariant-loop-number
invariant-loop-number l = record {
  least : IsLeast (IsAmong (IsObligationAt (map declaration_of l.order) l.sets.owns.now (map supers_of l.sets.supers.now)) (range_with_len 0 l.number)) l.found;
  ready : AreReady (length l.sets.sources.now) l.marks.items;
}
