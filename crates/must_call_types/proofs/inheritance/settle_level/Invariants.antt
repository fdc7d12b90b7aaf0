use Rattle.std.proofs.Common.{◌≡◌, map}
use Rattle.must_call_types.specs.MustSets.{but_set, IsSettledTo}
use Rattle.must_call_types.proofs.inheritance.settle_level.Given as goal

abbrev pub invariant-loop-class : goal.invariant-loop-class
invariant-loop-class l = record {
  kept : map but_set l.classes ≡ map but_set l.initial.classes;
  settled : IsSettledTo l.classes l.size l.class;
}
