use Rattle.std.proofs.Common.{◌≡◌, map}
use Rattle.must_call_types.specs.MustSets.{but_set, IsSettledTo}
use Rattle.must_call_types.proofs.inheritance.settle.Given as goal

abbrev pub invariant-loop-size : goal.invariant-loop-size
invariant-loop-size l = record {
  kept : map but_set l.classes ≡ map but_set l.initial.classes;
  settled : IsSettledTo l.classes l.size 0;
}
