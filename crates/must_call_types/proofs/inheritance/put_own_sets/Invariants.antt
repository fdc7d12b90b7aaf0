use Rattle.std.proofs.Common.{◌≡◌, map, take, drop}
use Rattle.must_call_types.specs.MustSets.{with_own_set}
use Rattle.must_call_types.proofs.inheritance.put_own_sets.Given as goal

abbrev pub invariant-loop-class : goal.invariant-loop-class
invariant-loop-class l = record {
  done : take l.class-index l.classes ≡ map (with_own_set l.names) (take l.class-index l.initial.classes);
  left : drop l.class-index l.classes ≡ drop l.class-index l.initial.classes;
}
