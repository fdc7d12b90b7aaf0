use Rattle.std.proofs.Common.{◌≡◌, fold, take}
use Rattle.must_call_types.specs.MustSets.{with_set}
use Rattle.must_call_types.proofs.inheritance.join_sets.Given as goal

abbrev pub invariant-loop-class : goal.invariant-loop-class
invariant-loop-class l = l.set ≡ fold (with_set l.classes) l.fn.first (take l.class-index l.others)
