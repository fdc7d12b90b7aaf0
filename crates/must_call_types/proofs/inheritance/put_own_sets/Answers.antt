use Rattle.must_call_types.specs.MustSets.{with_own_set}
use Rattle.effective_signatures.proofs.Maps.{left_more, map_more}
use Rattle.must_call_types.proofs.inheritance.put_own_sets.Goals as goal

pub loop-class-preserved : goal.loop-class-preserved
loop-class-preserved c = record {
  done =
      map_more (with_own_set c.args.names.now) c.args.classes.now c.loop-class.classes c.loop-class.class-index c.class-item.result _
      c.loop-class-test.true c.loop-class.auto.classes c.loop-class.invariant.done c.loop-class.invariant.left
      c.put_own_set.ensures;
  left = left_more c.args.classes.now c.loop-class.classes c.loop-class.class-index _ c.loop-class.invariant.left;
}
