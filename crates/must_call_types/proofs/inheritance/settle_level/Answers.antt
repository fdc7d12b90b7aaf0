use Rattle.must_call_types.proofs.Settling.{graded_kept}
use Rattle.must_call_types.proofs.inheritance.settle_level.Goals as goal

pub settle_at-requires-clause-graded : goal.settle_at-requires-clause-graded
settle_at-requires-clause-graded c = graded_kept c.args.classes.now c.loop-class.classes c.loop-class.invariant.kept c.requires.graded
