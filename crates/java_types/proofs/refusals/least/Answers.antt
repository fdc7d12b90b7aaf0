use Rattle.java_types.proofs.LeastSteps.{least_step}
use Rattle.java_types.proofs.refusals.least.Goals as goal

pub loop-refusal-preserved : goal.loop-refusal-preserved
loop-refusal-preserved c = least_step c.args.refusals.now c.loop-refusal.refusal-index _ c.loop-refusal.found c.lesser_of-found.result c.loop-refusal-test.true c.lesser_of-found.ensures c.loop-refusal.invariant
