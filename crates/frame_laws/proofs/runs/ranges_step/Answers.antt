use Rattle.frame_laws.proofs.RangeLaws.{ranges_step}
use Rattle.frame_laws.proofs.runs.ranges_step.Goals as goal

pub returns : goal.returns
returns c = ranges_step
