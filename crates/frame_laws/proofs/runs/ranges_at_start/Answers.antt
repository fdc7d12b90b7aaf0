use Rattle.frame_laws.proofs.RangeLaws.{ranges_at_start}
use Rattle.frame_laws.proofs.runs.ranges_at_start.Goals as goal

pub returns : goal.returns
returns c = ranges_at_start
