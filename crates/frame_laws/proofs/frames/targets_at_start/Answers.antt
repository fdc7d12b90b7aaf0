use Rattle.frame_laws.proofs.TargetLaws.{targets_at_start}
use Rattle.frame_laws.proofs.frames.targets_at_start.Goals as goal

pub returns : goal.returns
returns c = targets_at_start
