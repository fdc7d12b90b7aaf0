use Rattle.frame_laws.proofs.TargetLaws.{targets_step}
use Rattle.frame_laws.proofs.frames.targets_step.Goals as goal

pub returns : goal.returns
returns c = targets_step
