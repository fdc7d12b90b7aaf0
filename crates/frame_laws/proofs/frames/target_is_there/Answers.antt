use Rattle.frame_laws.proofs.TargetLaws.{target_is_there}
use Rattle.frame_laws.proofs.frames.target_is_there.Goals as goal

pub returns : goal.returns
returns c = target_is_there
