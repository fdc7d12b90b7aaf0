use Rattle.soundness_laws.proofs.SoundnessRuns.{agree_step}
use Rattle.soundness_laws.proofs.soundness.agree_step.Goals as goal

pub returns : goal.returns
returns c = agree_step
