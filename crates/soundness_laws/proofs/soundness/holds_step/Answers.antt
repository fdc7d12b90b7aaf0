use Rattle.soundness_laws.proofs.SoundnessRuns.{holds_step}
use Rattle.soundness_laws.proofs.soundness.holds_step.Goals as goal

pub returns : goal.returns
returns c = holds_step
