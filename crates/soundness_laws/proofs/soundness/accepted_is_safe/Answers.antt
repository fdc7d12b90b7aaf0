use Rattle.soundness_laws.proofs.SoundnessRuns.{accepted_is_safe}
use Rattle.soundness_laws.proofs.soundness.accepted_is_safe.Goals as goal

pub returns : goal.returns
returns c = accepted_is_safe
