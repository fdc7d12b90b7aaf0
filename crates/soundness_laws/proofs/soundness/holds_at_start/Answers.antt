use Rattle.soundness_laws.proofs.SoundnessRuns.{holds_at_start}
use Rattle.soundness_laws.proofs.soundness.holds_at_start.Goals as goal

pub returns : goal.returns
returns c = holds_at_start
