use Rattle.soundness_laws.proofs.SoundnessRuns.{accepted_is_safe}
use Rattle.safety_examples.specs.ReopeningPrograms.{reopening}
use Rattle.safety_examples.proofs.ReopeningAccepted.{accepted, reopening_files}
use Rattle.safety_examples.proofs.reopening.reopening_is_safe.Goals as goal

pub returns : goal.returns
returns c = accepted_is_safe reopening accepted reopening_files
