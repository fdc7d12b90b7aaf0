use Rattle.soundness_laws.proofs.SoundnessRuns.{accepted_is_safe}
use Rattle.safety_examples.specs.ThrowingPrograms.{throwing}
use Rattle.safety_examples.proofs.ThrowingAccepted.{accepted, throwing_files}
use Rattle.safety_examples.proofs.throwing.throwing_is_safe.Goals as goal

pub returns : goal.returns
returns c = accepted_is_safe throwing accepted throwing_files
