use Rattle.soundness_laws.proofs.SoundnessRuns.{accepted_is_safe}
use Rattle.safety_examples.specs.ExtendingPrograms.{extending}
use Rattle.safety_examples.proofs.ExtendingAccepted.{accepted, extending_files}
use Rattle.safety_examples.proofs.extending.extending_is_safe.Goals as goal

pub returns : goal.returns
returns c = accepted_is_safe extending accepted extending_files
