use Rattle.soundness_laws.proofs.SoundnessRuns.{accepted_is_safe}
use Rattle.safety_examples.specs.OpeningPrograms.{opening}
use Rattle.safety_examples.proofs.OpeningAccepted.{accepted, opening_files}
use Rattle.safety_examples.proofs.opening.opening_is_safe.Goals as goal

pub returns : goal.returns
returns c = accepted_is_safe opening accepted opening_files
