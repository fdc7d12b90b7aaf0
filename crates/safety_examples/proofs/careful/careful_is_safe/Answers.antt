use Rattle.safety_examples.specs.CarefulPrograms.{careful}
use Rattle.safety_examples.proofs.CarefulAccepted.{accepted, careful_files}
use Rattle.soundness_laws.proofs.SoundnessRuns.{accepted_is_safe}
use Rattle.safety_examples.proofs.careful.careful_is_safe.Goals as goal

pub returns : goal.returns
returns c = accepted_is_safe careful accepted careful_files
