use Rattle.soundness_laws.proofs.SoundnessRuns.{accepted_is_safe}
use Rattle.safety_examples.specs.WrappingPrograms.{wrapping}
use Rattle.safety_examples.proofs.WrappingAccepted.{accepted, wrapping_files}
use Rattle.safety_examples.proofs.wrapping.wrapping_is_safe.Goals as goal

pub returns : goal.returns
returns c = accepted_is_safe wrapping accepted wrapping_files
