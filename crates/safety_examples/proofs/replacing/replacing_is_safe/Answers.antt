use Rattle.soundness_laws.proofs.SoundnessRuns.{accepted_is_safe}
use Rattle.safety_examples.specs.ReplacingPrograms.{replacing}
use Rattle.safety_examples.proofs.ReplacingAccepted.{accepted, replacing_files}
use Rattle.safety_examples.proofs.replacing.replacing_is_safe.Goals as goal

pub returns : goal.returns
returns c = accepted_is_safe replacing accepted replacing_files
