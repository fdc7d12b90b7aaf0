use Rattle.soundness_laws.proofs.SoundnessRuns.{accepted_is_safe}
use Rattle.safety_examples.specs.ResettingPrograms.{resetting}
use Rattle.safety_examples.proofs.ResettingAccepted.{accepted, resetting_files}
use Rattle.safety_examples.proofs.resetting.resetting_is_safe.Goals as goal

pub returns : goal.returns
returns c = accepted_is_safe resetting accepted resetting_files
