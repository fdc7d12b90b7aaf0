use Rattle.soundness_laws.proofs.SoundnessRuns.{accepted_is_safe}
use Rattle.safety_examples.specs.ConnectingPrograms.{connecting}
use Rattle.safety_examples.proofs.ConnectingAccepted.{accepted, connecting_files}
use Rattle.safety_examples.proofs.connecting.connecting_is_safe.Goals as goal

pub returns : goal.returns
returns c = accepted_is_safe connecting accepted connecting_files
