use Rattle.soundness_laws.proofs.SoundnessRuns.{accepted_is_safe}
use Rattle.safety_examples.specs.ReconnectingPrograms.{reconnecting}
use Rattle.safety_examples.proofs.ReconnectingAccepted.{accepted, reconnecting_files}
use Rattle.safety_examples.proofs.reconnecting.reconnecting_is_safe.Goals as goal

pub returns : goal.returns
returns c = accepted_is_safe reconnecting accepted reconnecting_files
