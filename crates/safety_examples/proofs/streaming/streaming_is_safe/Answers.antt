use Rattle.soundness_laws.proofs.SoundnessRuns.{accepted_is_safe}
use Rattle.safety_examples.specs.StreamingPrograms.{streaming}
use Rattle.safety_examples.proofs.StreamingAccepted.{accepted, streaming_files}
use Rattle.safety_examples.proofs.streaming.streaming_is_safe.Goals as goal

pub returns : goal.returns
returns c = accepted_is_safe streaming accepted streaming_files
