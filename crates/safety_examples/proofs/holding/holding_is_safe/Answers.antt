use Rattle.soundness_laws.proofs.SoundnessRuns.{accepted_is_safe}
use Rattle.safety_examples.specs.OwnerPrograms.{holding}
use Rattle.safety_examples.proofs.OwnerAccepted.{accepted, holding_files}
use Rattle.safety_examples.proofs.holding.holding_is_safe.Goals as goal

pub returns : goal.returns
returns c = accepted_is_safe holding accepted holding_files
