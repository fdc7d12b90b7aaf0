use Rattle.soundness_laws.proofs.SoundnessRuns.{accepted_is_safe}
use Rattle.safety_examples.specs.AliasPrograms.{aliasing}
use Rattle.safety_examples.proofs.AliasAccepted.{accepted, aliasing_files}
use Rattle.safety_examples.proofs.aliasing.aliasing_is_safe.Goals as goal

pub returns : goal.returns
returns c = accepted_is_safe aliasing accepted aliasing_files
