use Rattle.soundness_laws.proofs.SoundnessRuns.{accepted_is_safe}
use Rattle.safety_examples.specs.LendingPrograms.{lending}
use Rattle.safety_examples.proofs.LendingAccepted.{accepted, lending_files}
use Rattle.safety_examples.proofs.lending.lending_is_safe.Goals as goal

pub returns : goal.returns
returns c = accepted_is_safe lending accepted lending_files
