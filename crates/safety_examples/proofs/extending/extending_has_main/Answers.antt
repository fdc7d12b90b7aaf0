use Rattle.safety_examples.proofs.ExtendingAccepted.{has_main}
use Rattle.safety_examples.proofs.extending.extending_has_main.Goals as goal

pub returns : goal.returns
returns c = has_main
