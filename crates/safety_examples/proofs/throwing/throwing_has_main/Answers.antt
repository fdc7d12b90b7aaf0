use Rattle.safety_examples.proofs.ThrowingAccepted.{has_main}
use Rattle.safety_examples.proofs.throwing.throwing_has_main.Goals as goal

pub returns : goal.returns
returns c = has_main
