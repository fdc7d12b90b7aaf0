use Rattle.safety_examples.proofs.ThrowingAccepted.{accepted}
use Rattle.safety_examples.proofs.throwing.throwing_is_accepted.Goals as goal

pub returns : goal.returns
returns c = accepted
