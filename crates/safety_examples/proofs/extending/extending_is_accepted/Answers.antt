use Rattle.safety_examples.proofs.ExtendingAccepted.{accepted}
use Rattle.safety_examples.proofs.extending.extending_is_accepted.Goals as goal

pub returns : goal.returns
returns c = accepted
