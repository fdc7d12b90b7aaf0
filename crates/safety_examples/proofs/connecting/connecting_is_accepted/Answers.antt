use Rattle.safety_examples.proofs.ConnectingAccepted.{accepted}
use Rattle.safety_examples.proofs.connecting.connecting_is_accepted.Goals as goal

pub returns : goal.returns
returns c = accepted
