use Rattle.safety_examples.proofs.ReconnectingAccepted.{accepted}
use Rattle.safety_examples.proofs.reconnecting.reconnecting_is_accepted.Goals as goal

pub returns : goal.returns
returns c = accepted
