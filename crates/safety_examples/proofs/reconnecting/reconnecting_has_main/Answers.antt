use Rattle.safety_examples.proofs.ReconnectingAccepted.{has_main}
use Rattle.safety_examples.proofs.reconnecting.reconnecting_has_main.Goals as goal

pub returns : goal.returns
returns c = has_main
