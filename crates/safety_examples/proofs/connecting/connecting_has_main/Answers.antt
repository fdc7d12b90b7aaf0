use Rattle.safety_examples.proofs.ConnectingAccepted.{has_main}
use Rattle.safety_examples.proofs.connecting.connecting_has_main.Goals as goal

pub returns : goal.returns
returns c = has_main
