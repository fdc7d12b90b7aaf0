use Rattle.safety_examples.proofs.ReplacingAccepted.{accepted}
use Rattle.safety_examples.proofs.replacing.replacing_is_accepted.Goals as goal

pub returns : goal.returns
returns c = accepted
