use Rattle.safety_examples.proofs.ResettingAccepted.{accepted}
use Rattle.safety_examples.proofs.resetting.resetting_is_accepted.Goals as goal

pub returns : goal.returns
returns c = accepted
