use Rattle.safety_examples.proofs.CarefulAccepted.{accepted}
use Rattle.safety_examples.proofs.laws.careful_is_accepted.Goals as goal

pub returns : goal.returns
returns c = accepted
