use Rattle.safety_examples.proofs.OpeningAccepted.{accepted}
use Rattle.safety_examples.proofs.opening.opening_is_accepted.Goals as goal

pub returns : goal.returns
returns c = accepted
