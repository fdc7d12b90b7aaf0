use Rattle.safety_examples.proofs.ReopeningAccepted.{accepted}
use Rattle.safety_examples.proofs.reopening.reopening_is_accepted.Goals as goal

pub returns : goal.returns
returns c = accepted
