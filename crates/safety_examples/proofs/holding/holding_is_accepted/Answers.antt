use Rattle.safety_examples.proofs.OwnerAccepted.{accepted}
use Rattle.safety_examples.proofs.holding.holding_is_accepted.Goals as goal

pub returns : goal.returns
returns c = accepted
