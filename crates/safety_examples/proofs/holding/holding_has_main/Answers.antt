use Rattle.safety_examples.proofs.OwnerAccepted.{has_main}
use Rattle.safety_examples.proofs.holding.holding_has_main.Goals as goal

pub returns : goal.returns
returns c = has_main
