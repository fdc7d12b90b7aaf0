use Rattle.safety_examples.proofs.ReopeningAccepted.{has_main}
use Rattle.safety_examples.proofs.reopening.reopening_has_main.Goals as goal

pub returns : goal.returns
returns c = has_main
