use Rattle.safety_examples.proofs.OpeningAccepted.{has_main}
use Rattle.safety_examples.proofs.opening.opening_has_main.Goals as goal

pub returns : goal.returns
returns c = has_main
