use Rattle.safety_examples.proofs.ResettingAccepted.{has_main}
use Rattle.safety_examples.proofs.resetting.resetting_has_main.Goals as goal

pub returns : goal.returns
returns c = has_main
