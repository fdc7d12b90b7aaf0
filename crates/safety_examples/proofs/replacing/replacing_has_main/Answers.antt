use Rattle.safety_examples.proofs.ReplacingAccepted.{has_main}
use Rattle.safety_examples.proofs.replacing.replacing_has_main.Goals as goal

pub returns : goal.returns
returns c = has_main
