use Rattle.safety_examples.proofs.WrappingAccepted.{has_main}
use Rattle.safety_examples.proofs.wrapping.wrapping_has_main.Goals as goal

pub returns : goal.returns
returns c = has_main
