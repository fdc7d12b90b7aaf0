use Rattle.safety_examples.proofs.WrappingAccepted.{accepted}
use Rattle.safety_examples.proofs.wrapping.wrapping_is_accepted.Goals as goal

pub returns : goal.returns
returns c = accepted
