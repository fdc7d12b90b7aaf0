use Rattle.safety_examples.proofs.AliasAccepted.{accepted}
use Rattle.safety_examples.proofs.aliasing.aliasing_is_accepted.Goals as goal

pub returns : goal.returns
returns c = accepted
