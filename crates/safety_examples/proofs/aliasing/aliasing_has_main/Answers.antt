use Rattle.safety_examples.proofs.AliasAccepted.{has_main}
use Rattle.safety_examples.proofs.aliasing.aliasing_has_main.Goals as goal

pub returns : goal.returns
returns c = has_main
