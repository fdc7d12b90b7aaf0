use Rattle.safety_examples.proofs.ForgetfulRun.{not_safe}
use Rattle.safety_examples.proofs.forgetful.forgetful_is_not_safe.Goals as goal

pub returns : goal.returns
returns c = not_safe
