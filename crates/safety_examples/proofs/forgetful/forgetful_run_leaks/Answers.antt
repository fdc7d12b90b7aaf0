use Rattle.safety_examples.proofs.ForgetfulRun.{leaks}
use Rattle.safety_examples.proofs.forgetful.forgetful_run_leaks.Goals as goal

pub returns : goal.returns
returns c = leaks
