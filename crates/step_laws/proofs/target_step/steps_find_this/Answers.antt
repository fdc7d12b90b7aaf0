use Rattle.step_laws.proofs.TargetWays.{steps_find_this}
use Rattle.step_laws.proofs.target_step.steps_find_this.Goals as goal

pub returns : goal.returns
returns c = steps_find_this
