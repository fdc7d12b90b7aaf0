use Rattle.step_laws.proofs.TargetWays.{start_finds_this}
use Rattle.step_laws.proofs.target_step.start_finds_this.Goals as goal

pub returns : goal.returns
returns c = start_finds_this
