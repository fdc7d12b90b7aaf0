use Rattle.step_laws.proofs.TargetSources.{temps_keep_this}
use Rattle.step_laws.proofs.target_step.temps_keep_this.Goals as goal

pub returns : goal.returns
returns c = temps_keep_this
