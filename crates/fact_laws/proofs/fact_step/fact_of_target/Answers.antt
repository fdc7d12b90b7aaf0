use Rattle.fact_laws.proofs.Resetting.{target_goes}
use Rattle.fact_laws.proofs.fact_step.fact_of_target.Goals as goal

pub returns : goal.returns
returns c = target_goes
