use Rattle.fact_laws.proofs.Resetting.{answered_target}
use Rattle.fact_laws.proofs.fact_step.target_is_answered.Goals as goal

pub returns : goal.returns
returns c = answered_target
