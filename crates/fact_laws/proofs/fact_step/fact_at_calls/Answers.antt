use Rattle.fact_laws.proofs.Resetting.{calls}
use Rattle.fact_laws.proofs.fact_step.fact_at_calls.Goals as goal

pub returns : goal.returns
returns c = calls
