use Rattle.fact_laws.proofs.Going.{other_steps}
use Rattle.fact_laws.proofs.fact_step.fact_at_other_steps.Goals as goal

pub returns : goal.returns
returns c = other_steps
