use Rattle.fact_laws.proofs.Ending.{ends}
use Rattle.fact_laws.proofs.fact_step.fact_at_ends.Goals as goal

pub returns : goal.returns
returns c = ends
