use Rattle.fact_laws.proofs.Ending.{held_stays_here}
use Rattle.fact_laws.proofs.fact_step.held_result_stays.Goals as goal

pub returns : goal.returns
returns c = held_stays_here
