use Rattle.fact_laws.proofs.Going.{moves_away}
use Rattle.fact_laws.proofs.fact_step.moved_fact_is_not_owned.Goals as goal

pub returns : goal.returns
returns c = moves_away
