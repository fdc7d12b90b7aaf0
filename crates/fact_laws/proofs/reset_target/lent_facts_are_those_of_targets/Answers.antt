use Rattle.fact_laws.proofs.ResetTargets.{lent_facts}
use Rattle.fact_laws.proofs.reset_target.lent_facts_are_those_of_targets.Goals as goal

pub returns : goal.returns
returns c = lent_facts
