use Rattle.fact_laws.proofs.Origins.{this_own}
use Rattle.fact_laws.proofs.facts.this_has_its_own_fact.Goals as goal

pub returns : goal.returns
returns c = this_own
