use Rattle.fact_laws.proofs.OwedFacts.{owed}
use Rattle.fact_laws.proofs.owned_fact.fact_is_owed.Goals as goal

pub returns : goal.returns
returns c = owed
