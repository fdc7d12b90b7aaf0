use Rattle.fact_laws.proofs.OwedFacts.{kept_at_calls}
use Rattle.fact_laws.proofs.owned_fact.owed_fact_at_calls.Goals as goal

pub returns : goal.returns
returns c = kept_at_calls
