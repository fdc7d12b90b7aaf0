use Rattle.fact_laws.proofs.Ends.{result_stays}
use Rattle.fact_laws.proofs.owned_fact.result_of_no_type_stays.Goals as goal

pub returns : goal.returns
returns c = result_stays
