use Rattle.fact_laws.proofs.Ends.{end_row}
use Rattle.fact_laws.proofs.owned_fact.owed_fact_at_ends.Goals as goal

pub returns : goal.returns
returns c = end_row
