use Rattle.fact_laws.proofs.Storing.{stores}
use Rattle.fact_laws.proofs.fact_step.fact_at_stores.Goals as goal

pub returns : goal.returns
returns c = stores
