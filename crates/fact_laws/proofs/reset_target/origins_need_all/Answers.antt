use Rattle.fact_laws.proofs.Needs.{origin_needs_all}
use Rattle.fact_laws.proofs.reset_target.origins_need_all.Goals as goal

pub returns : goal.returns
returns c = origin_needs_all
