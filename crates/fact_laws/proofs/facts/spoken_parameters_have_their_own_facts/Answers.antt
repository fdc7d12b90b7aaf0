use Rattle.fact_laws.proofs.Origins.{parameters_own}
use Rattle.fact_laws.proofs.facts.spoken_parameters_have_their_own_facts.Goals as goal

pub returns : goal.returns
returns c = parameters_own
