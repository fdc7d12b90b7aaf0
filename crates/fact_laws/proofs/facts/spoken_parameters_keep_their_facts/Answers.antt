use Rattle.fact_laws.proofs.KeptFacts.{parameter_stays}
use Rattle.fact_laws.proofs.facts.spoken_parameters_keep_their_facts.Goals as goal

pub returns : goal.returns
returns c = parameter_stays
