use Rattle.fact_laws.proofs.KeptFacts.{held_is_argument}
use Rattle.fact_laws.proofs.facts.held_facts_are_those_of_the_argument.Goals as goal

pub returns : goal.returns
returns c = held_is_argument
