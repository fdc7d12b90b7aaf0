use Rattle.fact_laws.proofs.AliasFacts.{parameter_holds, this_holds}
use Rattle.fact_laws.proofs.facts.alias_facts_hold_in_their_parameter.Goals as goal

pub returns : goal.returns
returns c = record { parameter = parameter_holds; this = this_holds }
