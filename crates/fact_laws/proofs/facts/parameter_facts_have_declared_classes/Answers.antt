use Rattle.fact_laws.proofs.AliasFacts.{parameter_class, this_class}
use Rattle.fact_laws.proofs.facts.parameter_facts_have_declared_classes.Goals as goal

pub returns : goal.returns
returns c = record { parameter = parameter_class; this = this_class }
