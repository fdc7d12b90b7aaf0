-- The law is a lemma over the definitions alone.
use Rattle.elaboration_laws.proofs.LaidVariables.{laid_declare}
use Rattle.elaboration_laws.proofs.variable_orders.laid_variables_are_declared.Goals as goal

pub returns : goal.returns
returns c = laid_declare
