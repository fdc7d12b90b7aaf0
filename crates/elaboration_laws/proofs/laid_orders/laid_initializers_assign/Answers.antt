-- The law is a lemma over the definitions alone.
use Rattle.elaboration_laws.proofs.Initializers.{initialized_so}
use Rattle.elaboration_laws.proofs.laid_orders.laid_initializers_assign.Goals as goal

pub returns : goal.returns
returns c = initialized_so
