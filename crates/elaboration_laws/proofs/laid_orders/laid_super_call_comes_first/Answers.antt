-- The law is a lemma over the definitions alone.
use Rattle.elaboration_laws.proofs.Heads.{one_super_call}
use Rattle.elaboration_laws.proofs.laid_orders.laid_super_call_comes_first.Goals as goal

pub returns : goal.returns
returns c = one_super_call
