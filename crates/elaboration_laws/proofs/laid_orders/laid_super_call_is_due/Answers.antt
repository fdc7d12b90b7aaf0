-- The law is a lemma over the definitions alone.
use Rattle.elaboration_laws.proofs.Heads.{begins_so}
use Rattle.elaboration_laws.proofs.laid_orders.laid_super_call_is_due.Goals as goal

pub returns : goal.returns
returns c = begins_so
