-- The law is a lemma over the definitions alone.
use Rattle.elaboration_laws.proofs.Heads.{heads_first}
use Rattle.elaboration_laws.proofs.laid_orders.laid_heads_come_first.Goals as goal

pub returns : goal.returns
returns c = heads_first
