-- The law is a lemma over the definitions alone.
use Rattle.elaboration_laws.proofs.Heads.{headless_parts}
use Rattle.elaboration_laws.proofs.laid_orders.parts_are_no_heads.Goals as goal

pub returns : goal.returns
returns c = headless_parts
