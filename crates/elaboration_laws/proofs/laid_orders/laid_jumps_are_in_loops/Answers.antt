-- The law is a lemma over the definitions alone.
use Rattle.elaboration_laws.proofs.Jumps.{jumps_in_loops}
use Rattle.elaboration_laws.proofs.laid_orders.laid_jumps_are_in_loops.Goals as goal

pub returns : goal.returns
returns c = jumps_in_loops
