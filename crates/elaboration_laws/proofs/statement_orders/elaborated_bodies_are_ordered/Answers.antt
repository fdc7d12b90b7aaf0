-- The law is a lemma over the definitions alone.
use Rattle.elaboration_laws.proofs.ElaboratedBodies.{bodies_ordered}
use Rattle.elaboration_laws.proofs.statement_orders.elaborated_bodies_are_ordered.Goals as goal

pub returns : goal.returns
returns c = bodies_ordered
