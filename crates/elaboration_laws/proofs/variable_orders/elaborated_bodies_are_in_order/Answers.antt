-- The law is a lemma over the definitions alone.
use Rattle.elaboration_laws.proofs.ElaboratedVariables.{bodies_in_order}
use Rattle.elaboration_laws.proofs.variable_orders.elaborated_bodies_are_in_order.Goals as goal

pub returns : goal.returns
returns c = bodies_in_order
