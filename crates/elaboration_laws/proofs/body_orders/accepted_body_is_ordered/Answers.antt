-- The law is a lemma over the definitions alone.
use Rattle.elaboration_laws.proofs.OrderedBodies.{body_ordered}
use Rattle.elaboration_laws.proofs.body_orders.accepted_body_is_ordered.Goals as goal

pub returns : goal.returns
returns c = body_ordered
