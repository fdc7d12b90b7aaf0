-- The law is a lemma over the definitions alone.
use Rattle.elaboration_laws.proofs.DistinctBodies.{bodies_distinct}
use Rattle.elaboration_laws.proofs.source_bodies.source_bodies_are_of_distinct_methods.Goals as goal

pub returns : goal.returns
returns c = bodies_distinct
