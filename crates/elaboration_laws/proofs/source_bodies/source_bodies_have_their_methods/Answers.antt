-- The law is a lemma over the definitions alone.
use Rattle.elaboration_laws.proofs.SourceBodies.{source_bodies}
use Rattle.elaboration_laws.proofs.source_bodies.source_bodies_have_their_methods.Goals as goal

pub returns : goal.returns
returns c = source_bodies
