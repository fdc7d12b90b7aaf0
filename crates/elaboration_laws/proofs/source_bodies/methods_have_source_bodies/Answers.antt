-- The law is a lemma over the definitions alone.
use Rattle.elaboration_laws.proofs.RunningBodies.{methods_have_bodies}
use Rattle.elaboration_laws.proofs.source_bodies.methods_have_source_bodies.Goals as goal

pub returns : goal.returns
returns c = methods_have_bodies
