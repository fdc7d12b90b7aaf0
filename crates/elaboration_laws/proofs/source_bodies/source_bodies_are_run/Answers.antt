-- The law is a lemma over the definitions alone.
use Rattle.elaboration_laws.proofs.RunningBodies.{source_bodies_run}
use Rattle.elaboration_laws.proofs.source_bodies.source_bodies_are_run.Goals as goal

pub returns : goal.returns
returns c = source_bodies_run
