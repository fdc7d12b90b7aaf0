-- The law is a lemma over the definitions alone.
use Rattle.elaboration_laws.proofs.MethodsWithBodies.{has_bodies}
use Rattle.elaboration_laws.proofs.validity.elaborated_program_has_bodies.Goals as goal

pub returns : goal.returns
returns c = has_bodies
