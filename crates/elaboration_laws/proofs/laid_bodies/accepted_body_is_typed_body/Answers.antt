-- The law is a lemma over the definitions alone.
use Rattle.elaboration_laws.proofs.LaidBodyLaws.{laid_body_typed}
use Rattle.elaboration_laws.proofs.laid_bodies.accepted_body_is_typed_body.Goals as goal

pub returns : goal.returns
returns c = laid_body_typed
