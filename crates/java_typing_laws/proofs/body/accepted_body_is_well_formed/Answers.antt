-- The law is a lemma over the definitions alone.
use Rattle.java_typing_laws.proofs.BodyLaws.{body_well}
use Rattle.java_typing_laws.proofs.body.accepted_body_is_well_formed.Goals as goal

pub returns : goal.returns
returns c = body_well
