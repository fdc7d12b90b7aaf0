-- The law is a lemma over the definitions alone.
use Rattle.elaboration_laws.proofs.BodyTyping.{body_typed}
use Rattle.elaboration_laws.proofs.body_typing.accepted_body_is_typed.Goals as goal

pub returns : goal.returns
returns c = body_typed
