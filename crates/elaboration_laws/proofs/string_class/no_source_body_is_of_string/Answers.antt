-- The law is a lemma over the definitions alone.
use Rattle.elaboration_laws.proofs.FinalString.{bodies_are_not_string}
use Rattle.elaboration_laws.proofs.string_class.no_source_body_is_of_string.Goals as goal

pub returns : goal.returns
returns c = bodies_are_not_string
