-- The law is a lemma over the definitions alone.
use Rattle.elaboration_laws.proofs.BodyTyping.{body_has_parameters, body_variables_declarable}
use Rattle.elaboration_laws.proofs.body_typing.accepted_body_has_its_variables.Goals as goal

pub returns-clause-declarable : goal.returns-clause-declarable
returns-clause-declarable c = body_variables_declarable

pub returns-clause-parameters : goal.returns-clause-parameters
returns-clause-parameters c = body_has_parameters
