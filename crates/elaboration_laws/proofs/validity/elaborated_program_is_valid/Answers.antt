-- The law is a lemma over the definitions alone.
use Rattle.elaboration_laws.proofs.BuiltStrings.{elaborated_valid}
use Rattle.elaboration_laws.proofs.validity.elaborated_program_is_valid.Goals as goal

pub returns : goal.returns
returns c = elaborated_valid
