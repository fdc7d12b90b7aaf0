-- The law is a lemma over the definitions alone.
use Rattle.elaboration_laws.proofs.ElaboratedLaws.{elaborated_typed}
use Rattle.elaboration_laws.proofs.elaborated_programs.elaborated_program_is_typed.Goals as goal

pub returns : goal.returns
returns c = elaborated_typed
