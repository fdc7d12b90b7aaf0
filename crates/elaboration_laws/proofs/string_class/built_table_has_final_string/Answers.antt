-- The law is a lemma over the definitions alone.
use Rattle.elaboration_laws.proofs.FinalString.{final_string}
use Rattle.elaboration_laws.proofs.string_class.built_table_has_final_string.Goals as goal

pub returns : goal.returns
returns c = final_string
