-- The law is a lemma over the definitions alone.
use Rattle.elaboration_laws.proofs.TableNames.{table_names_are}
use Rattle.elaboration_laws.proofs.laws.names_are_those_of_the_table.Goals as goal

pub returns : goal.returns
returns c = table_names_are
